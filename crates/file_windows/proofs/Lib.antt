-- Lemmas on windows of blocks and of cuts.
mod FileBlocks
mod FileCuts
mod FileLayers
mod LaneParts
pub mod Lengths
mod Orders
