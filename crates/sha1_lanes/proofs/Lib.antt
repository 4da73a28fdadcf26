mod Blocks
mod Endings
pub mod Zeros
mod Sums
