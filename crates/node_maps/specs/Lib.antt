-- Places of hash trees, and finite maps from them to hashes.
pub mod Digest
pub mod Places
pub mod Known
pub mod Nodes
pub mod Room
pub mod Runs
pub mod Flat
pub mod Cell
pub mod Rising
pub mod Pages
pub mod Growth
pub mod PageIndexes
pub mod PagedRow
pub mod Held
pub mod Paged
pub mod Needed
