-- What proofs share.
pub mod Joining
pub mod Entries
pub mod Counting
pub mod PartsPut
pub mod FrameEnds
pub mod Piecing
pub mod Whole
