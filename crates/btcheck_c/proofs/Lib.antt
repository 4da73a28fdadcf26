-- What proofs share.
pub mod TwoFields
pub mod Drafts
pub mod Throughs
pub mod TreeBlocks
pub mod Taking
pub mod HeldBlocks
pub mod Placing
pub mod FilePieces
pub mod FileVerdicts
pub mod EarlyEnds
pub mod Starting
pub mod Moving
pub mod Exporting
