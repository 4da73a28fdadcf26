-- The lemmas behind the laws.
pub mod SplicedBytes
pub mod SplicedPieces
pub mod Apart
pub mod ApartTexts
pub mod RunsApart
pub mod MarkedPieces
pub mod MarkedReports
pub mod MarkedTexts
pub mod MarkedYes
pub mod TrueMarked
