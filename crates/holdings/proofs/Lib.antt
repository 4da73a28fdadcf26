-- Lemmas that several proofs share.
pub mod Ranges
pub mod Aged
pub mod Rows
pub mod SettledRows
pub mod Added
pub mod LookUps
pub mod KeptPieces
pub mod GivingWay
pub mod PieceRow
pub mod Cleared
pub mod Lengths
pub mod Passing
pub mod HeldPieces
pub mod Counted
pub mod Settlements
