-- Lemmas of the laws.
pub mod Cells
pub mod HeldFrom
pub mod Fewer
pub mod ProvedCame
pub mod TrueOnes
