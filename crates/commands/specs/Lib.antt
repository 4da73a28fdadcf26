-- What the program makes of the library's answers.
pub mod Checks
pub mod Creations
pub mod MarkedParts
pub mod Outcomes
pub mod PieceReplays
