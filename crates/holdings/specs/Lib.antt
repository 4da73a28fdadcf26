-- What is held of blocks that cannot be proved yet, and how it is settled.
pub mod Cells
pub mod Settling
pub mod Holdings
pub mod Tables
pub mod Rows
pub mod Holding
pub mod Next
pub mod Runs
pub mod TruePieces
