-- What follows from the contracts of the calls that the uses make.
pub mod Torrents
pub mod Strangers
pub mod WholePieces
pub mod Records
pub mod Judging
pub mod Archive
pub mod Making
pub mod PartsReported
pub mod PartsHashed
