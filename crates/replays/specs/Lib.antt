-- What contracts of the replay of a record cite.
pub mod Answering
pub mod ByPieces
pub mod Held
pub mod Outcome
pub mod ProvedLines
pub mod Replay
pub mod ReplayRows
pub mod SaidLines
pub mod Telling
pub mod TellingOf
