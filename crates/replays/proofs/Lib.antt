pub mod Replies
pub mod MoreFrames
pub mod Sources
pub mod ToldCases
pub mod Replays
mod Endings
pub mod ReplayEnds
mod NextReplies
pub mod SaidAll
pub mod Falling
pub mod Named
pub mod ToldByPieces
