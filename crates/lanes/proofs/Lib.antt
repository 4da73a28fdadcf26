mod Bits
mod FourWords
pub mod Messages
pub mod OfLanes
