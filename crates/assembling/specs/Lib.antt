-- What contracts of the assembly of a torrent cite.
pub mod Added
pub mod Adding
pub mod AllTexts
pub mod Apart
pub mod Assembly
pub mod Behind
pub mod Fronts
pub mod Heads
pub mod Late
pub mod Outcome
pub mod Reading
pub mod Reasons
pub mod Said
pub mod Sizes
pub mod Taking
pub mod Whole
