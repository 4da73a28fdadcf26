-- Lemmas on the gathering of drafts, and on hashing one part.
pub mod Adding
pub mod Digests
pub mod Halves
pub mod Listed
pub mod PartHashed
pub mod PartVisited
pub mod PassStops
pub mod Passed
pub mod ReadAlone
pub mod RowFound
pub mod RowReading
pub mod Rows
pub mod Steps
pub mod Stopped
pub mod Found
