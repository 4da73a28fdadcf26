-- The lemmas behind the laws.
pub mod CallRounds
pub mod RepeatedRounds
pub mod Marked
pub mod CalledMarks
pub mod ClosedCalls
pub mod Replayed
pub mod OneRun
pub mod Trusting
pub mod InUse
