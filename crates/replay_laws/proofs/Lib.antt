-- The lemmas behind the law.
pub mod Staying
pub mod Holding
pub mod KnownRuns
pub mod Entries
pub mod Settlings
pub mod OneFrame
pub mod Reports
