-- Lemmas of exports.
pub mod Leaves
pub mod Entries
pub mod KnownRanges
pub mod Order
