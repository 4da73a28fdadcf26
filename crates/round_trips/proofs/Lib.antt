-- Lemmas on round trips.
pub mod Alike
pub mod ChangingPlaces
pub mod CutDigests
pub mod Entries
pub mod Gathering
pub mod Good
pub mod Listings
pub mod Made
pub mod Streams
