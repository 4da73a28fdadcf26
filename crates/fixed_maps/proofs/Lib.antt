-- Lemmas on entries in tiers.
pub mod Rising
pub mod Spots
pub mod Carried
pub mod Parted
pub mod Kept
