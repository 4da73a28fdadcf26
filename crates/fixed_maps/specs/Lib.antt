-- Ordered maps whose memory is asked for at the start.
pub mod Tiers
pub mod FixedMaps
