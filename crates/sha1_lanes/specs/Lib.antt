pub mod Batches
pub mod Relays
