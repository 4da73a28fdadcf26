pub mod Cases
pub mod Chains
