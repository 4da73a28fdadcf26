pub mod Sending
pub mod Opening
pub mod Reaching
pub mod Ending
pub mod Fronts
pub mod Stopping
