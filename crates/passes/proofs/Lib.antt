mod HeldPlaces
mod HeldReads
mod HeldRows
mod Looking
mod Passed
pub mod Stops
mod Taking
