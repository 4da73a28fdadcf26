-- What was given in parts of any size.
pub mod FileRoots
pub mod Held
pub mod RowChecks
