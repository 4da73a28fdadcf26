pub mod Completing
pub mod Held
pub mod Roots
pub mod Rows
