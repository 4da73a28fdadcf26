pub mod Meaning
pub mod Onward
pub mod Rows
