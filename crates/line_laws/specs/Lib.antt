-- What the laws of lines say.
pub mod Plain
pub mod Values
pub mod Said
pub mod Lines
pub mod Refused
