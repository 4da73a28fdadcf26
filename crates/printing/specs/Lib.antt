-- What contracts of the printed lines cite.
pub mod Ascii
pub mod Text
pub mod Fault
pub mod Cut
