-- What contracts of lines cite.
pub mod Rows
pub mod Table
pub mod Texts
pub mod Strings
pub mod Objects
pub mod Reading
