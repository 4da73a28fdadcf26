-- What contracts of the conversion of a record cite.
pub mod Converting
pub mod Steps
