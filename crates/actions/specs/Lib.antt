-- What contracts of actions cite.
pub mod AutoLength
