-- What contracts of steps one after the other cite.
pub mod Chain
