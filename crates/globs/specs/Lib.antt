-- What contracts of globs cite.
pub mod Globs
pub mod Reading
pub mod Texts
pub mod Matching
