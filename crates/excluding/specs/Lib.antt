-- What contracts of a shelf without the files that are left out cite.
pub mod Excluding
