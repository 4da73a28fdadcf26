-- What contracts of padded blocks cite.
pub mod Padding
