-- What contracts of a torrent's lines cite.
pub mod Refused
pub mod Rows
