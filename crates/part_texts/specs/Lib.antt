-- What contracts of the parts in which a torrent is made cite.
pub mod Divisions
pub mod Listings
pub mod Readings
pub mod Texts
