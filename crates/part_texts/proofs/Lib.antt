-- Lemmas on the parts in which a torrent is made.
pub mod Fronts
pub mod Heads
pub mod Numbers
pub mod Listed
