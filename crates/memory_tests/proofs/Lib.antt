-- Lemmas on the files of a torrent that a draft is given.
pub mod TorrentFiles
