use Rattle.std.proofs.Common.{◌≡◌, drop}
use Rattle.parts.specs.Parts.{place_count}
use Rattle.parts.specs.Shares.{piece_at_byte}
use Rattle.parts.proofs.places.place_of_byte.Given as goal

abbrev pub invariant-files : goal.invariant-files
invariant-files l =
    piece_at_byte l.torrent.piece_length (place_count l.torrent) (drop l.file-index l.torrent.files) l.left
    ≡ piece_at_byte l.torrent.piece_length (place_count l.torrent) l.torrent.files l.byte
