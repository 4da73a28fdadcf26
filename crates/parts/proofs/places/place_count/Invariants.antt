use Rattle.std.proofs.Common.{◌≡◌, take, sum_by}
use Rattle.opening.specs.Description.{FileEntry}
use Rattle.pieces.specs.Pieces.{pieces_of}
use Rattle.parts.proofs.places.place_count.Given as goal

abbrev pub invariant-files : goal.invariant-files
invariant-files l = l.pieces ≡ sum_by (λ (f : FileEntry). pieces_of l.torrent.piece_length f.length) (take l.file-index l.torrent.files)
