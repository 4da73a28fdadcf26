use Rattle.std.proofs.Common.{arith}
use Rattle.opening.specs.Description.{FileEntry}
use Rattle.opening.specs.Seen.{file_entry}
use Rattle.opening.proofs.Placing.{file_there}
use Rattle.pieces.specs.Pieces.{pieces_of}
use Rattle.parts.proofs.SharedPlaces.{sum_next}
use Rattle.parts.proofs.places.place_count.Goals as goal

pub overflow_add-pieces : goal.overflow_add-pieces
overflow_add-pieces c =
    let t = c.args.torrent.now in
    let there = file_there t c.files-file-items.result.now c.files.file-index c.file-item.result c.files-file-items.ensures c.files-test.true c.file-item.is in
    let next = sum_next (λ (f : FileEntry). pieces_of t.piece_length f.length) t c.files.file-index (file_entry c.file-item.result) there in
    omega (arith, c.files.invariant, c.piece_count-pieces.ensures, next.1, c.recall_sound.ensures.laid_out.pieces)

pub files-preserved : goal.files-preserved
files-preserved c =
    let t = c.args.torrent.now in
    let there = file_there t c.files-file-items.result.now c.files.file-index c.file-item.result c.files-file-items.ensures c.files-test.true c.file-item.is in
    let next = sum_next (λ (f : FileEntry). pieces_of t.piece_length f.length) t c.files.file-index (file_entry c.file-item.result) there in
    omega (arith, c.files.invariant, c.piece_count-pieces.ensures, next.0)
