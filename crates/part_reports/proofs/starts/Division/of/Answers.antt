use Rattle.std.proofs.Common.{arith}
use Rattle.opening.specs.Description.{FileEntry}
use Rattle.opening.specs.Seen.{file_entry}
use Rattle.opening.proofs.Placing.{file_there}
use Rattle.parts.specs.Parts.{piece_count}
use Rattle.parts.proofs.SharedPlaces.{bytes_fit, sum_next}
use Rattle.part_reports.proofs.starts.Division.of.Goals as goal

pub overflow_add-bytes : goal.overflow_add-bytes
overflow_add-bytes c =
    let t = c.args.torrent.now in
    let there = file_there t c.files-file-items.result.now c.files.file-index c.file-item.result c.files-file-items.ensures c.files-test.true c.file-item.is in
    let next = sum_next (λ (f : FileEntry). f.length) t c.files.file-index (file_entry c.file-item.result) there in
    omega (arith, c.files.invariant.bytes, next.1, bytes_fit t c.recall_sound.ensures)

pub overflow_add-pieces : goal.overflow_add-pieces
overflow_add-pieces c =
    let t = c.args.torrent.now in
    let there = file_there t c.files-file-items.result.now c.files.file-index c.file-item.result c.files-file-items.ensures c.files-test.true c.file-item.is in
    let next = sum_next (λ (f : FileEntry). piece_count t f) t c.files.file-index (file_entry c.file-item.result) there in
    omega (arith, c.files.invariant.pieces, c.piece_count-pieces.ensures, next.1, c.recall_sound.ensures.laid_out.pieces)

pub files-preserved : goal.files-preserved
files-preserved c =
    let t = c.args.torrent.now in
    let there = file_there t c.files-file-items.result.now c.files.file-index c.file-item.result c.files-file-items.ensures c.files-test.true c.file-item.is in
    let bytes = sum_next (λ (f : FileEntry). f.length) t c.files.file-index (file_entry c.file-item.result) there in
    let pieces = sum_next (λ (f : FileEntry). piece_count t f) t c.files.file-index (file_entry c.file-item.result) there in
    record {
      bytes = omega (arith, c.files.invariant.bytes, bytes.0);
      pieces = omega (arith, c.files.invariant.pieces, c.piece_count-pieces.ensures, pieces.0);
    }
