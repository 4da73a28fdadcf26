use Rattle.std.proofs.Common.{arith}
use Rattle.opening.specs.Description.{FileEntry}
use Rattle.opening.specs.Seen.{file_entry}
use Rattle.opening.proofs.Placing.{file_there}
use Rattle.parts.proofs.SharedPlaces.{bytes_fit, sum_next}
use Rattle.parts.proofs.places.byte_count.Goals as goal

pub overflow_add-bytes : goal.overflow_add-bytes
overflow_add-bytes c =
    let t = c.args.torrent.now in
    let there = file_there t c.files-file-items.result.now c.files.file-index c.file-item.result c.files-file-items.ensures c.files-test.true c.file-item.is in
    let next = sum_next (λ (f : FileEntry). f.length) t c.files.file-index (file_entry c.file-item.result) there in
    omega (arith, c.files.invariant, next.1, bytes_fit t c.recall_sound.ensures)

pub files-preserved : goal.files-preserved
files-preserved c =
    let t = c.args.torrent.now in
    let there = file_there t c.files-file-items.result.now c.files.file-index c.file-item.result c.files-file-items.ensures c.files-test.true c.file-item.is in
    let next = sum_next (λ (f : FileEntry). f.length) t c.files.file-index (file_entry c.file-item.result) there in
    omega (arith, c.files.invariant, next.0)
