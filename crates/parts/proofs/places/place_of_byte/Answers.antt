use Rattle.std.proofs.Common.{◌≤◌, ◌/◌, ◌+◌, ◌∙◌, ap, sym, arith}
use Rattle.std.proofs.Math.Nat.{div-le_self}
use Rattle.opening.specs.Seen.{file_entry}
use Rattle.opening.proofs.Placing.{file_there}
use Rattle.folders.proofs.Places.{start_fits}
use Rattle.parts.specs.Parts.{place_count}
use Rattle.parts.proofs.SharedPlaces.{place_here, place_later}
use Rattle.parts.proofs.places.place_of_byte.Goals as goal

pub overflow_add-result : goal.overflow_add-result
overflow_add-result c =
    let t = c.args.torrent.now in
    let f = file_entry c.file-item.result in
    let there = file_there t c.files-file-items.result.now c.files.file-index c.file-item.result c.files-file-items.ensures c.files-test.true c.file-item.is in
    let low = start_fits t c.files.file-index f c.recall_sound.ensures there in
    let within : c.files.left / c.piece_length-piece_length.result ≤ c.files.left = div-le_self c.files.left c.piece_length-piece_length.result in
    let bound = (c.recall_sound.ensures.files c.files.file-index f there).bound in
    omega (arith, low.0, within, bound, c.if-left-file.true)

pub returns-then-left-file : goal.returns-then-left-file
returns-then-left-file c =
    let t = c.args.torrent.now in
    let f = file_entry c.file-item.result in
    let there = file_there t c.files-file-items.result.now c.files.file-index c.file-item.result c.files-file-items.ensures c.files-test.true c.file-item.is in
    ap (λ p. f.first_piece + c.files.left / p) c.piece_length-piece_length.ensures
    ∙ sym (place_here t.piece_length (place_count t) t.files c.files.file-index c.files.left f there (omega (arith, c.if-left-file.true)))
    ∙ c.files.invariant

pub files-preserved : goal.files-preserved
files-preserved c =
    let t = c.args.torrent.now in
    let f = file_entry c.file-item.result in
    let there = file_there t c.files-file-items.result.now c.files.file-index c.file-item.result c.files-file-items.ensures c.files-test.true c.file-item.is in
    sym (place_later t.piece_length (place_count t) t.files c.files.file-index c.files.left f there (omega (arith, c.if-left-file.false)))
    ∙ c.files.invariant
