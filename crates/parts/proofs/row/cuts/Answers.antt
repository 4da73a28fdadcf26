use Rattle.std.proofs.Common.{◌≡◌, ◌∙◌, ◌+◌, ◌*◌, Some, ap, sym, arith}
use Rattle.std.specs.Option.{option_map}
use Rattle.opening.specs.Seen.{file_entry, version1}
use Rattle.parts.proofs.RowCuts.{part_fits}
use Rattle.parts.proofs.RowPieces.{row_places}
use Rattle.parts.proofs.row.cuts.Goals as goal

pub overflow_add-first : goal.overflow_add-first
overflow_add-first c =
    let file = c.requires.file in
    let s = c.args.span in
    let low = row_places c.args.torrent.now file.0 (file_entry c.args.file.now) s.from s.to c.recall_sound.ensures file.1 c.requires.piece
    c.requires.span.inside in
    omega (arith, low.0, c.requires.span.order)

pub overflow_add-first-in-Some : goal.overflow_add-first-in-Some
overflow_add-first-in-Some c =
    let file = c.requires.file in
    let s = c.args.span in
    let low = row_places c.args.torrent.now file.0 (file_entry c.args.file.now) s.from s.to c.recall_sound.ensures file.1 c.requires.piece
    c.requires.span.inside in
    omega (arith, low.0)

pub stream_part-requires-clause-listed : goal.stream_part-requires-clause-listed
stream_part-requires-clause-listed c =
    let t = c.args.torrent.now in
    let file = c.requires.file in
    let s = c.args.span in
    let hybrid : t.v1 ≡ Some (version1 c.in-Some.v1.now) = sym c.v1.ensures ∙ ap (option_map (λ v. version1 v.now)) c.in-Some.is in
    (part_fits t (version1 c.in-Some.v1.now) file.0 (file_entry c.args.file.now) s.from s.to c.recall_sound.ensures file.1 hybrid c.requires.piece
    c.requires.span.inside).0

pub stream_part-requires-clause-there : goal.stream_part-requires-clause-there
stream_part-requires-clause-there c =
    let t = c.args.torrent.now in
    let file = c.requires.file in
    let s = c.args.span in
    let f = file_entry c.args.file.now in
    let hybrid : t.v1 ≡ Some (version1 c.in-Some.v1.now) = sym c.v1.ensures ∙ ap (option_map (λ v. version1 v.now)) c.in-Some.is in
    let fits = part_fits t (version1 c.in-Some.v1.now) file.0 f s.from s.to c.recall_sound.ensures file.1 hybrid c.requires.piece c.requires.span.inside in
    let same : c.piece_length-piece_length.result * (f.first_piece + s.from) ≡ t.piece_length * (f.first_piece + s.from) =
    ap (λ p. p * (f.first_piece + s.from)) c.piece_length-piece_length.ensures in
    omega (arith, fits.3, same)

pub stream_part-requires-clause-fits : goal.stream_part-requires-clause-fits
stream_part-requires-clause-fits c =
    let t = c.args.torrent.now in
    let file = c.requires.file in
    let s = c.args.span in
    let f = file_entry c.args.file.now in
    let low = row_places t file.0 f s.from s.to c.recall_sound.ensures file.1 c.requires.piece c.requires.span.inside in
    let same : c.piece_length-piece_length.result * (f.first_piece + s.to) ≡ t.piece_length * (f.first_piece + s.to) =
    ap (λ p. p * (f.first_piece + s.to)) c.piece_length-piece_length.ensures in
    omega (arith, low.1, same)
