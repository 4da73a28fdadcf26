use Rattle.std.proofs.Common.{◌≡◌, ◌+◌, ◌-◌, ℕ, max, ap, arith}
use Rattle.std.proofs.lemmas.List.Sums.{sum_by-take-le}
use Rattle.opening.specs.Description.{FileEntry}
use Rattle.opening.specs.Seen.{file_entry}
use Rattle.pieces.specs.Pieces.{pieces_of}
use Rattle.folders.proofs.Places.{pieces_next}
use Rattle.parts.proofs.HeldPieces.{begins_after, ends_before, first_touches, last_held}
use Rattle.parts.proofs.places.span_of.Goals as goal
use Rattle.parts.proofs.places.span_of.Goals.{then-last-first-via-then-last-first, then-last-first-via-else-last-first+then-places-first}

pub overflow_add-last : goal.overflow_add-last
overflow_add-last c =
    let t = c.args.torrent.now in
    let file = c.requires in
    let f_pieces : FileEntry → ℕ = λ g. pieces_of t.piece_length g.length in
    omega (
      arith,
      c.piece_count-count.ensures,
      c.max.ensures,
      pieces_next t file.0 (file_entry c.args.file.now) file.1,
      c.recall_sound.ensures.laid_out.first_pieces file.0 (file_entry c.args.file.now) file.1,
      sum_by-take-le f_pieces t.files (file.0 + 1),
      c.recall_sound.ensures.laid_out.pieces,
    )

-- the last place, as it is computed
last_is : (first count one : ℕ) (pieces : ℕ) → count ≡ pieces → one ≡ max count 1 → first + (one - 1) ≡ first + (pieces - 1)
last_is first count one pieces is at_least = omega (arith, is, at_least)

pub returns-then-last-first : goal.returns-then-last-first
returns-then-last-first c = λ touched.
    let t = c.args.torrent.now in
    let f = file_entry c.args.file.now in
    let last = last_is f.first_piece c.piece_count-count.result c.max.result _ c.piece_count-count.ensures c.max.ensures in
    elim c.then-last-first.branch [
      | then-last-first-via-then-last-first w ↦ ends_before t c.args.places f c.max-first.result _ c.max-first.ensures last w.if-last-first.true touched
      | then-last-first-via-else-last-first+then-places-first w ↦
          begins_after t c.args.places f c.max-first.result c.max-first.ensures w.if-places-first.true touched
    ]

pub returns : goal.returns
returns c =
    let t = c.args.torrent.now in
    let r = c.args.places in
    let f = file_entry c.args.file.now in
    let last = last_is f.first_piece c.piece_count-count.result c.max.result _ c.piece_count-count.ensures c.max.ensures in
    record {
      touches = first_touches t r f c.max-first.result _ c.max-first.ensures last (omega (arith, c.if-last-first.false)) (omega (
        arith,
        c.if-places-first.false,
      ));
      from_is = ap (λ h. h - f.first_piece) c.max-first.ensures;
      to_is = omega (arith, c.min.ensures, c.piece_count-count.ensures);
      ends = last_held t r f c.max-first.result (f.first_piece + (c.max.result - 1)) c.max-first.ensures last (omega (arith, c.if-last-first.false));
    }
