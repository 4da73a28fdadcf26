use Rattle.std.proofs.Common.{◌≡◌, ◌-◌, true, false, ◌&&◌, Bool, sym, ap, ◌∙◌, arith}
use Rattle.std.proofs.lemmas.List.{append-nil}
use Rattle.std.specs.Prelude.{nat_lt}
use Rattle.benc.specs.Text.{items_spelling, spelling}
use Rattle.benc.specs.Value.{item, no_items}
use Rattle.drafts.specs.Written.{gap, pad_value}
use Rattle.drafts.proofs.Penned.{put_as, put_none}
use Rattle.drafts.proofs.hybrid_text.put_pad.Goals.{else-zeros-gt0-via-then-zeros-gt0+else-is_followed, else-zeros-gt0-via-else-zeros-gt0}
use Rattle.drafts.proofs.hybrid_text.put_pad.Goals as goal

-- what is not so with another is not so
no_second : (a b : Bool) → b ≡ false → (a && b) ≡ false
no_second true b is = is
no_second false b is = cc

pub returns-then-is_followed : goal.returns-then-is_followed
returns-then-is_followed g c =
    let n = c.args.file.now.length in
    let zeros : c.round_up.result - n ≡ gap c.args.piece_length n = ap (λ m. m - n) c.round_up.ensures.value in
    let some : nat_lt 0 (c.round_up.result - n) ≡ true = grind arith in
    rw (ap (nat_lt 0) (sym zeros) ∙ some, c.if-is_followed.true)
    (put_as (items_spelling (item (pad_value (gap c.args.piece_length n)) no_items)) c.put_zeros.ensures
    (ap (λ z. spelling (pad_value z)) zeros ∙ sym (append-nil (spelling (pad_value (gap c.args.piece_length n))))))

pub returns-else-zeros-gt0 : goal.returns-else-zeros-gt0
returns-else-zeros-gt0 g c =
    let n = c.args.file.now.length in
    let zeros : c.round_up.result - n ≡ gap c.args.piece_length n = ap (λ m. m - n) c.round_up.ensures.value in
    let nothing = put_none c.args.pen.now (g.W.Sink.seen c.args.w.now) in
    elim c.else-zeros-gt0.branch [
      | else-zeros-gt0-via-then-zeros-gt0+else-is_followed w ↦
          rw (no_second (nat_lt 0 (gap c.args.piece_length n)) c.args.is_followed w.if-is_followed.false) nothing
      | else-zeros-gt0-via-else-zeros-gt0 w ↦
          let none : nat_lt 0 (c.round_up.result - n) ≡ false = grind (arith, w.if-zeros-gt0.false) in
          rw (ap (nat_lt 0) (sym zeros) ∙ none) nothing
    ]
