use Rattle.std.proofs.Common.{◌≡◌, ◌==◌, ◌%◌, ◌*◌, ◌/◌, ◌<◌, ℕ, true, false, List, None, length, refl, sym, ap, ◌∙◌}
use Rattle.std.proofs.Math.Nat.{mul-div_cancel_left, mul-mod_right}
use Rattle.std.proofs.lemmas.Bool.{false≢true, ne_eqb}
use Rattle.benc.proofs.Values.{view-Bytes}
use Rattle.benc.specs.Value.{text}
use Rattle.benc.specs.View.{view}
use Rattle.opening.specs.PieceLayers.{as_digests}
use Rattle.opening.proofs.digests.digests.Goals.{else-is_empty-via-then-is_empty+else-digests-count, else-is_empty-via-else-is_empty}
use Rattle.opening.proofs.digests.digests.Goals as goal

-- bytes that are not this many digests, with none left over
none : (w n : ℕ) (s : List ℕ) → 0 < w → (length s % w ≡ 0 → length s / w ≡ n → ⊥) → None ≡ as_digests w n (text s)
none w n s some other =
    let differ : length s ≡ w * n → ⊥ = λ same. other (ap (λ m. m % w) same ∙ mul-mod_right w n) (ap (λ m. m / w) same ∙ mul-div_cancel_left n some) in
    let e : (length s == w * n) ≡ false = ne_eqb (length s) (w * n) differ in
    rw e refl

pub returns-else-is_empty-clause-value : goal.returns-else-is_empty-clause-value
returns-else-is_empty-clause-value g c =
    let s = c.in-Bytes.bytes.now in
    none g.row.N c.args.count s c.requires (λ whole same. elim c.else-is_empty.branch [
      | else-is_empty-via-then-is_empty+else-digests-count w ↦ w.if-digests-count.false (c.as_chunks.ensures.front_len ∙ same)
      | else-is_empty-via-else-is_empty w ↦
          let e : (length c.as_chunks.result.1.now == 0) ≡ true = rw (c.as_chunks.ensures.back_len ∙ whole) refl in
          false≢true (sym (sym c.is_empty.ensures ∙ w.if-is_empty.false) ∙ e)
    ])
    ∙ ap (as_digests g.row.N c.args.count) (sym (ap view c.in-Bytes.is ∙ view-Bytes c.in-Bytes.bytes))
