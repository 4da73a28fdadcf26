use Rattle.std.proofs.Common.{◌≡◌, ℕ, ◌-◌, ◌*◌, min, List, length, take, drop, sym, ap, ◌∙◌, arith, length-drop, inl, inr}
use Rattle.std.proofs.lemmas.Bool.{cases_lt}
use Rattle.std.proofs.lemmas.List.{take_all}
use Rattle.partial_tree.proofs.block_digests.block_of.Goals as goal

pub returns : goal.returns
returns c =
    let from : List ℕ = drop (16384 * c.args.number) c.args.bytes.now in
    let left : ℕ = length c.args.bytes.now - 16384 * c.args.number in
    let same : take left from ≡ from = take_all left from (omega (arith, length-drop (16384 * c.args.number) c.args.bytes.now)) in
    let size : c.min.result ≡ min (length from) 16384 = c.min.ensures ∙ ap (λ (xs : List ℕ). min (length xs) 16384) same in
    ap (take c.min.result) same ∙ elim (cases_lt (length from) 16384) [
      | inl short ↦ take_all c.min.result from (omega (arith, size, short)) ∙ sym (take_all 16384 from (omega (arith, short)))
      | inr full ↦ (let whole : c.min.result ≡ 16384 = omega (arith, size, full) in ap (λ n. take n from) whole)
    ]
