-- Digests of whole cuts, known before these are taken.
use Rattle.std.proofs.Common.{◌≡◌, ℕ, ◌+◌, ◌-◌, ◌*◌, ◌<◌, ◌≤◌, List, [], ◌++◌, take, drop, slice_index_or, ap, sym, ◌∙◌, arith, append-nil}
use Rattle.std.proofs.lemmas.List.{drop-drop, length-drop}
use Rattle.sha1.specs.Sha1.{sha1}
use Rattle.sha1_lanes.specs.Batches.{filled_at}
use Rattle.lanes.specs.declared.words.TheConstants.{LANES}
use Rattle.pieces.specs.NextCuts.{AreOfCuts}

-- the digests that are left after the first are those of the cuts after the first
pub one_taken : (digests : List (List ℕ)) (left size : ℕ) (bytes : List ℕ) → AreOfCuts digests left size bytes → left ≤ LANES → 0 < left
    → AreOfCuts digests (left - 1) size (drop size bytes)
one_taken digests left size bytes known most some =
    let less : left ≡ (left - 1) + 1 = omega (arith, some) in
    let split : left * size ≡ (left - 1) * size + size = ap (λ k. k * size) less ∙ omega arith in
    record {
      whole = omega (arith, known.whole, split, length-drop size bytes);
      are = λ i lt.
          let place : LANES - (left - 1) + i ≡ LANES - left + (i + 1) = omega (arith, most, some, lt) in
          let from : (i + 1) * size ≡ size + i * size = omega arith in
          ap (λ k. slice_index_or digests k []) place
          ∙ known.are (i + 1) (omega (arith, lt, some))
          ∙ ap (λ k. sha1 (take size (drop k bytes))) from
          ∙ ap (λ t. sha1 (take size t)) (sym (drop-drop (i * size) size bytes));
    }

-- a whole cut has no zeros after it
pub not_filled : (bytes : List ℕ) (start size : ℕ) → [] ++ filled_at bytes start size size ≡ take size (drop start bytes)
not_filled bytes start size =
    let none : size - size ≡ 0 = omega arith in
    rw none (append-nil (take size (drop start bytes)))
