-- A list of refusals in an array that holds nothing behind it.
use Rattle.std.proofs.Common.{◌≡◌, ℕ, suc, ◌+◌, ◌-◌, ◌<◌, List, [], ◌∷◌, ◌++◌, length, take, set, replicate, Option, None, sym, ap, ap₂, ◌∙◌, arith}
use Rattle.std.proofs.Common.{length-append, length-set}
use Rattle.std.proofs.Math.Seq.{set-append_seam, take-suc-set}
use Rattle.std.proofs.lemmas.List.{append_assoc}
use Rattle.partial_tree.specs.declared.refusal.BlockRefusal.{BlockRefusal}
use Rattle.session.specs.Blocks.{most_blocks, cells_of, IsArrayOf}

module _ (cells : List (Option BlockRefusal)) (count first : ℕ) (h : IsArrayOf cells count first) where
  module _ (r : Option BlockRefusal) (low : count < most_blocks) where
    pub pushed-list : take (count + 1) (set cells count r) ≡ take count cells ++ r ∷ []
    pushed-list =
        let next : count + 1 ≡ suc count = omega arith in
        ap (λ n. take n (set cells count r)) next ∙ take-suc-set cells count r (omega (arith, h.size, low))

    pushed-cells : cells_of (take count cells ++ r ∷ []) ≡ set cells count r
    pushed-cells =
        let xs : List (Option BlockRefusal) = take count cells in
        let rest : List (Option BlockRefusal) = replicate (16 - count) None in
        let room : most_blocks - length xs ≡ suc (16 - count) = omega (arith, h.count_is, low) in
        let left : most_blocks - length (xs ++ r ∷ []) ≡ 16 - count = omega (arith, h.count_is, low, length-append xs (r ∷ [])) in
        let before : xs ++ None ∷ rest ≡ cells = ap (λ n. xs ++ replicate n None) (sym room) ∙ h.cells_are in
        ap (λ n. (xs ++ r ∷ []) ++ replicate n None) left
        ∙ append_assoc xs (r ∷ []) rest
        ∙ sym (set-append_seam xs None rest r)
        ∙ ap₂ (λ cs n. set cs n r) before h.count_is

    pub pushed-array : IsArrayOf (set cells count r) (count + 1) first
    pushed-array = record {
      size = length-set cells count r ∙ h.size;
      count_is = ap length pushed-list ∙ (let e : length (take count cells ++ r ∷ []) ≡ count + 1 = omega (
        arith,
        length-append (take count cells) (r ∷ []),
        h.count_is,
      ) in e);
      cells_are = ap cells_of pushed-list ∙ pushed-cells;
      first_low = h.first_low;
    }
