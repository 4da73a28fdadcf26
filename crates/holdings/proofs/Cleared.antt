-- Cells that are emptied one after the other.
use Rattle.std.proofs.Common.{◌≡◌, ℕ, ◌+◌, ◌-◌, ◌<◌, List, [], ◌∷◌, ◌++◌, length, get_or, set, drop, replicate, Option, None, refl, sym, ap, ◌∙◌, arith}
use Rattle.std.proofs.Common.{append_assoc, drop-cons, add-one}
use Rattle.std.proofs.lemmas.List.{set-append_right, length-replicate}
use Rattle.std.proofs.lemmas.Grind.{replicate_next}
use Rattle.node_maps.specs.Digest.{Hash}
use Rattle.holdings.specs.Cells.{Cells}

first-set : (n : ℕ) (x : Option Hash) (rest : Cells) → n ≡ 0 → set (x ∷ rest) n None ≡ None ∷ rest
first-set n x rest e = ap (λ i. set (x ∷ rest) i None) e

-- one more
pub cleared-more : (n : ℕ) (cells : Cells) → n < length cells
    → set (replicate n None ++ drop n cells) n None ≡ replicate (n + 1) None ++ drop (n + 1) cells
cleared-more n cells low =
    let blank : Cells = replicate n None in
    let rest : Cells = drop (n + 1) cells in
    let open_rest : drop n cells ≡ get_or cells n None ∷ rest = drop-cons cells n None low ∙ ap (λ k. get_or cells n None ∷ drop k cells) (sym (add-one n)) in
    ap (λ t. set (blank ++ t) n None) open_rest
    ∙ set-append_right blank (get_or cells n None ∷ rest) n n None (length-replicate {A = Option Hash} n None) (omega arith)
    ∙ ap (λ t. blank ++ t) (first-set (n - n) (get_or cells n None) rest (omega arith))
    ∙ sym (append_assoc blank (None ∷ []) rest) ∙ ap (λ t. t ++ rest) (sym (replicate_next n None))
