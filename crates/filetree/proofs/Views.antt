-- A list of pairs by its first pair.
use Rattle.std.proofs.Common.{◌≡◌, ℕ, ◌+◌, ◌<◌, List, ◌∷◌, length, drop, get_or, sym, ap, ◌∙◌}
use Rattle.std.proofs.lemmas.List.{drop_more}
use Rattle.benc.specs.Value.{pair}
use Rattle.benc.specs.View.{pair_view, pairs_view}
use Rattle.benc.specs.declared.value.Pair.{Pair}

-- the first of the pairs that are left, as it is seen
pub pairs_next : (xs : List Pair) (i : ℕ) (x : Pair) → i < length xs → x ≡ get_or xs i x
    → pairs_view (drop i xs) ≡ pair (pair_view x).0 (pair_view x).1 (pairs_view (drop (i + 1) xs))
pairs_next xs i x lt is = ap pairs_view (drop_more xs i x lt ∙ ap (λ y. y ∷ drop (i + 1) xs) (sym is))
