-- The spelling of a list and of a dictionary, item by item.
use Rattle.std.proofs.Common.{◌≡◌, ℕ, ◌+◌, ◌<◌, ◌≤◌, length, List, ◌∷◌, ◌++◌, drop, get_or, sym, ap, ◌∙◌}
use Rattle.std.proofs.lemmas.List.{append-nil, drop_more}
use Rattle.std.proofs.Math.ListN.{drop_of_length-le}
use Rattle.benc.specs.Spelling.{string}
use Rattle.benc.specs.Text.{spelling, items_spelling, pairs_spelling}
use Rattle.benc.specs.View.{Seen, view, items_view, pairs_view}
use Rattle.benc.specs.declared.value.Value.{Value}
use Rattle.benc.specs.declared.value.Pair.{Pair}
use Rattle.benc.proofs.Values.{view-Pair}

-- the spellings of some items, and of some pairs
abbrev pub items_text : List Value → List ℕ
items_text vs = items_spelling (items_view vs)

abbrev pub pairs_text : List Pair → List ℕ
pairs_text ps = pairs_spelling (pairs_view ps)

-- what a loop takes at an index, and what is behind it
pub at_index : {X : Type 0} (xs : List X) (i : ℕ) (x : X) → i < length xs → x ≡ get_or xs i x → drop i xs ≡ x ∷ drop (i + 1) xs
at_index xs i x low is = drop_more xs i x low ∙ ap (λ y. y ∷ drop (i + 1) xs) (sym is)

pub next_item : (vs : List Value) (i : ℕ) (v : Value) → i < length vs → v ≡ get_or vs i v → items_text (drop i vs) ≡ spelling (view v)
    ++ items_text (drop (i + 1) vs)
next_item vs i v low is = ap items_text (at_index vs i v low is)

pub next_pair : (ps : List Pair) (i : ℕ) (p : Pair) → i < length ps → p ≡ get_or ps i p
    → pairs_text (drop i ps) ≡ string p.key.now ++ (spelling (view p.value) ++ pairs_text (drop (i + 1) ps))
next_pair ps i p low is =
    ap pairs_text (at_index ps i p low is)
    ∙ ap (λ (s : Seen). string s.0 ++ (spelling s.1 ++ pairs_text (drop (i + 1) ps))) (view-Pair p.key p.value)

-- nothing is left
pub all_items : (vs : List Value) (i : ℕ) (done : List ℕ) → length vs ≤ i → items_text vs ≡ done ++ items_text (drop i vs) → items_text vs ≡ done
all_items vs i done end e = e ∙ ap (λ ys. done ++ items_text ys) (drop_of_length-le vs end) ∙ append-nil done

pub all_pairs : (ps : List Pair) (i : ℕ) (done : List ℕ) → length ps ≤ i → pairs_text ps ≡ done ++ pairs_text (drop i ps) → pairs_text ps ≡ done
all_pairs ps i done end e = e ∙ ap (λ ys. done ++ pairs_text ys) (drop_of_length-le ps end) ∙ append-nil done
