-- Walks of the pairs of a directory, one pair after the other.
use Rattle.std.proofs.Common.{◌≡◌, ℕ, ◌+◌, ◌<◌, false, List, [], ◌∷◌, ◌++◌, length, map, drop, inl, inr, refl, get_or, sym, ap, subst, ◌∙◌, true, append_assoc}
use Rattle.std.proofs.lemmas.List.{map-append}
use Rattle.benc.specs.Value.{Bencode, dict, Pairs, no_pairs, pair}
use Rattle.benc.specs.View.{Seen, pair_view, pairs_view, view}
use Rattle.benc.specs.declared.value.Pair.{Pair}
use Rattle.benc.specs.declared.value.Value.{Value}
use Rattle.benc.proofs.Values.{view-Pair}
use Rattle.filetree.proofs.ComparedKeys.{and_both}
use Rattle.filetree.proofs.Views.{pairs_next}
use Rattle.filetree.specs.FileTree.{Walk, walks, below, is_dict, is_file, is_nil}
use Rattle.filetree.specs.Walked.{walk_behind, AddsBehind, HasBadPathAt, IsAsBad, walks_at, IsOnWay}

pub walked_on : (path : List (List ℕ)) (all rest : Pairs) (p : Seen) (old mid new : List Walk)
    → IsOnWay path all (pair p.0 p.1 rest) old mid → AddsBehind path (walks_at p) mid new → IsOnWay path all rest old new
walked_on path all rest p old mid new way adds = record {
  adds = way.adds ∙ ap (λ ws. mid ++ ws) (map-append (walk_behind path) (walks_at p) (walks rest))
      ∙ sym (append_assoc mid (map (walk_behind path) (walks_at p)) (map (walk_behind path) (walks rest)))
      ∙ ap (λ ws. ws ++ map (walk_behind path) (walks rest)) (sym adds);
}

-- the next of the pairs that are left, and that it is not bad
pub bad_next : (xs : List Pair) (i : ℕ) (x : Pair) → i < length xs → x ≡ get_or xs i x → IsAsBad (pairs_view xs) (pairs_view (drop i xs))
    → IsAsBad (pairs_view xs) (pair (pair_view x).0 (pair_view x).1 (pairs_view (drop (i + 1) xs)))
bad_next xs i x lt is way = subst (IsAsBad (pairs_view xs)) (pairs_next xs i x lt is) way

pub as_bad : (all rest : Pairs) (p : Seen) → IsAsBad all (pair p.0 p.1 rest) → (HasBadPathAt p → ⊥) → IsAsBad all rest
as_bad all rest p way good = record {
  left = λ bad. elim (way.left bad) [ inl here ↦ absurd (good here) | inr later ↦ later ];
  whole = λ bad. way.whole (inr bad);
}

-- a longer path, or a walk from further up
behind_below : (path : List (List ℕ)) (k : List ℕ) (ws : List Walk) → map (walk_behind (path ++ k ∷ [])) ws ≡ map (walk_behind path) (map (below k) ws)
behind_below path k [] = refl
behind_below path k (w ∷ ws) =
    let first : walk_behind (path ++ k ∷ []) w ≡ walk_behind path (below k w) = ap (λ (p : List (List ℕ)). record { path = p; file = w.file })
    (append_assoc path (k ∷ []) w.path) in
    ap (λ u. u ∷ map (walk_behind (path ++ k ∷ [])) ws) first ∙ ap (λ us. walk_behind path (below k w) ∷ us) (behind_below path k ws)

-- a value that is a directory of these pairs
pub dict_pairs : (v w : Value) (ps qs : List Pair) → v ≡ w → view w ≡ dict (pairs_view qs) → ps ≡ qs → view v ≡ dict (pairs_view ps)
dict_pairs v w ps qs is whole same = ap view is ∙ whole ∙ ap (λ xs. dict (pairs_view xs)) (sym same)

walked_inner : (path longer : List (List ℕ)) (k : List ℕ) (ps : Pairs) (v : Bencode) (old new : List Walk)
    → is_nil k ≡ false → longer ≡ path ++ k ∷ [] → v ≡ dict ps → AddsBehind longer (walks ps) old new → AddsBehind path (walks_at (k, v)) old new
walked_inner path longer k ps v old new some e is adds =
    let here : walks_at (k, v) ≡ map (below k) (walks ps) = rw (some, is) refl in
    adds ∙ ap (λ ws. old ++ ws) (ap (λ p. map (walk_behind p) (walks ps)) e ∙ behind_below path k (walks ps) ∙ ap (map (walk_behind path)) (sym here))

-- the files below a pair
pub walked_below : (path longer : List (List ℕ)) (x : Pair) (ps : Pairs) (old new : List Walk) → is_nil (pair_view x).0 ≡ false
    → longer ≡ path ++ x.key.now ∷ [] → view x.value ≡ dict ps → AddsBehind longer (walks ps) old new → AddsBehind path (walks_at (pair_view x)) old new
walked_below path longer x ps old new named e is adds =
    let seen = view-Pair x.key x.value in
    subst (λ (p : Seen). AddsBehind path (walks_at p) old new) (sym seen)
    (walked_inner path longer x.key.now ps (view x.value) old new (subst (λ (p : Seen). is_nil p.0 ≡ false) seen named) e is adds)

pub behind_none : (ws : List Walk) → map (walk_behind []) ws ≡ ws
behind_none [] = refl
behind_none (w ∷ ws) = ap (λ us. w ∷ us) (behind_none ws)

-- the one pair of a file's node
pub file_node : (xs : List Pair) (x : Pair) → is_file (pairs_view xs) ≡ true → x ≡ get_or xs 0 x
    → (pairs_view xs ≡ pair (pair_view x).0 (pair_view x).1 no_pairs) × (is_nil (pair_view x).0 ≡ true)
file_node [] x is first = cc
file_node (y ∷ []) x is first = (
  ap (λ z. pairs_view (z ∷ [])) (sym first),
  subst (λ z. is_nil (pair_view z).0 ≡ true) (sym first)
      (and_both (is_nil (pair_view y).0) (is_dict (pair_view y).1) is).0,
)
file_node (y ∷ z ∷ zs) x is first = cc

-- a file in the folder at this path
pub walked_file : (path : List (List ℕ)) (key nil : List ℕ) (v file : Bencode) (old new : List Walk) → is_nil key ≡ false → v ≡ dict (pair nil file no_pairs)
    → is_nil nil ≡ true
    → new ≡ old ++ record { path = path ++ key ∷ []; file = file } ∷ [] → AddsBehind path (walks_at (key, v)) old new
walked_file path key nil v file old new some is none added =
    let here : walks_at (key, v) ≡ record { path = key ∷ []; file = file } ∷ [] = rw (some, is, none) refl in
    added ∙ ap (λ ws. old ++ map (walk_behind path) ws) (sym here)
