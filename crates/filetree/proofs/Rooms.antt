-- The nodes of a folder, and how deep the values in it may be.
use Rattle.std.proofs.Common.{◌≡◌, ℕ, ◌+◌, ◌-◌, ◌<◌, true, false, not, ◌&&◌, List, [], ◌∷◌, ◌++◌}
use Rattle.std.proofs.Common.{length, drop, get_or, Option, None, arith, sym, ap, subst, inl, inr}
use Rattle.std.proofs.lemmas.List.{length-append}
use Rattle.std.proofs.lemmas.Bool.{not-true}
use Rattle.chains.proofs.Cases.{or_right}
use Rattle.benc.specs.Text.{Fits, PairsFit}
use Rattle.benc.specs.Value.{Bencode, Pairs, dict, pair}
use Rattle.benc.specs.View.{pair_view, pairs_view}
use Rattle.benc.specs.declared.value.Pair.{Pair}
use Rattle.filetree.specs.FileTree.{HasBadPathIn, is_directory, is_file, is_nil, is_node}
use Rattle.filetree.specs.Walked.{HasGoodPaths, IsFolderAt, IsNodeBelow}
use Rattle.filetree.proofs.ComparedKeys.{and_both}
use Rattle.filetree.proofs.Views.{pairs_next}

-- the pairs of a folder from some pair on
pub record AreLeft (path : List (List ℕ)) (ps : Pairs) : Type 0 where
  pub room : ℕ
  pub deep : length path + room < 128
  pub before : Option (List ℕ)
  pub fits : PairsFit room before ps
  pub shape : is_directory ps ≡ true
  pub good : HasGoodPaths ps

pub all_left : (path : List (List ℕ)) (ps : Pairs) → IsFolderAt path ps → AreLeft path ps
all_left path ps h =
    let some : 0 < h.room = h.fits.0 in
    record { room = h.room - 1; deep = omega (arith, some, h.deep); before = None; fits = h.fits.1; shape = h.shape; good = h.good }

next_left : (path : List (List ℕ)) (xs : List Pair) (i : ℕ) (x : Pair) → i < length xs → x ≡ get_or xs i x → AreLeft path (pairs_view (drop i xs))
    → AreLeft path (pair (pair_view x).0 (pair_view x).1 (pairs_view (drop (i + 1) xs)))
next_left path xs i x lt is h = subst (AreLeft path) (pairs_next xs i x lt is) h

-- the next pair of a folder, and those behind it
pub node_at : (path : List (List ℕ)) (xs : List Pair) (i : ℕ) (x : Pair) → i < length xs → x ≡ get_or xs i x → AreLeft path (pairs_view (drop i xs))
    → IsNodeBelow path (pair_view x)
node_at path xs i x lt is h =
    let next = next_left path xs i x lt is h in
    let both = and_both (not (is_nil (pair_view x).0) && is_node (pair_view x).1) (is_directory (pairs_view (drop (i + 1) xs))) next.shape in
    let here = and_both (not (is_nil (pair_view x).0)) (is_node (pair_view x).1) both.0 in
    record {
      room = next.room;
      deep = next.deep;
      fits = next.fits.2;
      named = not-true (is_nil (pair_view x).0) here.0;
      shape = here.1;
      good =
          record { good = λ bad. next.good.good (inl bad) };
    }

pub left_behind : (path : List (List ℕ)) (xs : List Pair) (i : ℕ) (x : Pair) → i < length xs → x ≡ get_or xs i x → AreLeft path (pairs_view (drop i xs))
    → AreLeft path (pairs_view (drop (i + 1) xs))
left_behind path xs i x lt is h =
    let next = next_left path xs i x lt is h in
    let both = and_both (not (is_nil (pair_view x).0) && is_node (pair_view x).1) (is_directory (pairs_view (drop (i + 1) xs))) next.shape in
    record { room = next.room; deep = next.deep; before = _; fits = next.fits.3; shape = both.1; good = record { good = λ bad. next.good.good (inr bad) } }

-- the directory of a node that is no file
pub folder_at : (path longer : List (List ℕ)) (k : List ℕ) (v : Bencode) (ps : Pairs) → longer ≡ path ++ k ∷ [] → v ≡ dict ps → is_file ps ≡ false
    → IsNodeBelow path (k, v) → IsFolderAt longer ps
folder_at path longer k v ps e is other h = record {
  room = h.room;
  deep = omega (arith, h.deep, ap length e, length-append path (k ∷ []));
  fits = subst (Fits h.room) is h.fits;
  shape = or_right (is_file ps) (is_directory ps) other (subst (λ w. is_node w ≡ true) is h.shape);
  good = record { good = λ bad. h.good.good (h.named, inr (subst HasBadPathIn (sym is) bad)) };
}
