-- A tree by its number, among the trees that are kept, and what callers see of it.
use Rattle.std.proofs.Common.{◌≡◌, ℕ, ◌<◌, List, length, set, get_or, Some, sym, ap, ◌∙◌, subst, arith}
use Rattle.std.specs.Prelude.{slice_get}
use Rattle.std.proofs.lemmas.List.{length-map, map-set}
use Rattle.opening.specs.Description.{Description}
use Rattle.partial_tree.specs.Kept.{KeptTree, info_of, IsGoodTree}
use Rattle.session.specs.Asks.{AskSet}
use Rattle.session.specs.Layouts.{SessionSeen, AreKept, root_of_entry, seen, state_of}
use Rattle.session.specs.Session.{IsTree}
use Rattle.session.proofs.Sessions.{with_trees, found_at, good_at, tree_at, kept-after, state_stays}
use Rattle.tree_laws.proofs.Keeping.{StaysGood}

-- v is what callers see of the trees that are kept, and this is the tree of this number
pub record IsKeptTree (d : Description) (ts : List KeptTree) (o : AskSet) (v : SessionSeen) (n : ℕ) (a : KeptTree) : Type 0 where
  pub kept : AreKept d ts
  pub is : seen d o ts ≡ v
  pub at : slice_get ts n ≡ Some a
  pub good : IsGoodTree a
  pub is_tree : IsTree v n (info_of a) a.state

module _ (o : AskSet) (d : Description) (ts : List KeptTree) (kept : AreKept d ts) (v : SessionSeen) (is : seen d o ts ≡ v) (n : ℕ)
    (low : n < length v.torrent.trees) where
  pub number_within : n < length ts
  number_within =
      let there : n < length d.trees = subst (λ (u : SessionSeen). n < length u.torrent.trees) (sym is) low in
      omega (arith, there, length-map ts info_of, length-map d.trees root_of_entry, ap length kept.same)

  pub tree_of_number : (a : KeptTree) → a ≡ get_or ts n a → IsKeptTree d ts o v n a
  tree_of_number a found =
      let at : slice_get ts n ≡ Some a = found_at ts n a number_within found in
      record {
        kept = kept;
        is = is;
        at = at;
        good = good_at d ts kept n a at;
        is_tree = subst (λ (u : SessionSeen). IsTree u n (info_of a) a.state) is (tree_at d ts kept o n a at);
      }

-- after a step of the tree
module _ {d : Description} {ts : List KeptTree} {o : AskSet} {v : SessionSeen} {n : ℕ} {a : KeptTree} (x : IsKeptTree d ts o v n a) (b : KeptTree) where
  pub tree-after : seen d o (set ts n b) ≡ record v { trees = set v.trees n b.state }
  tree-after = ap (with_trees d o) (map-set state_of ts n b) ∙ ap (λ (u : SessionSeen). record u { trees = set u.trees n b.state }) x.is

  pub tree-stays : b ≡ a → seen d o (set ts n b) ≡ v
  tree-stays same = ap (with_trees d o) (state_stays ts n a b x.at same) ∙ x.is

  pub tree-kept : StaysGood a b → AreKept d (set ts n b)
  tree-kept = kept-after d ts x.kept n a b x.at
