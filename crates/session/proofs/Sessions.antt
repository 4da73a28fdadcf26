-- The trees of a session, of which one takes a step.
use Rattle.std.proofs.Common.{◌≡◌, ℕ, ◌<◌, true, List, map, length, set, get_or, Option, Some, None, option_map}
use Rattle.std.proofs.Common.{refl, sym, ap, ◌∙◌, subst, subst₂}
use Rattle.std.specs.Prelude.{slice_get}
use Rattle.std.specs.FinSet as leaves
use Rattle.std.proofs.lemmas.Option.{none-some, same_Some, slice_get_within, slice_get-get_or, get_or_from_slice_get, slice_get-map}
use Rattle.std.proofs.lemmas.List.{length-map}
use Rattle.std.proofs.lemmas.List.Elements.{All-get_or, All-set}
use Rattle.std.proofs.Math.Seq.{map-set_same}
use Rattle.opening.specs.Description.{Description, FileEntry}
use Rattle.opening.specs.Sound.{IsSound}
use Rattle.partial_tree.specs.TreeRoot.{TreeRoot}
use Rattle.node_maps.specs.Places.{IsKnown}
use Rattle.partial_tree.specs.Closed.{IsClosed}
use Rattle.node_maps.specs.Known.{look}
use Rattle.partial_tree.specs.Kept.{TreeState, KeptTree, info_of, IsGoodTree}
use Rattle.session.specs.Session.{IsTree, HasClosedTrees, HasDistinctRoots}
use Rattle.session.specs.Asks.{AskSet}
use Rattle.session.specs.Layouts.{SessionSeen, seen, root_of_entry, state_of, AreKept}
use Rattle.tree_laws.proofs.Keeping.{StaysGood}

abbrev pub with_trees : Description → AskSet → List TreeState → SessionSeen
with_trees d o states = record { torrent = d; trees = states; asks = o }

pub found_at : (ts : List KeptTree) (n : ℕ) (a : KeptTree) → n < length ts → a ≡ get_or ts n a → slice_get ts n ≡ Some a
found_at ts n a inside e = slice_get-get_or ts n a inside ∙ ap Some (sym e)

pub mapped : {A B : Type 0} (f : A → B) (o : Option A) (y : B) → option_map f o ≡ Some y → (x : A) × (o ≡ Some x) × (f x ≡ y)
mapped f None y e = absurd (none-some y e)
mapped f (Some x) y e = (x, refl, same_Some (f x) y e)

module _ (d : Description) (ts : List KeptTree) (kept : AreKept d ts) where
  pub good_at : (n : ℕ) (a : KeptTree) → slice_get ts n ≡ Some a → IsGoodTree a
  good_at n a e = subst IsGoodTree (get_or_from_slice_get ts n a a e) (All-get_or IsGoodTree ts n a (slice_get_within ts n a e) kept.good)

  pub tree_at : (o : AskSet) → (n : ℕ) (a : KeptTree) → slice_get ts n ≡ Some a → IsTree (seen d o ts) n (info_of a) a.state
  tree_at o n a e = record {
    tree_is = ap (λ l. slice_get l n) (sym kept.same) ∙ slice_get-map info_of ts n ∙ ap (option_map info_of) e;
    state_is = slice_get-map state_of ts n ∙ ap (option_map state_of) e;
  }

  -- each tree of the state is a kept one
  pub kept_at : (o : AskSet) → (n : ℕ) (tree : TreeRoot) (s : TreeState) → IsTree (seen d o ts) n tree s
      → (a : KeptTree) × (slice_get ts n ≡ Some a) × (info_of a ≡ tree) × (a.state ≡ s)
  kept_at o n tree s at =
      let x = mapped state_of (slice_get ts n) s (sym (slice_get-map state_of ts n) ∙ at.state_is) in
      let same : info_of x.0 ≡ tree = same_Some (info_of x.0) tree (sym ((tree_at o n x.0 x.1).tree_is) ∙ at.tree_is) in
      (x.0, x.1, same, x.2)

  pub kept-closed : (o : AskSet) → HasClosedTrees (seen d o ts)
  kept-closed o = record {
    count = length-map ts state_of ∙ sym (length-map ts info_of) ∙ ap length kept.same;
    closed = λ n tree s at.
        let x = kept_at o n tree s at in
        subst₂ (λ r st. IsClosed r (look st.known)) x.2 x.3 ((good_at n x.0 x.1).closed);
    marks = λ n tree s at.
        let x = kept_at o n tree s at in
        subst (λ st. (i : ℕ) → leaves.contains st.marked i ≡ true → IsKnown (look st.known) 0 i) x.3 ((good_at n x.0 x.1).marks);
  }

  pub kept-after : (n : ℕ) (a b : KeptTree) → slice_get ts n ≡ Some a → StaysGood a b
      → AreKept d (set ts n b)
  kept-after n a b e (same, good) = record {
    same = map-set_same info_of ts n b a (same ∙ ap info_of
        (sym (get_or_from_slice_get ts n a a e))) ∙ kept.same;
    good = All-set IsGoodTree ts n b good kept.good;
  }

-- a tree that stays leaves the state
pub state_stays : (ts : List KeptTree) (n : ℕ) (a b : KeptTree) → slice_get ts n ≡ Some a → b ≡ a
    → map state_of (set ts n b) ≡ map state_of ts
state_stays ts n a b e same = map-set_same state_of ts n b a
    (ap state_of (same ∙ sym (get_or_from_slice_get ts n a a e)))

module _ (d : Description) (ts : List KeptTree) (kept : AreKept d ts) (sound : IsSound d) where
  pub distinct : (o : AskSet) → HasDistinctRoots (seen d o ts)
  distinct o n k a b p q e =
      let x = mapped root_of_entry (slice_get d.trees n) a (sym (slice_get-map root_of_entry d.trees n) ∙ p) in
      let y = mapped root_of_entry (slice_get d.trees k) b (sym (slice_get-map root_of_entry d.trees k) ∙ q) in
      sound.roots_differ n k x.0 y.0 x.1 y.1 (ap (λ t. t.root) x.2 ∙ e ∙ sym (ap (λ t. t.root) y.2))

  -- the tree of a file
  pub tree_for : (file tr : ℕ) (f : FileEntry) → slice_get d.files file ≡ Some f → f.tree ≡ Some tr → (a : KeptTree) × (slice_get ts tr ≡ Some a)
      × (a.length ≡ f.length)
  tree_for file tr f there is =
      let e = (sound.files file f there).tree_there tr is in
      let x = mapped info_of (slice_get ts tr) (root_of_entry e.0)
      (sym (slice_get-map info_of ts tr) ∙ ap (λ l. slice_get l tr) kept.same ∙ slice_get-map root_of_entry d.trees tr ∙ ap (option_map root_of_entry) e.1) in
      (x.0, x.1, ap (λ t. t.length) x.2 ∙ e.2)
