-- What is known around a leaf that is known.
use Rattle.std.proofs.Common.{◌≡◌, ℕ, ◌+◌, ◌/◌, ◌*◌, ◌^◌, ◌<◌, ◌≤◌, Some, None, inl, inr, refl, sym, ap, ◌∙◌, arith, pow_mono}
use Rattle.std.specs.Prelude.{slice_get, length, Option, is_some, true, false}
use Rattle.std.proofs.lemmas.Bool.{cases_lt, false≢true}
use Rattle.std.proofs.lemmas.List.{length-map}
use Rattle.std.proofs.lemmas.Option.{none-some, same_Some, slice_get_within}
use Rattle.hashtree.specs.Tree.{block_count}
use Rattle.hashtree.proofs.Heights.{height_enough}
use Rattle.node_maps.specs.Known.{look}
use Rattle.node_maps.specs.Places.{tree_height}
use Rattle.partial_tree.specs.TreeRoot.{TreeRoot}
use Rattle.session.specs.Layouts.{roots, root_of_entry}
use Rattle.session.specs.Session.{SessionSeen, TreeState, HasClosedTrees}
use Rattle.session.proofs.LeafPaths.{over-leaf}
use Rattle.session_exports.specs.Exports.{HasLeaf, HasBlocks, AreLeavesUnknown, NoneFrom}

-- more blocks than 2 ^ k need a tree higher than k
pub high : (len k : ℕ) → 2 ^ k < block_count len → k < tree_height len
high len k more = elim (cases_lt k (tree_height len)) [
  | inl up ↦ up
  | inr low ↦ absurd (let small : 2 ^ tree_height len ≤ 2 ^ k = pow_mono low in omega (arith, small, height_enough (block_count len)))
]

module _ (S : SessionSeen) (n b : ℕ) (leaf : HasLeaf S n b) where
  pub same_tree : (t : TreeRoot) → slice_get (roots S) n ≡ Some t → leaf.tree ≡ t
  same_tree t there = same_Some leaf.tree t (sym leaf.is_tree.tree_is ∙ there)

  pub same_state : (s : TreeState) → slice_get S.trees n ≡ Some s → leaf.state ≡ s
  same_state s there = same_Some leaf.state s (sym leaf.is_tree.state_is ∙ there)

  -- what is not known is no leaf that is
  pub leaf-known : (s : TreeState) → slice_get S.trees n ≡ Some s → look s.known 0 b ≡ None → ⊥
  leaf-known s there none =
      none-some leaf.known.0 (sym none ∙ ap (λ (x : TreeState). look x.known 0 b) (sym (same_state s there)) ∙ leaf.known.1)

  -- its block is one of the tree's, which has more than one
  pub leaf-inside : (count : ℕ) → HasBlocks S n count → (b < count) × (1 < count)
  leaf-inside count (t, there, is) =
      let same : block_count leaf.tree.length ≡ count = ap (λ (x : TreeRoot). block_count x.length) (same_tree t there) ∙ sym is in
      (omega (arith, same, leaf.inside), omega (arith, same, leaf.many))

  -- the node that covers its window is known
  pub window-known : (s : TreeState) → HasClosedTrees S → slice_get S.trees n ≡ Some s → (count : ℕ) → HasBlocks S n count → 512 < count
      → (w : ℕ) → b / 512 ≡ w → look s.known 9 w ≡ None → ⊥
  window-known s closed there count (t, at, is) large w in_w none =
      let same : block_count leaf.tree.length ≡ count = ap (λ (x : TreeRoot). block_count x.length) (same_tree t at) ∙ sym is in
      let up : 9 < tree_height leaf.tree.length = high leaf.tree.length 9 (omega (arith, same, large)) in
      let known = over-leaf leaf.tree (look leaf.state.known) (closed.closed n leaf.tree leaf.state leaf.is_tree) b leaf.known 9 (omega (arith, up)) in
      none-some known.0 (sym none ∙ ap (λ k. look s.known 9 k) (sym in_w)
      ∙ ap (λ (x : TreeState). look x.known 9 (b / 2 ^ 9)) (sym (same_state s there)) ∙ known.1)

-- no leaf of a window is known whose node is not
pub window-unknown : (S : SessionSeen) (n b : ℕ) (s : TreeState) → HasClosedTrees S → slice_get S.trees n ≡ Some s → (count : ℕ)
    → HasBlocks S n count → 512 < count → look s.known 9 (b / 512) ≡ None → AreLeavesUnknown S n b ((b / 512 + 1) * 512)
window-unknown S n b s closed there count blocks large none k from to leaf =
    window-known S n k leaf s closed there count blocks large (b / 512) (omega (arith, from, to)) none

-- one more leaf is not known
pub one_unknown : (S : SessionSeen) (n b : ℕ) (s : TreeState) → slice_get S.trees n ≡ Some s → look s.known 0 b ≡ None → AreLeavesUnknown S n b (b + 1)
one_unknown S n b s there none k from to leaf =
    let at : k ≡ b = omega arith in leaf-known S n k leaf s there (ap (look s.known 0) at ∙ none)

-- leaves before and after a block
pub unknown-join : (S : SessionSeen) (n a b d : ℕ) → AreLeavesUnknown S n a b → AreLeavesUnknown S n b d → AreLeavesUnknown S n a d
unknown-join S n a b d before after k from to leaf = elim (cases_lt k b) [
  | inl low ↦ before k from low leaf
  | inr high' ↦ after k high' to leaf
]

-- none before the last block, so none at all
pub unknown-all : (S : SessionSeen) (n a b count : ℕ) → AreLeavesUnknown S n a b → HasBlocks S n count → count ≤ b → NoneFrom S n a
unknown-all S n a b count before blocks end k from leaf =
    before k from (omega (arith, (leaf-inside S n k leaf count blocks).0, end)) leaf

-- the only leaf of a tree is its root
pub only-root : (S : SessionSeen) (n a count : ℕ) → HasBlocks S n count → count < 2 → NoneFrom S n a
only-root S n a count blocks few k from leaf = absurd (omega (arith, (leaf-inside S n k leaf count blocks).1, few))

-- a tree with a known leaf is one of the torrent's
pub leaf-tree : (S : SessionSeen) (n b : ℕ) → HasLeaf S n b → n < length S.torrent.trees
leaf-tree S n b leaf =
    omega (arith, slice_get_within (roots S) n leaf.tree leaf.is_tree.tree_is, length-map S.torrent.trees root_of_entry)

-- a test for a value says whether there is one
pub none_of : {A : Type 0} (o : Option A) → is_some o ≡ false → o ≡ None
none_of None told = refl
none_of (Some x) told = absurd (false≢true (sym told))

pub some_of : {A : Type 0} (o : Option A) → is_some o ≡ true → (x : A) × (o ≡ Some x)
some_of None told = absurd (false≢true told)
some_of (Some x) told = (x, refl)
