-- A leaf of one tree that is marked by its digest.
use Rattle.std.proofs.Common.{◌≡◌, ℕ, Bool, true, false, List, set, Some, refl, sym, ap, ◌∙◌, subst}
use Rattle.std.specs.Prelude.{◌↔◌, IsTrue}
use Rattle.std.specs.Bool.{OnTrue, OnFalse}
use Rattle.std.specs.FinSet as leaves
use Rattle.std.proofs.lemmas.Bool.{false≢true}
use Rattle.opening.specs.Description.{Description}
use Rattle.node_maps.specs.Digest.{Hash}
use Rattle.node_maps.specs.Known.{look}
use Rattle.partial_tree.specs.Kept.{KeptTree, info_of, IsGoodTree}
use Rattle.partial_tree.specs.LeafRows as row
use Rattle.session.specs.Asks.{AskSet}
use Rattle.session.specs.Layouts.{SessionSeen, AreKept, seen}
use Rattle.session.specs.Session.{IsTree}
use Rattle.session.specs.SafeStep.{KeepsKnown}
use Rattle.session.specs.Pieces.{IsLeafMarked, IsNoLeaf}
use Rattle.session.proofs.KeptTrees.{IsKeptTree, tree-after, tree-stays, tree-kept}
use Rattle.session.proofs.OneTree.{one-keeps}
use Rattle.tree_laws.proofs.Keeping.{StaysGood}

-- what is known stays known
pub mark-keeps : (S : SessionSeen) (n block : ℕ) (digest : Hash) (S' : SessionSeen) (r : Bool) → OnTrue r (IsLeafMarked S n block digest S')
    → OnFalse r (S' ≡ S) → KeepsKnown S S'
mark-keeps S n block digest S' true (s, there, leaf, is) stays =
    one-keeps S n s (record s { marked = leaves.insert s.marked block }) S' there is (λ l i v known. known)
mark-keeps S n block digest S' false marked stays = λ k tree s at. (s, subst (λ U. IsTree U k tree s) (sym stays) at, λ l i v known. known)

-- a digest was tried at a leaf of tree n, which was a and is b; v is what was seen of the session
pub record TriesLeaf (d : Description) (ts : List KeptTree) (o : AskSet) (n : ℕ) (a b : KeptTree) (block : ℕ) (digest : Hash) (r : Bool) (v : SessionSeen)
    : Type 0 where
  pub before : IsKeptTree d ts o v n a
  pub marked : OnTrue r (b ≡ row.tree_with_leaf_marked a block)
  pub known : IsTrue r ↔ (look a.state.known 0 block ≡ Some digest)
  pub stays : OnFalse r (b ≡ a)
  pub good : IsGoodTree b

good_after_leaf : (a b : KeptTree) (block : ℕ) (r : Bool) → OnTrue r (b ≡ row.tree_with_leaf_marked a block) → OnFalse r (b ≡ a) → IsGoodTree b
    → StaysGood a b
good_after_leaf a b block false marked stays good = (ap info_of stays, good)
good_after_leaf a b block true marked stays good = (ap info_of marked, good)

module _ {d : Description} {ts : List KeptTree} {o : AskSet} {n : ℕ} {a b : KeptTree} {block : ℕ} {digest : Hash} {r : Bool} {v : SessionSeen}
    (x : TriesLeaf d ts o n a b block digest r v) where
  pub tried-kept : AreKept d (set ts n b)
  tried-kept = tree-kept x.before b (good_after_leaf a b block r x.marked x.stays x.good)

-- what is seen of it
module _ {d : Description} {ts : List KeptTree} {o : AskSet} {n : ℕ} {a b : KeptTree} {block : ℕ} {digest : Hash} {v : SessionSeen} where
  pub tried-marked : {r : Bool} → TriesLeaf d ts o n a b block digest r v → OnTrue r (IsLeafMarked v n block digest (seen d o (set ts n b)))
  tried-marked {r = false} x = tt
  tried-marked {r = true} x = (
    a.state,
    x.before.is_tree.state_is,
    x.known.0 refl,
    tree-after x.before b ∙ ap (λ (t : KeptTree). record v { trees = set v.trees n t.state }) x.marked,
  )

  pub tried-other : {r : Bool} → TriesLeaf d ts o n a b block digest r v → OnFalse r (IsNoLeaf v n block digest)
  tried-other {r = true} x = tt
  tried-other {r = false} x = (a.state, x.before.is_tree.state_is, λ same. false≢true (x.known.1 same))

  pub tried-stays : {r : Bool} → TriesLeaf d ts o n a b block digest r v → OnFalse r (seen d o (set ts n b) ≡ v)
  tried-stays {r = true} x = tt
  tried-stays {r = false} x = tree-stays x.before b x.stays
