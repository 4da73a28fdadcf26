-- The laws of a session that has all blocks of a file: it answers for each of them.
use Rattle.std.specs.Prelude.{◌≡◌, ℕ, ◌<◌, Some}
use Rattle.wire.specs.declared.message.Ask.{Ask as Asked}
use Rattle.hashtree.specs.Tree.{block_count}
use Rattle.node_maps.specs.Known.{look}
use Rattle.node_maps.specs.Places.{IsKnown}
use Rattle.partial_tree.specs.EndPads.{AreEndPadsKnown, IsShortAsk}
use Rattle.partial_tree.specs.Gaps.{want_of}
use Rattle.partial_tree.specs.TreeRoot.{TreeRoot as Tree}
use Rattle.session.specs.Session.{SessionSeen, TreeState, IsTree, HasClosedTrees, IsAnswered}
use Rattle.session.specs.SafeStep.{KeepsKnown}

-- of tree n all leaves of blocks are known, and the pads beside the file's end
pub record CanServe (S : SessionSeen) (n : ℕ) (tree : Tree) (s : TreeState) : Type 0 where
  pub is_tree : IsTree S n tree s
  pub leaves : (b : ℕ) → b < block_count tree.length → IsKnown (look s.known) 0 b
  pub pads : AreEndPadsKnown tree.length (look s.known)

-- then each ask of that tree for at most 512 hashes with a node over a block is answered
abbrev pub ServedAsksAreAnswered : Type 0
ServedAsksAreAnswered = (S : SessionSeen) (n : ℕ) (tree : Tree) (s : TreeState) (ask : Asked)
    → HasClosedTrees S → CanServe S n tree s → ask.root ≡ tree.root → IsShortAsk tree.length ask
    → IsAnswered S ask

-- and whatever any session wants of that tree
abbrev pub ServedWantsAreAnswered : Type 0
ServedWantsAreAnswered = (S R : SessionSeen) (n k : ℕ) (tree : Tree) (s r : TreeState) (b : ℕ)
    (ask : Asked) → HasClosedTrees S → HasClosedTrees R → CanServe S n tree s → IsTree R k tree r
    → b < block_count tree.length → want_of tree (look r.known) b ≡ Some ask → IsAnswered S ask

-- it stays so, whatever comes
abbrev pub ServingStays : Type 0
ServingStays = (S S' : SessionSeen) (n : ℕ) (tree : Tree) (s : TreeState) → KeepsKnown S S'
    → CanServe S n tree s → (s' : TreeState) × CanServe S' n tree s'
