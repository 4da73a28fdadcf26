-- The true answer to what is wanted of a tree, and the one gap that it closes.
use Rattle.std.specs.Prelude.{◌≡◌, ◌⊎◌, ℕ, ◌+◌, ◌<◌, List, Some, Result, Err}
use Rattle.wire.specs.declared.message.Ask.{Ask}
use Rattle.partial_tree.specs.declared.refusal.HashRefusal.{HashRefusal}
use Rattle.partial_tree.specs.declared.refusal.HashRefusal.TheVariants.{NoMemory}
use Rattle.node_maps.specs.Digest.{Hash}
use Rattle.hashtree.specs.Tree.{block_count}
use Rattle.partial_tree.specs.TreeRoot.{TreeRoot, Fits}
use Rattle.node_maps.specs.Places.{tree_height, PartialTree}
use Rattle.partial_tree.specs.Closed.{Collision, whole}
use Rattle.partial_tree.specs.Claims.{answer_of}
use Rattle.partial_tree.specs.Gaps.{gaps, want_of}
use Rattle.node_maps.specs.Known.{look}
use Rattle.session.specs.Session.{SessionSeen, TreeState, IsTree}

-- the hashes are the true answer for f to an ask that is wanted of tree n, so to one for a leaf
-- that is not known
pub record IsWantedAnswer (S : SessionSeen) (n : ℕ) (f : List ℕ) (ask : Ask) (hashes : List Hash)
    : Type 0 where
  pub tree : TreeRoot
  pub state : TreeState
  pub is_tree : IsTree S n tree state
  pub fits : Fits f tree.length tree.root
  pub block : ℕ
  pub inside : block < block_count tree.length
  pub wanted : want_of tree (look state.known) block ≡ Some ask
  pub is_answer : hashes ≡ answer_of (tree_height tree.length) (whole f) ask

-- tree n has exactly one gap fewer than K
abbrev pub HasOneGapFewer : SessionSeen → ℕ → TreeRoot → PartialTree → Type 0
HasOneGapFewer S n tree K = (s : TreeState) × IsTree S n tree s
    × (gaps tree.length (look s.known) + 1 ≡ gaps tree.length K)

-- the true answer to what is wanted leaves exactly one gap fewer, unless memory is refused for it
-- or a collision is named
abbrev pub WantedClosesOneGap : SessionSeen → Ask → List Hash → Result ℕ HashRefusal → SessionSeen
    → Type 0
WantedClosesOneGap S ask hashes r S' = (n : ℕ) (f : List ℕ) (w : IsWantedAnswer S n f ask hashes)
    → HasOneGapFewer S' n w.tree (look w.state.known)
    ⊎ ((r ≡ Err NoMemory) ⊎ Collision (whole f) (look w.state.known))
