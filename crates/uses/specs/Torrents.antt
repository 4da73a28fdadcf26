-- What opening a torrent file gives, and what a session of it knows at first.
use Rattle.std.specs.Prelude.{◌≡◌, ℕ, Bool, List, Some, Result, IfOk, MatchResult}
use Rattle.filetree.specs.declared.refusal.Refusal.{Refusal}
use Rattle.filetree.specs.declared.refusal.Refusal.TheVariants as refusals
use Rattle.node_maps.specs.Known.{look}
use Rattle.node_maps.specs.Places.{tree_height}
use Rattle.opening.specs.Describes.{Describes}
use Rattle.opening.specs.Description.{Description}
use Rattle.partial_tree.specs.TreeRoot.{TreeRoot}
use Rattle.session.specs.Fresh.{IsFresh}
use Rattle.session.specs.Session.{SessionSeen, TreeState, IsTree}

-- it is this torrent, or memory was refused
abbrev pub IsUnlessNoMemory : Description → Result Description Refusal → Type 0
IsUnlessNoMemory t result = MatchResult result (λ opened. opened ≡ t) (λ r. r ≡ refusals.NoMemory)

-- what became of bytes: a torrent comes only if they describe it, and the one that they describe
-- comes, unless memory is refused
pub record IsOpened (bytes : List ℕ) (result : Result Description Refusal) : Type 0 where
  pub described : IfOk result (Describes bytes)
  pub comes : (t : Description) → Describes bytes t → IsUnlessNoMemory t result

-- a session of this torrent that knows nothing else: the root of each tree; with layers, of a file
-- that is longer than a piece, also its layer, and what lies above that; and nothing is marked
pub record KnowsTorrentAlone (t : Description) (with_layers : Bool) (S : SessionSeen) : Type 0 where
  pub fresh : IsFresh t with_layers S
  pub roots : (n : ℕ) (tree : TreeRoot) (s : TreeState) → IsTree S n tree s
      → look s.known (tree_height tree.length) 0 ≡ Some tree.root
