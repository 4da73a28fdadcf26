-- A row of leaves under one node, given without the pads past the file's end: the leaves of a
-- piece.
use Rattle.std.specs.Prelude.{◌≡◌, ℕ, zero, suc, ◌+◌, ◌-◌, ◌/◌, ◌%◌, ◌^◌, ◌<◌, ◌≤◌, min, Bool, nat_le, if◌then◌else◌, List, [], ◌++◌, length}
use Rattle.std.specs.Prelude.{replicate, Some, None}
use Rattle.std.specs.FinSet.{insert}
use Rattle.wire.specs.declared.message.Ask.{Ask}
use Rattle.node_maps.specs.Known.{Known, Marked, look}
use Rattle.node_maps.specs.Places.{tree_height, PartialTree, IsKnown}
use Rattle.partial_tree.specs.declared.refusal.HashRefusal.{HashRefusal}
use Rattle.partial_tree.specs.declared.refusal.HashRefusal.TheVariants.{NoMemory as Lacking}
use Rattle.partial_tree.specs.declared.refusal.PieceRefusal.{PieceRefusal}
use Rattle.partial_tree.specs.declared.refusal.PieceRefusal.TheVariants.{Unproved, NoMemory, BadPiece}
use Rattle.node_maps.specs.Digest.{Hash}
use Rattle.hashtree.specs.Tree.{block_count, zero_hash}
use Rattle.partial_tree.specs.Claims.{claims, joined, HasNew, IsAgreed, IsMismatch}
use Rattle.partial_tree.specs.EndPads.{end_pads}
use Rattle.partial_tree.specs.Joins.{Joins}
use Rattle.partial_tree.specs.Kept.{KeptTree, kept, ChangesKnownAlone}

-- the ask for 2 ^ k leaves, from one on
abbrev pub row_ask : ℕ → ℕ → Ask
row_ask first k = record { root = []; base = 0; index = first; length = 2 ^ k; proof = 0 }

-- the hashes of these leaves, the pads supplied
abbrev pub padded_leaves : ℕ → List Hash → List Hash
padded_leaves k hashes = hashes ++ replicate (2 ^ k - length hashes) (zero_hash 0)

-- what follows from them
abbrev pub row_claims : ℕ → ℕ → List Hash → PartialTree
row_claims first k hashes = claims (row_ask first k) (padded_leaves k hashes)

-- 2 ^ k leaves, from one on, reach the file's end
abbrev pub reaches_end : ℕ → ℕ → ℕ → Bool
reaches_end len first k = nat_le (block_count len) (first + 2 ^ k)

-- the pads that leaves bring with them: those beside the end, if they reach it
abbrev pub row_pads : ℕ → ℕ → ℕ → PartialTree
row_pads len first k l i = (if reaches_end len first k then end_pads len l i else None)

-- they are known
abbrev pub AreRowPadsKnown : ℕ → PartialTree → ℕ → ℕ → Type 0
AreRowPadsKnown len K first k = (l i : ℕ) (v : Hash) → row_pads len first k l i ≡ Some v
    → IsKnown K l i

-- what follows from leaves, and the pads that they bring with them
abbrev pub row_joins : ℕ → ℕ → ℕ → List Hash → PartialTree
row_joins len first k hashes = joined (row_claims first k hashes) (row_pads len first k)

-- this many blocks stand under the node (k, first / 2 ^ k) of a tree, from one on, at least one
pub record IsLeafRow (len first k count : ℕ) : Type 0 where
  pub span_inside : k ≤ tree_height len
  pub aligned : first % 2 ^ k ≡ 0
  pub some : first < block_count len
  pub count_is : count ≡ min (2 ^ k) (block_count len - first)

-- the node over the leaves is known, and what follows agrees with what is known
pub record IsRowAccepted (K : PartialTree) (first k : ℕ) (hashes : List Hash) : Type 0 where
  pub top_known : IsKnown K k (first / 2 ^ k)
  pub agrees : IsAgreed K (row_claims first k hashes)

-- why leaves are refused: the first test that fails; or out of memory, if none does and a place is
-- new
abbrev pub RowRefuses : ℕ → PartialTree → ℕ → ℕ → List Hash → PieceRefusal → Type 0
RowRefuses len K first k hashes Unproved = K k (first / 2 ^ k) ≡ None
RowRefuses len K first k hashes BadPiece = IsKnown K k (first / 2 ^ k)
    × IsMismatch K (row_claims first k hashes)
RowRefuses len K first k hashes NoMemory = IsRowAccepted K first k hashes
    × HasNew K (row_joins len first k hashes)
RowRefuses len K first k hashes r = ⊥

-- a refusal to store leaves, as one of their piece
abbrev pub piece_refusal : HashRefusal → PieceRefusal
piece_refusal Lacking = NoMemory
piece_refusal r = BadPiece

-- leaves are accepted, and what follows is joined to what was known, with the pads that they bring
abbrev pub TakesRow : ℕ → ℕ → ℕ → List Hash → Known → ℕ → Known → Type 0
TakesRow len first k hashes before c after = IsRowAccepted (look before) first k hashes
    × Joins (row_joins len first k hashes) before after c

-- a tree accepts leaves, and what follows is joined to what is known, with c more places; the rest
-- of the tree stays
abbrev pub TreeTakesRow : KeptTree → ℕ → ℕ → List Hash → ℕ → KeptTree → Type 0
TreeTakesRow before first k hashes c after =
    TakesRow before.length first k hashes before.state.known c after.state.known
    × ChangesKnownAlone before after

-- with this many leaves marked, from one on
abbrev pub mark_run : Marked → ℕ → ℕ → Marked
mark_run marked first zero = marked
mark_run marked first (suc n) = insert (mark_run marked first n) (first + n)

-- a tree with this many leaves marked, from one on; the rest of it stays
abbrev pub TreeMarksRun : KeptTree → ℕ → ℕ → KeptTree → Type 0
TreeMarksRun before first count after = after
    ≡ kept before.root before.length before.state.known
    (mark_run before.state.marked first count)

-- a tree with one leaf marked
abbrev pub tree_with_leaf_marked : KeptTree → ℕ → KeptTree
tree_with_leaf_marked t block =
    kept t.root t.length t.state.known (insert t.state.marked block)
