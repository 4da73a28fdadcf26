-- What contracts see of a tree: what is known and marked of it.
use Rattle.std.specs.Prelude.{◌≡◌, ◌≢◌, ℕ, ◌-◌, ◌*◌, ◌≤◌, min, true, List, length, Some, None}
use Rattle.std.specs.FinMap.{insert, empty}
use Rattle.std.specs.FinMap as map
use Rattle.std.specs.FinSet as set
use Rattle.sha2.specs.Sha256.{sha256}
use Rattle.wire.specs.declared.message.Ask.{Ask}
use Rattle.partial_tree.specs.declared.answer.Answer.{Answer}
use Rattle.partial_tree.specs.declared.refusal.HashRefusal.{HashRefusal}
use Rattle.partial_tree.specs.declared.refusal.BlockRefusal.{BlockRefusal}
use Rattle.partial_tree.specs.declared.refusal.BlockRefusal.TheVariants.{BadPlace, BadSize, Unproved, BadBlock}
use Rattle.node_maps.specs.Digest.{Hash}
use Rattle.partial_tree.specs.TreeRoot.{TreeRoot}
use Rattle.node_maps.specs.Places.{tree_height, PartialTree, IsKnown}
use Rattle.partial_tree.specs.Closed.{IsClosed}
use Rattle.partial_tree.specs.Claims.{TreeRefuses, CanAnswer}
use Rattle.partial_tree.specs.Answers.{IsTreeAnswer}
use Rattle.partial_tree.specs.Fill.{FillRefuses}
use Rattle.partial_tree.specs.Joins.{Joins, TakesHashes, TakesLayer}
use Rattle.node_maps.specs.Known.{Known, Marked, look}
use Rattle.node_maps.specs.Nodes.{Nodes}

-- what is known and marked of one tree
pub record TreeState : Type 0 where
  pub known : Known
  pub marked : Marked

-- a tree's root and the length of its files, and what is known and marked of it
pub record KeptTree : Type 0 where
  pub root : Hash
  pub length : ℕ
  pub state : TreeState

-- a tree by its parts
abbrev pub kept : Hash → ℕ → Known → Marked → KeptTree
kept root length known marked =
    record { root = root; length = length; state = record { known = known; marked = marked } }

-- a tree's root and the length of its files
abbrev pub info_of : KeptTree → TreeRoot
info_of t = record { root = t.root; length = t.length }

-- a tree of which the root alone is known, and nothing is marked
abbrev pub root_only : Hash → ℕ → KeptTree
root_only root length = kept root length (insert empty (tree_height length, 0) root) set.empty

-- this many nodes of a tree are known and this many leaves marked, of places few enough to be
-- counted
pub record IsCounted (known marked : ℕ) (n : Nodes) : Type 0 where
  pub low : tree_height n.length ≤ 32
  pub known_is : known ≡ map.len n.known
  pub marked_is : marked ≡ set.len n.marked

-- each place stands with its sibling and parent, and each marked leaf is known
pub record IsGoodTree (t : KeptTree) : Type 0 where
  pub closed : IsClosed (info_of t) (look t.state.known)
  pub marks : (i : ℕ) → set.contains t.state.marked i ≡ true → IsKnown (look t.state.known) 0 i

-- the bytes are as many as the block has in a file of this length
abbrev pub HasBlockSize : ℕ → ℕ → List ℕ → Type 0
HasBlockSize len b bytes = length bytes ≡ min 16384 (len - 16384 * b)

-- the first test of a block that fails, in a tree of files of this length
abbrev pub RefusesBlock : ℕ → PartialTree → ℕ → List ℕ → BlockRefusal → Type 0
RefusesBlock len K b bytes BadPlace = ⊥
RefusesBlock len K b bytes BadSize = ¬ HasBlockSize len b bytes
RefusesBlock len K b bytes Unproved = HasBlockSize len b bytes × (K 0 b ≡ None)
RefusesBlock len K b bytes BadBlock = HasBlockSize len b bytes
    × ((leaf : Hash) × (K 0 b ≡ Some leaf) × (sha256 bytes ≢ leaf))

-- ---- what calls make of a whole tree

-- root, length and marks stay
abbrev pub ChangesKnownAlone : KeptTree → KeptTree → Type 0
ChangesKnownAlone before after =
    after ≡ kept before.root before.length after.state.known before.state.marked

-- C joined to what is known of a tree, with c more places; the rest of it stays
abbrev pub TreeJoins : PartialTree → KeptTree → ℕ → KeptTree → Type 0
TreeJoins C before c after = Joins C before.state.known after.state.known c
    × ChangesKnownAlone before after

-- a tree accepts a message, and what it claims is joined to what is known, with c more places; the
-- rest of the tree stays
abbrev pub TreeTakesHashes : KeptTree → Ask → List Hash → ℕ → KeptTree → Type 0
TreeTakesHashes before ask hashes c after =
    TakesHashes before.length ask hashes before.state.known c after.state.known
    × ChangesKnownAlone before after

-- why a tree refuses a message: the first test that fails; or out of memory, if none does and a
-- place is new
abbrev pub TreeRefusesHashes : KeptTree → Ask → List Hash → HashRefusal → Type 0
TreeRefusesHashes t ask hashes r = TreeRefuses t.length (look t.state.known) ask hashes r

-- a tree accepts a whole layer, and what follows is joined to what is known, with c more places;
-- the rest of the tree stays
abbrev pub TreeTakesLayer : KeptTree → ℕ → List Hash → ℕ → KeptTree → Type 0
TreeTakesLayer before layer hashes c after =
    TakesLayer before.length layer hashes before.state.known c after.state.known
    × ChangesKnownAlone before after

-- why a tree refuses a whole layer: the first test that fails; or out of memory, if none does and
-- a place is new
abbrev pub TreeRefusesLayer : KeptTree → ℕ → List Hash → HashRefusal → Type 0
TreeRefusesLayer t layer hashes r = FillRefuses t.length (look t.state.known) layer hashes r

-- the bytes have the block's size, their digest is its known leaf, and that leaf is marked after;
-- the rest of the tree stays
pub record TreeMarks (before : KeptTree) (b : ℕ) (bytes : List ℕ) (after : KeptTree) : Type 0 where
  pub size : HasBlockSize before.length b bytes
  pub leaf_known : look before.state.known 0 b ≡ Some (sha256 bytes)
  pub marks : after
      ≡ kept before.root before.length before.state.known (set.insert before.state.marked b)

-- why a tree refuses a block: the first test that fails
abbrev pub TreeRefusesBlock : KeptTree → ℕ → List ℕ → BlockRefusal → Type 0
TreeRefusesBlock t b bytes r = RefusesBlock t.length (look t.state.known) b bytes r

-- the base range of an ask is good for a tree, and known
abbrev pub TreeCanAnswer : KeptTree → Ask → Type 0
TreeCanAnswer t ask = CanAnswer (tree_height t.length) (look t.state.known) ask

-- what a tree answers to an ask: the hashes of a good and known range and its uncles, else a reject
abbrev pub TreeAnswers : KeptTree → Ask → Answer → Type 0
TreeAnswers t ask answer = IsTreeAnswer (tree_height t.length) (look t.state.known) ask answer
