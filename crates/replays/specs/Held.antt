-- What is held of the blocks of one message, and how what is held is settled.
use Rattle.std.specs.Prelude.{◌≡◌, ◌≢◌, ◌⊎◌, ℕ, ◌+◌, ◌-◌, ◌*◌, ◌%◌, ◌^◌, ◌<◌, ◌≤◌, Bool, true, false, List, [], ◌∷◌, length, slice_get, Option, Some, None}
use Rattle.hashtree.specs.Tree.{block, block_count}
use Rattle.partial_tree.specs.TreeRoot.{TreeRoot}
use Rattle.partial_tree.specs.declared.refusal.BlockRefusal.{BlockRefusal}
use Rattle.partial_tree.specs.declared.refusal.BlockRefusal.TheVariants as block_refusal
use Rattle.session.specs.Blocks.{BlocksSeen}
use Rattle.session.specs.Layouts.{SessionSeen, roots, tree_of}
use Rattle.session.specs.Pieces.{piece_span}
use Rattle.holdings.specs.declared.holding.Hold.{Hold}
use Rattle.holdings.specs.declared.holding.Hold.TheVariants as hold
use Rattle.holdings.specs.declared.piece_range.Pieces.{Pieces}
use Rattle.holdings.specs.declared.run.Run.{Run}
use Rattle.holdings.specs.Holding.{IsBlockHeldBy}
use Rattle.holdings.specs.Holdings.{HoldingsSeen}
use Rattle.holdings.specs.Next.{AreUnsettled, LacksMemoryNext, SettlesNext}
use Rattle.replays.specs.declared.said.Said.{Said}
use Rattle.replays.specs.declared.said.Said.TheVariants as said

-- ---- which file is named

-- no file before this one has tree n, and this one has it if any file has
pub record IsFirstWith (S : SessionSeen) (n file : ℕ) : Type 0 where
  pub first : (k : ℕ) → k < file → tree_of S k ≢ Some n
  pub has : (k : ℕ) → tree_of S k ≡ Some n → tree_of S file ≡ Some n

-- the file that is named for tree n beside a file at hand: that one, if it has the tree, or the
-- first that has it
abbrev pub IsNamed : SessionSeen → ℕ → ℕ → ℕ → Type 0
IsNamed S near n file = ((tree_of S near ≡ Some n) × (file ≡ near))
    ⊎ ((tree_of S near ≢ Some n) × IsFirstWith S n file)

-- the file that is named if a piece gives way
abbrev pub IsDroppedFrom : SessionSeen → ℕ → Hold → ℕ → Type 0
IsDroppedFrom S near (hold.Held (Some run)) file = IsNamed S near run.tree file
IsDroppedFrom S near other file = file ≡ near

-- ---- the blocks of one message

-- the entries of a message with these bytes are blocks of tree n, and each has bytes of its own
pub record IsRunOf (S : SessionSeen) (v : BlocksSeen) (bytes : List ℕ) (n : ℕ) : Type 0 where
  pub of_file : tree_of S v.file ≡ Some n
  pub tree : TreeRoot
  pub is_tree : slice_get (roots S) n ≡ Some tree
  pub some : 0 < length v.refusals
  pub inside : v.first + length v.refusals ≤ block_count tree.length
  pub carried : 16384 * length v.refusals ≤ length bytes + 16383

-- What is told of entry m, and how it changes what is held. An unproved block is held; of any other
-- the session's answer is told.
abbrev pub IsSaidOf : SessionSeen → BlocksSeen → List ℕ → ℕ → ℕ → HoldingsSeen → Said
    → HoldingsSeen → Type 0
IsSaidOf S v bytes n m k (said.Entry v' m' r) k' = (v' ≡ v) × (m' ≡ m)
    × (slice_get v.refusals m ≡ Some r) × (r ≢ Some block_refusal.Unproved) × (k' ≡ k)
IsSaidOf S v bytes n m k (said.Unproved v' m' h file) k' = (v' ≡ v) × (m' ≡ m)
    × (slice_get v.refusals m ≡ Some (Some block_refusal.Unproved))
    × IsBlockHeldBy k S n (v.first + m) (block bytes m) h k' × IsDroppedFrom S v.file h file
IsSaidOf S v bytes n m k other k' = ⊥

-- what is told of the entries from m on, one after the other
unfoldable pub AreSaidOf : SessionSeen → BlocksSeen → List ℕ → ℕ → ℕ → HoldingsSeen → List Said
    → HoldingsSeen → Type 0
AreSaidOf S v bytes n m k [] k' = k' ≡ k
AreSaidOf S v bytes n m k (s ∷ ss) k' = (mid : HoldingsSeen) × IsSaidOf S v bytes n m k s mid
    × AreSaidOf S v bytes n (m + 1) mid ss k'

-- ---- settlings

-- the pieces of tree n that have one of these blocks
pub record ArePiecesOf (S : SessionSeen) (v : BlocksSeen) (n : ℕ) (p : Pieces) : Type 0 where
  pub tree_is : p.tree ≡ n
  pub tree : TreeRoot
  pub is_tree : slice_get (roots S) n ≡ Some tree
  pub from_is : p.from ≡ v.first - v.first % 2 ^ piece_span S.torrent.piece_length tree.length
  pub end_is : p.end ≡ v.first + length v.refusals

-- a session, what is held, and which pieces are still to be looked at
pub record Work : Type 0 where
  pub session : SessionSeen
  pub held : HoldingsSeen
  pub pieces : Pieces

abbrev pub work : SessionSeen → HoldingsSeen → Pieces → Work
work S k p = record { session = S; held = k; pieces = p }

-- the next thing is settled, and told of this file; or memory is refused for it
abbrev pub IsSettled : ℕ → Work → Said → Work → Type 0
IsSettled file w (said.Settling file' e) w' = (file' ≡ file)
    × SettlesNext w.session w.held w.pieces e w'.session w'.held w'.pieces
IsSettled file w said.Lacking w' = LacksMemoryNext w.session w.held w.pieces w'.pieces
    × (w'.session ≡ w.session) × (w'.held ≡ w.held)
IsSettled file w other w' = ⊥

-- these are settled, one after the other
unfoldable pub AreSettled : ℕ → Work → List Said → Work → Type 0
AreSettled file w [] w' = w' ≡ w
AreSettled file w (s ∷ ss) w' = (mid : Work) × IsSettled file w s mid × AreSettled file mid ss w'

-- nothing is left to settle, if all was told
abbrev pub IsDone : Bool → Work → Type 0
IsDone true w = AreUnsettled w.session w.held w.pieces w.pieces.end
IsDone false w = Unit {0}

-- these are settled of some pieces, from what is known and held there to here
pub record SettlesAll (whole : Bool) (file : ℕ) (S : SessionSeen) (k : HoldingsSeen) (p : Pieces)
    (told : List Said) (S' : SessionSeen) (k' : HoldingsSeen) : Type 0 where
  pub left : Pieces
  pub settled : AreSettled file (work S k p) told (work S' k' left)
  pub done : IsDone whole (work S' k' left)
