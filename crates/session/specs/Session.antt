-- A session: a closed partial tree and marked leaves for each tree of a torrent, and its steps.
use Rattle.std.specs.Prelude.{◌≡◌, ◌≢◌, ◌⊎◌, ℕ, ◌+◌, ◌<◌, List, length, set, slice_get, true, Option, Some, None}
use Rattle.std.specs.Borrow.{Bor}
use Rattle.std.specs.FinSet as leaves
use Rattle.sha2.specs.Sha256.{sha256}
use Rattle.partial_tree.specs.TreeRoot.{TreeRoot, Fits}
use Rattle.node_maps.specs.Places.{tree_height, PartialTree, IsKnown}
use Rattle.wire.specs.declared.message.Ask.{Ask}
use Rattle.partial_tree.specs.declared.refusal.HashRefusal.{HashRefusal}
use Rattle.partial_tree.specs.declared.refusal.HashRefusal.TheVariants.{UnknownRoot}
use Rattle.partial_tree.specs.declared.refusal.BlockRefusal.{BlockRefusal}
use Rattle.partial_tree.specs.declared.refusal.BlockRefusal.TheVariants.{BadPlace, BadSize}
use Rattle.wire.specs.declared.message.Message.{Message}
use Rattle.wire.specs.declared.message.Message.TheVariants as message
use Rattle.session.specs.declared.verdict.Verdict.{Verdict}
use Rattle.session.specs.declared.verdict.Verdict.TheVariants as verdict
use Rattle.node_maps.specs.Digest.{Hash}
use Rattle.hashtree.specs.Tree.{block, block_count}
use Rattle.partial_tree.specs.Closed.{IsClosed, Collision, BlockCollision, whole}
use Rattle.partial_tree.specs.Claims.{AreHashes, TreeRefuses, CanAnswer}
use Rattle.partial_tree.specs.Gaps.{gaps}
use Rattle.node_maps.specs.Known.{look}
use Rattle.partial_tree.specs.Joins.{TakesHashes, TakesLayer}
use Rattle.partial_tree.specs.Fill.{FillRefuses}
use Rattle.opening.specs.Places.{place_of}
use Rattle.opening.specs.Blocks.{IsBlockRun}
use Rattle.chains.specs.Chain.{Chain}
use Rattle.partial_tree.specs.Kept.{HasBlockSize, RefusesBlock}
use Rattle.session.specs.Blocks.{BlocksSeen, Cut, cuts}
use Rattle.session.specs.Layouts.{roots, tree_of}
pub use Rattle.partial_tree.specs.Kept.{TreeState}
pub use Rattle.session.specs.Layouts.{SessionSeen}

-- tree n of the torrent, and its state
pub record IsTree (S : SessionSeen) (n : ℕ) (tree : TreeRoot) (s : TreeState) : Type 0 where
  pub tree_is : slice_get (roots S) n ≡ Some tree
  pub state_is : slice_get S.trees n ≡ Some s

-- each tree has a state, is closed, and knows each marked leaf
pub record HasClosedTrees (S : SessionSeen) : Type 0 where
  pub count : length S.trees ≡ length (roots S)
  pub closed : (n : ℕ) (tree : TreeRoot) (s : TreeState) → IsTree S n tree s
      → IsClosed tree (look s.known)
  pub marks : (n : ℕ) (tree : TreeRoot) (s : TreeState) → IsTree S n tree s → (i : ℕ)
      → leaves.contains s.marked i ≡ true → IsKnown (look s.known) 0 i

-- ---- hashes

-- the tree that an ask names by its root
pub record IsAsked (S : SessionSeen) (ask : Ask) : Type 0 where
  pub number : ℕ
  pub tree : TreeRoot
  pub state : TreeState
  pub is_tree : IsTree S number tree state
  pub has_root : tree.root ≡ ask.root

-- the tree that the ask names takes the message, with c more places
pub record IsStored (S : SessionSeen) (ask : Ask) (hashes : List Hash) (c : ℕ) (S' : SessionSeen)
    : Type 0 where
  pub asked : IsAsked S ask
  pub after : TreeState
  pub taken : TakesHashes asked.tree.length ask hashes asked.state.known c after.known
  pub marks_stay : after.marked ≡ asked.state.marked
  pub state_after : S' ≡ record S { trees = set S.trees asked.number after }

-- no tree has the root that the ask names, or that tree refuses the message
abbrev pub IsHashRefused : SessionSeen → Ask → List Hash → HashRefusal → Type 0
IsHashRefused S ask hashes UnknownRoot = (n : ℕ) (tree : TreeRoot)
    → slice_get (roots S) n ≡ Some tree → tree.root ≢ ask.root
IsHashRefused S ask hashes r = (a : IsAsked S ask)
    × TreeRefuses a.tree.length (look a.state.known) ask hashes r

-- ---- blocks

-- block b of a file, with the file's tree
pub record IsInFile (S : SessionSeen) (file b : ℕ) : Type 0 where
  pub tree_number : ℕ
  pub tree : TreeRoot
  pub state : TreeState
  pub of_file : tree_of S file ≡ Some tree_number
  pub is_tree : IsTree S tree_number tree state
  pub inside : b < block_count tree.length

-- the file and the block at which a piece message stands
pub record IsPlaced (S : SessionSeen) (index begin : ℕ) : Type 0 where
  pub file : ℕ
  pub number : ℕ
  pub at : place_of S.torrent index begin ≡ Some (file, number)
  pub in_file : IsInFile S file number

-- the bytes have that block's length, and their digest is its known leaf, which is marked
pub record IsMarkedBlock (S : SessionSeen) (file b : ℕ) (bytes : List ℕ) (S' : SessionSeen)
    : Type 0 where
  pub in_file : IsInFile S file b
  pub size : HasBlockSize in_file.tree.length b bytes
  pub leaf_known : look in_file.state.known 0 b ≡ Some (sha256 bytes)
  pub state_after : S' ≡ record S {
    trees = set S.trees in_file.tree_number
        (record in_file.state { marked = leaves.insert in_file.state.marked b });
  }

-- the first test of the bytes for a block of a file that fails
abbrev pub IsUnmarkedBlock : SessionSeen → ℕ → ℕ → List ℕ → BlockRefusal → Type 0
IsUnmarkedBlock S file b bytes r =
    (p : IsInFile S file b) × RefusesBlock p.tree.length (look p.state.known) b bytes r

-- the step of one block of a message: it is marked, or refused by itself
abbrev pub BlockStep : ℕ → SessionSeen → Cut → Option BlockRefusal → SessionSeen → Type 0
BlockStep file S c None S' = IsMarkedBlock S file c.number c.bytes S'
BlockStep file S c (Some r) S' = IsUnmarkedBlock S file c.number c.bytes r × (S' ≡ S)

-- the message's bytes are consecutive blocks of a file, and each of them gets its own step
pub record AreTaken (S : SessionSeen) (index begin : ℕ) (bytes : List ℕ) (v : BlocksSeen)
    (S' : SessionSeen) : Type 0 where
  pub at : place_of S.torrent index begin ≡ Some (v.file, v.first)
  pub in_file : IsInFile S v.file v.first
  pub run : IsBlockRun in_file.tree.length v.first (length bytes) (length v.refusals)
  pub each : Chain (BlockStep v.file) S (cuts v.first bytes (length v.refusals)) v.refusals S'

-- no block begins at the message's place, or its bytes are no blocks of the file from there on
abbrev pub AreRefused : SessionSeen → ℕ → ℕ → List ℕ → BlockRefusal → Type 0
AreRefused S index begin bytes BadPlace = place_of S.torrent index begin ≡ None
AreRefused S index begin bytes BadSize = (p : IsPlaced S index begin)
    × ((k : ℕ) → ¬ IsBlockRun p.in_file.tree.length p.number (length bytes) k)
AreRefused S index begin bytes r = ⊥

-- the bytes, as one block, are marked at their place
abbrev pub IsVerified : SessionSeen → ℕ → ℕ → List ℕ → ℕ → ℕ → SessionSeen → Type 0
IsVerified S index begin bytes file b S' = (place_of S.torrent index begin ≡ Some (file, b))
    × IsMarkedBlock S file b bytes S'

-- the first test of the bytes, as one block, that fails
abbrev pub IsBlockRefused : SessionSeen → ℕ → ℕ → List ℕ → BlockRefusal → Type 0
IsBlockRefused S index begin bytes BadPlace = place_of S.torrent index begin ≡ None
IsBlockRefused S index begin bytes r = (p : IsPlaced S index begin)
    × RefusesBlock p.in_file.tree.length (look p.in_file.state.known) p.number bytes r

-- ---- whole layers

-- tree n takes a whole layer, with c more places
pub record IsFilled (S : SessionSeen) (n layer : ℕ) (hashes : List Hash) (c : ℕ) (S' : SessionSeen)
    : Type 0 where
  pub tree : TreeRoot
  pub before : TreeState
  pub after : TreeState
  pub is_tree : IsTree S n tree before
  pub taken : TakesLayer tree.length layer hashes before.known c after.known
  pub marks_stay : after.marked ≡ before.marked
  pub state_after : S' ≡ record S { trees = set S.trees n after }

-- tree n refuses a whole layer
pub record IsFillRefused (S : SessionSeen) (n layer : ℕ) (hashes : List Hash) (r : HashRefusal)
    : Type 0 where
  pub tree : TreeRoot
  pub before : TreeState
  pub is_tree : IsTree S n tree before
  pub refuses : FillRefuses tree.length (look before.known) layer hashes r

-- each root stands once
abbrev pub HasDistinctRoots : SessionSeen → Type 0
HasDistinctRoots S = (n k : ℕ) (a b : TreeRoot) → slice_get (roots S) n ≡ Some a
    → slice_get (roots S) k ≡ Some b → a.root ≡ b.root → n ≡ k

-- ---- steps

-- the ask can be answered
abbrev pub IsAnswered : SessionSeen → Ask → Type 0
IsAnswered S ask = (a : IsAsked S ask)
    × CanAnswer (tree_height a.tree.length) (look a.state.known) ask

-- from the state S the message m may get the verdict v and leave the state S'
abbrev pub Step : SessionSeen → Message → Verdict → SessionSeen → Type 0
Step S (message.Hashes ask hashes) (verdict.Stored c) S' = IsStored S ask hashes.now c S'
Step S (message.Hashes ask hashes) (verdict.HashRefused r) S' = IsHashRefused S ask hashes.now r
    × (S' ≡ S)
Step S (message.Piece index begin bytes) (verdict.Blocks v) S' =
    AreTaken S index begin bytes.now v S'
Step S (message.Piece index begin bytes) (verdict.BlockRefused r) S' =
    AreRefused S index begin bytes.now r × (S' ≡ S)
Step S (message.Request ask) verdict.Answered S' = IsAnswered S ask × (S' ≡ S)
Step S (message.Request ask) verdict.Rejected S' = ¬ IsAnswered S ask × (S' ≡ S)
Step S (message.Reject ask) verdict.RejectNoted S' = S' ≡ S
Step S message.KeepAlive verdict.KeepAlive S' = S' ≡ S
Step S (message.Other id size) (verdict.Skipped id') S' = (id' ≡ id) × (S' ≡ S)
Step S m v S' = ⊥

-- the hashes of a message have 32 bytes each, as their type says
abbrev pub HasHashes : Message → Type 0
HasHashes (message.Hashes ask hashes) = AreHashes hashes.now
HasHashes m = Unit {0}

-- ---- progress

-- tree n has fewer gaps than K
abbrev pub HasFewerGaps : SessionSeen → ℕ → TreeRoot → PartialTree → Type 0
HasFewerGaps S n tree K = (s : TreeState) × IsTree S n tree s
    × (gaps tree.length (look s.known) < gaps tree.length K)

-- ---- the headline

-- the bytes are that block of each f with the length and the root that the torrent states for the
-- file, or two inputs with one digest are named
pub record IsFileBlock (S : SessionSeen) (file b : ℕ) (bytes : List ℕ) : Type 0 where
  pub in_file : IsInFile S file b
  pub is_block : (f : List ℕ) → Fits f in_file.tree.length in_file.tree.root
      → (bytes ≡ block f b) ⊎ (Collision (whole f) (look in_file.state.known)
      ⊎ BlockCollision f b bytes)

-- the bytes, as one block, are that block at their place
abbrev pub IsBlock : SessionSeen → ℕ → ℕ → List ℕ → ℕ → ℕ → Type 0
IsBlock S index begin bytes file b =
    (place_of S.torrent index begin ≡ Some (file, b)) × IsFileBlock S file b bytes

-- each entry that is not refused is that block, from the message's place on: entry m has block m of
-- the message's bytes
pub record AreBlocks (S : SessionSeen) (index begin : ℕ) (bytes : List ℕ) (v : BlocksSeen)
    : Type 0 where
  pub at : place_of S.torrent index begin ≡ Some (v.file, v.first)
  pub verified : (m : ℕ) → slice_get v.refusals m ≡ Some None
      → IsFileBlock S v.file (v.first + m) (block bytes m)

-- what a verdict on the blocks of a message promises, in the state at its step
abbrev pub IsTrueVerdict : SessionSeen → Message → Verdict → Type 0
IsTrueVerdict S m v = (index begin : ℕ) (sent : Bor (List ℕ)) (entries : BlocksSeen)
    → m ≡ message.Piece index begin sent → v ≡ verdict.Blocks entries
    → AreBlocks S index begin sent.now entries

-- a step whose verdict keeps its promise
abbrev pub IsTrueStep : SessionSeen → Message → Verdict → SessionSeen → Type 0
IsTrueStep S m v S' = Step S m v S' × IsTrueVerdict S m v
