-- What each step of a session promises: what it verifies is the block, and poison does no harm.
use Rattle.std.specs.Prelude.{◌≡◌, ◌⊎◌, ℕ, ◌-◌, ◌≤◌, ◌+◌, List, length, slice_get, Option, Some, None, Result, Ok, Err}
use Rattle.std.specs.Borrow.{Bor}
use Rattle.wire.specs.declared.message.Ask.{Ask}
use Rattle.wire.specs.declared.message.Message.{Message}
use Rattle.wire.specs.declared.message.Message.TheVariants as message
use Rattle.partial_tree.specs.declared.refusal.HashRefusal.{HashRefusal}
use Rattle.partial_tree.specs.declared.refusal.HashRefusal.TheVariants.{NoMemory}
use Rattle.partial_tree.specs.declared.refusal.BlockRefusal.{BlockRefusal}
use Rattle.session.specs.declared.verdict.Verdict.{Verdict}
use Rattle.session.specs.declared.verdict.Verdict.TheVariants as verdict
use Rattle.hashtree.specs.Tree.{block}
use Rattle.node_maps.specs.Digest.{Hash}
use Rattle.node_maps.specs.Places.{tree_height, IsKnown}
use Rattle.node_maps.specs.Known.{look}
use Rattle.opening.specs.Description.{Description}
use Rattle.opening.specs.Blocks.{IsBlockRun}
use Rattle.partial_tree.specs.TreeRoot.{TreeRoot, Fits}
use Rattle.partial_tree.specs.Closed.{Keeps, Collision, whole}
use Rattle.partial_tree.specs.Claims.{top_layer, top_index, GoodRange, GoodCount, IsHeldBy, CanAnswer, answer_of}
use Rattle.session.specs.Session.{SessionSeen, TreeState, IsTree, HasClosedTrees, IsAsked, IsInFile, IsPlaced, Step, IsTrueVerdict}
use Rattle.session.specs.Blocks.{BlocksSeen}
use Rattle.session.specs.Wanted.{WantedClosesOneGap}

-- each known place of each tree keeps its value
abbrev pub KeepsKnown : SessionSeen → SessionSeen → Type 0
KeepsKnown S S' = (n : ℕ) (tree : TreeRoot) (s : TreeState) → IsTree S n tree s
    → (later : TreeState) × IsTree S' n tree later × Keeps (look s.known) (look later.known)

-- the hashes for a tree are those of a file that fits it, in range and count as asked, and lead to
-- a known node
pub record AreTrueHashes (f : List ℕ) (tree : TreeRoot) (s : TreeState) (ask : Ask)
    (hashes : List Hash) : Type 0 where
  pub fits : Fits f tree.length tree.root
  pub has_root : tree.root ≡ ask.root
  pub range : GoodRange (tree_height tree.length) ask
  pub count : GoodCount (tree_height tree.length) ask hashes
  pub from_file : IsHeldBy (whole f) ask hashes
  pub top_known : IsKnown (look s.known) (top_layer ask hashes) (top_index ask hashes)

-- true hashes are stored, unless memory is refused for them or a collision is named
abbrev pub StoresTrueHashes : SessionSeen → Ask → List Hash → Result ℕ HashRefusal → Type 0
StoresTrueHashes S ask hashes r =
    (n : ℕ) (tree : TreeRoot) (s : TreeState) (f : List ℕ) → IsTree S n tree s
    → AreTrueHashes f tree s ask hashes
    → ((count : ℕ) × (r ≡ Ok count)) ⊎ ((r ≡ Err NoMemory) ⊎ Collision (whole f) (look s.known))

-- the hashes are what a session of the same torrent, in a state J whose trees are closed, answers
-- to an ask with enough proof layers
pub record IsAnswerFrom (torrent : Description) (J : SessionSeen) (ask : Ask) (hashes : List Hash)
    : Type 0 where
  pub same : J.torrent ≡ torrent
  pub closed : HasClosedTrees J
  pub asked : IsAsked J ask
  pub can : CanAnswer (tree_height asked.tree.length) (look asked.state.known) ask
  pub enough : tree_height asked.tree.length - ask.base - 1 ≤ ask.proof
  pub hashes_are : hashes ≡ answer_of (tree_height asked.tree.length) (look asked.state.known) ask

-- what another session of the torrent answers is stored, unless memory is refused for it or a
-- collision of the two trees is named
abbrev pub StoresAnswers : SessionSeen → Ask → List Hash → Result ℕ HashRefusal → Type 0
StoresAnswers S ask hashes r = (J : SessionSeen) (from : IsAnswerFrom S.torrent J ask hashes)
    → ((count : ℕ) × (r ≡ Ok count)) ⊎ ((r ≡ Err NoMemory)
    ⊎ ((s : TreeState) × IsTree S from.asked.number from.asked.tree s
    × Collision (look from.asked.state.known) (look s.known)))

-- the true block of a known leaf is not refused, or a collision is named
abbrev pub TakesTrueBlock : SessionSeen → ℕ → ℕ → List ℕ → Option BlockRefusal → Type 0
TakesTrueBlock S file b bytes r = (p : IsInFile S file b) (f : List ℕ)
    → Fits f p.tree.length p.tree.root
    → bytes ≡ block f b → IsKnown (look p.state.known) 0 b
    → (r ≡ None) ⊎ Collision (whole f) (look p.state.known)

-- no entry refuses the true block of a known leaf, or a collision is named
abbrev pub VerifiesTrueBlocks : SessionSeen → List ℕ → BlocksSeen → Type 0
VerifiesTrueBlocks S bytes v = (m : ℕ) (r : Option BlockRefusal) → slice_get v.refusals m ≡ Some r
    → TakesTrueBlock S v.file (v.first + m) (block bytes m) r

-- the bytes are no blocks of the file at the message's place
abbrev pub IsNoRun : SessionSeen → ℕ → ℕ → List ℕ → Type 0
IsNoRun S index begin bytes = (p : IsPlaced S index begin) (k : ℕ)
    → ¬ IsBlockRun p.in_file.tree.length p.number (length bytes) k

-- the true block of a known leaf, as one block, is verified, or a collision is named
abbrev pub VerifiesTrueBlock : SessionSeen → ℕ → ℕ → List ℕ → Result (ℕ × ℕ) BlockRefusal → Type 0
VerifiesTrueBlock S index begin bytes r =
    (p : IsPlaced S index begin) (f : List ℕ)
    → Fits f p.in_file.tree.length p.in_file.tree.root → bytes ≡ block f p.number
    → IsKnown (look p.in_file.state.known) 0 p.number → (r ≡ Ok (p.file, p.number))
    ⊎ Collision (whole f) (look p.in_file.state.known)

-- the verdict on hashes, by what became of them
abbrev pub verdict_of : Result ℕ HashRefusal → Verdict
verdict_of (Ok count) = verdict.Stored count
verdict_of (Err refusal) = verdict.HashRefused refusal

-- What a step promises, in every state and so whatever came before it. The torrent stays; a block
-- that is marked verified is that block of each file with the length and the root that the torrent
-- states, or a collision is named; what is known stays. What is true is stored: hashes of such a
-- file, and what another session of the torrent answers. A true block is verified, and no blocks of
-- a file are refused whole. The true answer to what is wanted closes one gap. (By `allowed` the
-- verdict on a message of blocks is `Blocks` or `BlockRefused`, on hashes one of `verdict_of`.)
pub record IsSafeStep (S : SessionSeen) (m : Message) (v : Verdict) (S' : SessionSeen)
    : Type 0 where
  pub allowed : Step S m v S'
  pub torrent_stays : S'.torrent ≡ S.torrent
  pub verified_is_the_block : IsTrueVerdict S m v
  pub known_stays : KeepsKnown S S'
  pub true_hashes_are_stored : (ask : Ask) (given : Bor (List Hash)) (result : Result ℕ HashRefusal)
      → m ≡ message.Hashes ask given → v ≡ verdict_of result
      → StoresTrueHashes S ask given.now result
  pub answers_are_stored : (ask : Ask) (given : Bor (List Hash)) (result : Result ℕ HashRefusal)
      → m ≡ message.Hashes ask given → v ≡ verdict_of result
      → StoresAnswers S ask given.now result
  pub true_blocks_are_verified : (index begin : ℕ) (sent : Bor (List ℕ)) (entries : BlocksSeen)
      → m ≡ message.Piece index begin sent → v ≡ verdict.Blocks entries
      → VerifiesTrueBlocks S sent.now entries
  pub blocks_are_not_refused : (index begin : ℕ) (sent : Bor (List ℕ)) (refusal : BlockRefusal)
      → m ≡ message.Piece index begin sent → v ≡ verdict.BlockRefused refusal
      → IsNoRun S index begin sent.now
  pub one_gap_closes : (ask : Ask) (given : Bor (List Hash)) (result : Result ℕ HashRefusal)
      → m ≡ message.Hashes ask given → v ≡ verdict_of result
      → WantedClosesOneGap S ask given.now result S'
