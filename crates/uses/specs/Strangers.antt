-- What messages of strangers come to.
use Rattle.std.specs.Prelude.{◌≡◌, ◌⊎◌, ℕ, ◌+◌, true, List, length, slice_get, Some, None, ⊤}
use Rattle.std.specs.Borrow.{Bor}
use Rattle.chains.specs.Chain.{Chain}
use Rattle.hashtree.specs.Tree.{block}
use Rattle.node_maps.specs.Digest.{Hash}
use Rattle.node_maps.specs.Known.{look}
use Rattle.opening.specs.Blocks.{IsBlockRun}
use Rattle.opening.specs.Describes.{Describes}
use Rattle.opening.specs.Description.{Description}
use Rattle.opening.specs.Places.{IsBlockPlace}
use Rattle.partial_tree.specs.Claims.{IsHeldBy}
use Rattle.partial_tree.specs.Closed.{Collision, whole}
use Rattle.partial_tree.specs.TreeRoot.{TreeRoot}
use Rattle.partial_tree.specs.declared.refusal.HashRefusal.TheVariants.{NoMemory}
use Rattle.session.specs.Blocks.{BlocksSeen}
use Rattle.session.specs.SafeStep.{AreTrueHashes, IsNoRun, IsSafeStep, VerifiesTrueBlocks}
use Rattle.session.specs.Session.{SessionSeen, TreeState, IsAsked, IsInFile, IsTree, IsFileBlock}
use Rattle.session.specs.declared.verdict.Verdict.{Verdict}
use Rattle.session.specs.declared.verdict.Verdict.TheVariants as verdict
use Rattle.uses.specs.Torrents.{KnowsTorrentAlone}
use Rattle.wire.specs.declared.message.Ask.{Ask}
use Rattle.wire.specs.declared.message.Message.{Message}
use Rattle.wire.specs.declared.message.Message.TheVariants as message

-- ---- what is verified is the block

-- The blocks of a piece message, from the file and block on that stand at its place (BEP 52). Each
-- that is not refused is that block of every file that fits the tree, or two inputs with one digest
-- are named.
pub record AreVerified (t : Description) (S : SessionSeen) (index begin : ℕ) (bytes : List ℕ)
    (entries : BlocksSeen) : Type 0 where
  pub place : IsBlockPlace t index begin entries.file entries.first
  pub blocks : (k : ℕ) → slice_get entries.refusals k ≡ Some None
      → IsFileBlock S entries.file (entries.first + k) (block bytes k)

-- a step of a session of this torrent keeps all that it promises, and verifies such blocks, of
-- which the message is and the verdict has entries, and nothing else
pub record VerifiesTheBlock (t : Description) (S : SessionSeen) (m : Message) (v : Verdict)
    (S' : SessionSeen) : Type 0 where
  pub of_torrent : S.torrent ≡ t
  pub step : IsSafeStep S m v S'
  pub verified : (index begin : ℕ) (sent : Bor (List ℕ)) (entries : BlocksSeen)
      → m ≡ message.Piece index begin sent → v ≡ verdict.Blocks entries
      → AreVerified t S index begin sent.now entries

-- verdicts on messages by a session that knew this torrent and nothing else
pub record AreVerdictsOf (t : Description) (messages : List Message) (verdicts : List Verdict)
    : Type 0 where
  pub start : SessionSeen
  pub knew : KnowsTorrentAlone t true start
  pub end : SessionSeen
  pub steps : Chain (VerifiesTheBlock t) start messages verdicts end

-- the same of the torrent that these bytes describe
pub record AreVerdictsOn (bytes : List ℕ) (messages : List Message) (verdicts : List Verdict)
    : Type 0 where
  pub torrent : Description
  pub described : Describes bytes torrent
  pub verdicts_are : AreVerdictsOf torrent messages verdicts

-- ---- what is true is taken

-- the tree that the ask names knows each of these hashes at its place
abbrev pub AreStored : SessionSeen → Ask → List Hash → Type 0
AreStored S ask hashes = (asked : IsAsked S ask) × IsHeldBy (look asked.state.known) ask hashes

-- hashes of a file that fits, which lead to a known node, are stored, unless memory is refused for
-- them or a collision is named
abbrev pub TakesTrueHashes : SessionSeen → Ask → List Hash → Verdict → SessionSeen → Type 0
TakesTrueHashes S ask hashes v S' =
    (n : ℕ) (tree : TreeRoot) (s : TreeState) (f : List ℕ) → IsTree S n tree s
    → AreTrueHashes f tree s ask hashes
    → ((count : ℕ) × (v ≡ verdict.Stored count) × AreStored S' ask hashes)
    ⊎ ((v ≡ verdict.HashRefused NoMemory) ⊎ Collision (whole f) (look s.known))

-- the message is a run of blocks, each of which has an entry, and that of a file's true block,
-- whose leaf is known, is verified, or a collision is named; the message is refused whole only if
-- it is no run of blocks
abbrev pub TakesTrueBlocks : SessionSeen → ℕ → ℕ → List ℕ → Verdict → Type 0
TakesTrueBlocks S index begin bytes (verdict.Blocks entries) =
    (p : IsInFile S entries.file entries.first)
    × IsBlockRun p.tree.length entries.first (length bytes) (length entries.refusals)
    × VerifiesTrueBlocks S bytes entries
TakesTrueBlocks S index begin bytes (verdict.BlockRefused r) = IsNoRun S index begin bytes
TakesTrueBlocks S index begin bytes v = ⊥

-- the same of a message; of one without hashes and blocks nothing more is said here
abbrev pub TakesTheTrue : SessionSeen → Message → Verdict → SessionSeen → Type 0
TakesTheTrue S (message.Hashes ask hashes) v S' = TakesTrueHashes S ask hashes.now v S'
TakesTheTrue S (message.Piece index begin bytes) v S' = TakesTrueBlocks S index begin bytes.now v
TakesTheTrue S m v S' = ⊤
