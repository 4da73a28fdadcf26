-- What sessions promise to one who trusts SHA-256: the same with no collision left.
--
-- Trust is in the inputs in use, which a test names: those that were ever hashed, say.
use Rattle.std.specs.Prelude.{◌≡◌, ◌⊎◌, ℕ, ◌+◌, ◌*◌, ◌<◌, List, length, slice_get, Option, Some, None, Result, Ok, Err}
use Rattle.wire.specs.declared.form.Direction.TheVariants.{In}
use Rattle.wire.specs.declared.message.Ask.{Ask}
use Rattle.wire.specs.declared.message.Message.{Message}
use Rattle.wire.specs.declared.message.Message.TheVariants as message
use Rattle.wire.specs.Records.{Directed}
use Rattle.partial_tree.specs.declared.refusal.HashRefusal.{HashRefusal}
use Rattle.partial_tree.specs.declared.refusal.HashRefusal.TheVariants.{NoMemory}
use Rattle.partial_tree.specs.declared.refusal.BlockRefusal.{BlockRefusal}
use Rattle.session.specs.declared.verdict.Verdict.{Verdict}
use Rattle.session.specs.declared.verdict.Verdict.TheVariants as verdict
use Rattle.hashtree.specs.Tree.{block}
use Rattle.node_maps.specs.Digest.{Hash}
use Rattle.node_maps.specs.Places.{IsKnown}
use Rattle.node_maps.specs.Known.{look}
use Rattle.partial_tree.specs.TreeRoot.{TreeRoot, Fits}
use Rattle.partial_tree.specs.Trust.{AreJoinsOf, AreInputsOf}
use Rattle.session.specs.Session.{SessionSeen, TreeState, IsTree, IsInFile}
use Rattle.session.specs.Blocks.{BlocksSeen, block_length}
use Rattle.session.specs.SafeStep.{AreTrueHashes, IsAnswerFrom, IsSafeStep}
use Rattle.session.specs.Wanted.{IsWantedAnswer, HasOneGapFewer}
use Rattle.session.specs.Noted.{IsAwaited, asking, IsSafeNotedStep}

-- ---- what a session gives to SHA-256

-- each two siblings that it knows, joined, are one of these inputs
abbrev pub AreJoinsOfTrees : (List ℕ → Type 0) → SessionSeen → Type 0
AreJoinsOfTrees P S = (n : ℕ) (tree : TreeRoot) (s : TreeState) → IsTree S n tree s
    → AreJoinsOf P (look s.known)

-- each block of the bytes of a piece message is one of them
abbrev pub HasBlocksOf : (List ℕ → Type 0) → Message → Type 0
HasBlocksOf P (message.Piece index begin bytes) =
    (m : ℕ) → block_length * m < length bytes.now → P (block bytes.now m)
HasBlocksOf P m = Unit {0}

-- ---- what it promises of files of which SHA-256 is given such inputs alone

-- the bytes are that block of each such file that fits its tree
pub record IsTrustedBlock (P : List ℕ → Type 0) (S : SessionSeen) (file b : ℕ) (bytes : List ℕ)
    : Type 0 where
  pub in_file : IsInFile S file b
  pub is_block : (f : List ℕ) → Fits f in_file.tree.length in_file.tree.root → AreInputsOf P f
      → bytes ≡ block f b

-- stored, unless memory was refused
abbrev pub IsStoredWithMemory : Result ℕ HashRefusal → Type 0
IsStoredWithMemory r = ((count : ℕ) × (r ≡ Ok count)) ⊎ (r ≡ Err NoMemory)

-- true hashes that lead to a known node are stored, unless memory is refused for them
abbrev pub StoresTrusted : (List ℕ → Type 0) → SessionSeen → Ask → List Hash → Result ℕ HashRefusal
    → Type 0
StoresTrusted P S ask hashes r =
    (n : ℕ) (tree : TreeRoot) (s : TreeState) (f : List ℕ) → IsTree S n tree s
    → AreTrueHashes f tree s ask hashes → AreInputsOf P f → IsStoredWithMemory r

-- so is what another session of the torrent answers, of which SHA-256 is given such inputs alone
abbrev pub StoresTrustedAnswers : (List ℕ → Type 0) → SessionSeen → Ask → List Hash
    → Result ℕ HashRefusal → Type 0
StoresTrustedAnswers P S ask hashes r = (J : SessionSeen) → IsAnswerFrom S.torrent J ask hashes
    → AreJoinsOfTrees P J → IsStoredWithMemory r

-- the true answer to what is wanted leaves exactly one gap fewer, unless memory is refused for it
abbrev pub TrustedClosesOneGap : (List ℕ → Type 0) → SessionSeen → Ask → List Hash
    → Result ℕ HashRefusal → SessionSeen → Type 0
TrustedClosesOneGap P S ask hashes r S' =
    (n : ℕ) (f : List ℕ) (w : IsWantedAnswer S n f ask hashes) → AreInputsOf P f
    → HasOneGapFewer S' n w.tree (look w.state.known) ⊎ (r ≡ Err NoMemory)

-- the true block of a known leaf is not refused
abbrev pub TakesTrustedBlock : (List ℕ → Type 0) → SessionSeen → ℕ → ℕ → List ℕ
    → Option BlockRefusal → Type 0
TakesTrustedBlock P S file b bytes r = (p : IsInFile S file b) (f : List ℕ)
    → Fits f p.tree.length p.tree.root
    → bytes ≡ block f b → IsKnown (look p.state.known) 0 b → AreInputsOf P f → r ≡ None

-- ---- steps

-- what is made of hashes
pub record TakesTrustedHashes (P : List ℕ → Type 0) (S : SessionSeen) (ask : Ask)
    (hashes : List Hash) (r : Result ℕ HashRefusal) (S' : SessionSeen) : Type 0 where
  pub stores : StoresTrusted P S ask hashes r
  pub stores_answers : StoresTrustedAnswers P S ask hashes r
  pub closes_one_gap : TrustedClosesOneGap P S ask hashes r S'

-- what is made of the blocks of a message: an entry that is not refused is the block, and none
-- refuses the true block of a known leaf
pub record TakesTrustedBlocks (P : List ℕ → Type 0) (S : SessionSeen) (bytes : List ℕ)
    (v : BlocksSeen) : Type 0 where
  pub verified : (m : ℕ) → slice_get v.refusals m ≡ Some None
      → IsTrustedBlock P S v.file (v.first + m) (block bytes m)
  pub taken : (m : ℕ) (r : Option BlockRefusal) → slice_get v.refusals m ≡ Some r
      → TakesTrustedBlock P S v.file (v.first + m) (block bytes m) r

-- what is made of a message
abbrev pub TakesTrusted : (List ℕ → Type 0) → SessionSeen → Message → Verdict → SessionSeen → Type 0
TakesTrusted P S (message.Hashes ask hashes) (verdict.Stored c) S' =
    TakesTrustedHashes P S ask hashes.now (Ok c) S'
TakesTrusted P S (message.Hashes ask hashes) (verdict.HashRefused r) S' =
    TakesTrustedHashes P S ask hashes.now (Err r) S'
TakesTrusted P S (message.Piece index begin bytes) (verdict.Blocks v) S' =
    TakesTrustedBlocks P S bytes.now v
TakesTrusted P S m v S' = Unit {0}

-- a safe step with no collision left
pub record IsTrustedStep (P : List ℕ → Type 0) (S : SessionSeen) (m : Message) (v : Verdict)
    (S' : SessionSeen) : Type 0 where
  pub safe : IsSafeStep S m v S'
  pub trusted : TakesTrusted P S m v S'

-- a safe step of a session that notes what it asks for, with no collision left of what was awaited
pub record IsTrustedNotedStep (P : List ℕ → Type 0) (S : SessionSeen) (x : Directed Message)
    (v : Verdict) (S' : SessionSeen) : Type 0 where
  pub safe : IsSafeNotedStep S x v S'
  pub trusted : (m : Message) → x ≡ (In, m) → IsAwaited S m
      → TakesTrusted P S m v (asking S.asks S')
