-- Where the marks of a session come from, if calls of any kind are made on it: messages, blocks and
-- whole pieces, leaves, whole layers and trees.
use Rattle.std.specs.Prelude.{◌≡◌, ◌⊎◌, ℕ, ◌+◌, ◌<◌, List, [], ◌∷◌, length, slice_get, Some}
use Rattle.wire.specs.declared.message.Message.{Message}
use Rattle.wire.specs.Records.{Directed}
use Rattle.session.specs.declared.verdict.Verdict.{Verdict}
use Rattle.hashtree.specs.Tree.{block_count}
use Rattle.node_maps.specs.Digest.{Hash}
use Rattle.session.specs.Layouts.{tree_of}
use Rattle.session.specs.Session.{SessionSeen, IsFilled, IsVerified, Step}
use Rattle.session.specs.Noted.{NotedStep}
use Rattle.session.specs.Pieces.{AreLeavesTaken, IsLeafMarked, IsTakenPiece}
use Rattle.session_laws.specs.Marks.{IsMarked, IsVerifiedBy}

-- a call that was not refused: what it was given, and what it answered
pub data Call : Type 0 where
  -- a message, and its verdict
  TookMessage : Message → Verdict → Call
  -- a message of a session that notes what it asks for, and its verdict
  TookNoted : Directed Message → Verdict → Call
  -- the place and the bytes of a block; the file and the block that it is
  TookBlock : (index begin : ℕ) → List ℕ → (file b : ℕ) → Call
  -- the number and the bytes of a piece; the file and the block with which it begins
  TookPiece : (index : ℕ) → List ℕ → (file first : ℕ) → Call
  -- the leaves of a piece of tree n, from one on; how many places are newly known
  TookLeaves : (n first : ℕ) → List Hash → ℕ → Call
  -- a whole layer of tree n; how many places are newly known
  Filled : (n layer : ℕ) → List Hash → ℕ → Call
  -- a block of tree n, and the digest of bytes that came for it
  MarkedLeaf : (n b : ℕ) → Hash → Call

-- what a call does to a session
abbrev pub CallDoes : SessionSeen → Call → SessionSeen → Type 0
CallDoes S (TookMessage m v) S' = Step S m v S'
CallDoes S (TookNoted m v) S' = NotedStep S m v S'
CallDoes S (TookBlock index begin bytes file b) S' = IsVerified S index begin bytes file b S'
CallDoes S (TookPiece index bytes file first) S' = IsTakenPiece S index bytes file first S'
CallDoes S (TookLeaves n first leaves c) S' = AreLeavesTaken S n first leaves c S'
CallDoes S (Filled n layer hashes c) S' = IsFilled S n layer hashes c S'
CallDoes S (MarkedLeaf n b digest) S' = IsLeafMarked S n b digest S'

-- a call verified block b of tree n: an entry of its verdict says so, the call was given that block
-- or a piece that has it, or the digest of what came for it
abbrev pub Verifies : SessionSeen → Call → ℕ → ℕ → Type 0
Verifies S (TookMessage m v) n b = IsVerifiedBy S v n b
Verifies S (TookNoted m v) n b = IsVerifiedBy S v n b
Verifies S (TookBlock index begin bytes file c) n b = (tree_of S file ≡ Some n) × (c ≡ b)
Verifies S (TookPiece index bytes file first) n b = (tree_of S file ≡ Some n)
    × ((j : ℕ) × (j < block_count (length bytes)) × (first + j ≡ b))
Verifies S (TookLeaves k first leaves c) n b = ⊥
Verifies S (Filled k layer hashes c) n b = ⊥
Verifies S (MarkedLeaf k c digest) n b = (k ≡ n) × (c ≡ b)

-- these calls, one after the other, lead from S to S'
unfoldable pub AreMade : SessionSeen → List Call → SessionSeen → Type 0
AreMade S [] S' = S' ≡ S
AreMade S (call ∷ calls) S' = (mid : SessionSeen) × CallDoes S call mid × AreMade mid calls S'

-- one of these calls verified block b of tree n
abbrev pub IsVerifiedIn : SessionSeen → List Call → ℕ → ℕ → Type 0
IsVerifiedIn S calls n b = (k : ℕ) × (call : Call) × (slice_get calls k ≡ Some call)
    × Verifies S call n b

-- a leaf that is marked after calls of any kind was marked before them, or one of them verified
-- that block of that tree
abbrev pub MarksComeFromCalls : Type 0
MarksComeFromCalls = (S : SessionSeen) (calls : List Call) (S' : SessionSeen)
    → AreMade S calls S' → (n b : ℕ) → IsMarked S' n b
    → IsMarked S n b ⊎ IsVerifiedIn S calls n b
