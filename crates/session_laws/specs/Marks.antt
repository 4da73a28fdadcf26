-- Where the marks of a session come from.
use Rattle.std.specs.Prelude.{◌≡◌, ◌⊎◌, ℕ, ◌+◌, true, List, slice_get, Some, None}
use Rattle.std.specs.FinSet as leaves
use Rattle.sha2.specs.Sha256.{sha256}
use Rattle.wire.specs.declared.message.Message.{Message as Sent}
use Rattle.wire.specs.Records.{Directed}
use Rattle.session.specs.declared.verdict.Verdict.{Verdict as Said}
use Rattle.session.specs.declared.verdict.Verdict.TheVariants as verdict
use Rattle.node_maps.specs.Known.{look}
use Rattle.chains.specs.Chain.{Chain}
use Rattle.session.specs.Layouts.{tree_of}
use Rattle.session.specs.Session.{SessionSeen, TreeState, HasClosedTrees, IsInFile, IsFileBlock, Step}
use Rattle.session.specs.Noted.{NotedStep}

-- the leaf of block b of tree n is marked
pub record IsMarked (S : SessionSeen) (n b : ℕ) : Type 0 where
  pub state : TreeState
  pub there : slice_get S.trees n ≡ Some state
  pub marked : leaves.contains state.marked b ≡ true

-- an entry of a verdict verified block b of a file of tree n
abbrev pub IsVerifiedBy : SessionSeen → Said → ℕ → ℕ → Type 0
IsVerifiedBy S (verdict.Blocks v) n b = (m : ℕ) × (slice_get v.refusals m ≡ Some None)
    × (tree_of S v.file ≡ Some n) × (v.first + m ≡ b)
IsVerifiedBy S v n b = ⊥

-- so did one of these verdicts
abbrev pub IsVerifiedAmong : SessionSeen → List Said → ℕ → ℕ → Type 0
IsVerifiedAmong S vs n b = (k : ℕ) × (v : Said) × (slice_get vs k ≡ Some v) × IsVerifiedBy S v n b

-- a leaf that is marked after a run was marked before it, or an entry of a verdict of the run
-- verified that block of that tree
abbrev pub MarksComeFromBlocks : Type 0
MarksComeFromBlocks = (S : SessionSeen) (ms : List Sent) (vs : List Said) (S' : SessionSeen)
    → Chain Step S ms vs S' → (n b : ℕ) → IsMarked S' n b
    → IsMarked S n b ⊎ IsVerifiedAmong S vs n b

-- so it is where a session notes what it asks for
abbrev pub NotedMarksComeFromBlocks : Type 0
NotedMarksComeFromBlocks = (S : SessionSeen) (ms : List (Directed Sent)) (vs : List Said)
    (S' : SessionSeen) → Chain NotedStep S ms vs S' → (n b : ℕ) → IsMarked S' n b
    → IsMarked S n b ⊎ IsVerifiedAmong S vs n b

-- bytes whose digest is the known leaf of a block of a file are that block of every file that fits,
-- or a collision is named
abbrev pub KnownLeafIsTheBlock : Type 0
KnownLeafIsTheBlock = (S : SessionSeen) → HasClosedTrees S → (file b : ℕ) (bytes : List ℕ)
    (p : IsInFile S file b) → look p.state.known 0 b ≡ Some (sha256 bytes)
    → IsFileBlock S file b bytes
