-- How far a file is, and what it was given. Public clauses do not name these.
use Rattle.std.specs.Prelude.{◌≡◌, ◌≢◌, ◌⊎◌, ℕ, ◌-◌, ◌^◌, Bool, List, ◌++◌, length}
use Rattle.gathering.specs.Gathered.{KeepsDigests}
use Rattle.gathering.specs.Hashing.{AreHashesOf, BeginsHashing, Hashes}
use Rattle.gathering.specs.declared.hashing.FileHashes.{FileHashes}
use Rattle.gathering.specs.declared.hashing.Hashing.{Hashing}
use Rattle.hashtree.specs.LayerBuilder.{HasRefused, layer_byte_count}
use Rattle.drafting.specs.declared.stage.Stage.{Stage}
use Rattle.drafting.specs.declared.stage.Stage.TheVariants as stage

-- this content was hashed so far, and memory was not refused to the tree
pub record IsHashing (piece_length : ℕ) (hybrid : Bool) (content : List ℕ) (h : Hashing)
    : Type 0 where
  pub first : Hashing
  pub begins : BeginsHashing piece_length hybrid first
  pub hashes : Hashes first content h
  pub works : HasRefused h.tree → ⊥

-- the file was given this content, for drafts of this kind; once memory was refused, none is known
abbrev pub IsStageAt : ℕ → Bool → Stage → List ℕ → Type 0
IsStageAt piece_length hybrid (stage.Coming h) content = IsHashing piece_length hybrid content h
IsStageAt piece_length hybrid (stage.Whole found) content =
    AreHashesOf piece_length hybrid content found
IsStageAt piece_length hybrid stage.Refused content = ⊥

-- unless memory was refused, it was given some content
abbrev pub HasSomeContent : ℕ → Bool → Stage → Type 0
HasSomeContent piece_length hybrid s = (s ≢ stage.Refused)
    → ∥ ((content : List ℕ) × IsStageAt piece_length hybrid s content) ∥₁

-- how many bytes may still come
abbrev pub stage_left : Stage → ℕ
stage_left (stage.Coming h) = 2 ^ 46 - layer_byte_count h.tree
stage_left (stage.Whole found) = 0
stage_left stage.Refused = 2 ^ 46

-- these further bytes were given
pub record AdvancesStage (old : Stage) (bytes : List ℕ) (new : Stage) : Type 0 where
  pub left : stage_left new ≡ stage_left old - length bytes
  pub given : (piece_length : ℕ) (hybrid : Bool) (content : List ℕ)
      → IsStageAt piece_length hybrid old content
      → IsStageAt piece_length hybrid new (content ++ bytes)

-- this was found of what was given
abbrev pub FoundOf : Stage → FileHashes → Type 0
FoundOf s found = (piece_length : ℕ) (hybrid : Bool) (content : List ℕ)
    → IsStageAt piece_length hybrid s content → AreHashesOf piece_length hybrid content found

-- memory was refused before, or hashing what was given and these bytes takes some
abbrev pub LacksMemory : Stage → List ℕ → Type 0
LacksMemory s bytes = (s ≡ stage.Refused)
    ⊎ ((piece_length : ℕ) (hybrid : Bool) (content : List ℕ)
    → IsStageAt piece_length hybrid s content → KeepsDigests piece_length hybrid (content ++ bytes))
