-- What was given of a file that is hashed for a draft. Contracts of users cite these, and need
-- nothing of how they are defined.
use Rattle.std.specs.Prelude.{◌≡◌, ◌⊎◌, ℕ, ◌-◌, ◌^◌, Bool, List, [], ◌++◌, length}
use Rattle.gathering.specs.Gathered.{KeepsDigests}
use Rattle.gathering.specs.Hashing.{AreHashesOf}
use Rattle.gathering.specs.declared.hashing.FileHashes.{FileHashes}
use Rattle.drafting.specs.Stages.{IsStageAt, stage_left}
use Rattle.drafting.specs.declared.coming_file.ComingFile.{ComingFile}
use Rattle.drafting.specs.declared.stage.Stage.TheVariants as stage

-- the piece length of the drafts that it is for
abbrev pub piece_length_of : ComingFile → ℕ
piece_length_of f = f.kind.piece_length

-- whether these are hybrids
abbrev pub is_for_hybrids : ComingFile → Bool
is_for_hybrids f = f.kind.hybrid

-- both are for drafts of the same kind
abbrev pub IsSameKind : ComingFile → ComingFile → Type 0
IsSameKind f g = (piece_length_of g ≡ piece_length_of f) × (is_for_hybrids g ≡ is_for_hybrids f)

-- the file was given this content
abbrev pub IsGivenFile : ComingFile → List ℕ → Type 0
IsGivenFile f content = IsStageAt (piece_length_of f) (is_for_hybrids f) f.stage content

-- memory was refused: nothing is known of the content
abbrev pub HasFileRefused : ComingFile → Type 0
HasFileRefused f = f.stage ≡ stage.Refused

-- how many bytes may still come
abbrev pub file_bytes_left : ComingFile → ℕ
file_bytes_left f = stage_left f.stage

-- nothing came yet of a file for drafts of this kind
pub record IsNewFile (piece_length : ℕ) (hybrid : Bool) (f : ComingFile) : Type 0 where
  pub length_is : piece_length_of f ≡ piece_length
  pub hybrid_is : is_for_hybrids f ≡ hybrid
  pub left : file_bytes_left f ≡ 2 ^ 46
  pub given : IsGivenFile f []

-- these further bytes were given, and memory was not refused, now or before
pub record FeedsFile (old : ComingFile) (bytes : List ℕ) (new : ComingFile) : Type 0 where
  pub worked : HasFileRefused old → ⊥
  pub works : HasFileRefused new → ⊥
  pub left : file_bytes_left new ≡ file_bytes_left old - length bytes
  pub given : (content : List ℕ) → IsGivenFile old content → IsGivenFile new (content ++ bytes)

-- memory was refused before; or the digests of what was given and of these bytes are kept in memory
abbrev pub FileTakesMemory : ComingFile → List ℕ → Type 0
FileTakesMemory f bytes = HasFileRefused f
    ⊎ ((content : List ℕ) → IsGivenFile f content
    → KeepsDigests (piece_length_of f) (is_for_hybrids f) (content ++ bytes))

-- ---- the end; public clauses do not name these

-- this was found in some content, for drafts of the file's kind
abbrev pub IsOfSome : ComingFile → FileHashes → Type 0
IsOfSome f found =
    ∥ ((content : List ℕ) × AreHashesOf (piece_length_of f) (is_for_hybrids f) content found) ∥₁

-- this was found in what was given, which is some content: memory was not refused
pub record AreFoundIn (f : ComingFile) (found : FileHashes) : Type 0 where
  pub works : HasFileRefused f → ⊥
  pub some : IsOfSome f found
  pub each : (content : List ℕ) → IsGivenFile f content
      → AreHashesOf (piece_length_of f) (is_for_hybrids f) content found

-- the file is of the contents of which this was found
abbrev pub KeepsWhole : FileHashes → ComingFile → Type 0
KeepsWhole found f = (content : List ℕ)
    → AreHashesOf (piece_length_of f) (is_for_hybrids f) content found → IsGivenFile f content
