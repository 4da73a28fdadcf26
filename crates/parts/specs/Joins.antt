-- The verdicts of several parts as one: the worst of them.
use Rattle.std.specs.Prelude.{◌≡◌, ◌⊎◌, ℕ, ◌≤◌, List, length, slice_get, Option, Some, is_some, unwrap_or, ⊤}
use Rattle.opening.specs.Description.{Description}
use Rattle.folders.specs.declared.report.FileVerdict.{FileVerdict}
use Rattle.folders.specs.declared.report.FileVerdict.TheVariants as file
use Rattle.folders.specs.declared.report.V1Verdict.{V1Verdict}
use Rattle.folders.specs.declared.report.V1Verdict.TheVariants as version1
use Rattle.parts.specs.Parts.{PartReport}

-- the first verdict is no worse than the second: from the best to the worst they are good, bad (at
-- a later piece before an earlier one), of a wrong length, unreadable, and missing
abbrev pub NoWorse : FileVerdict → FileVerdict → Type 0
NoWorse file.Good w = ⊤
NoWorse (file.Bad q) file.Good = ⊥
NoWorse (file.Bad q) (file.Bad p) = p ≤ q
NoWorse (file.Bad q) file.WrongLength = ⊤
NoWorse (file.Bad q) file.Unreadable = ⊤
NoWorse (file.Bad q) file.Missing = ⊤
NoWorse file.WrongLength file.Good = ⊥
NoWorse file.WrongLength (file.Bad p) = ⊥
NoWorse file.WrongLength file.WrongLength = ⊤
NoWorse file.WrongLength file.Unreadable = ⊤
NoWorse file.WrongLength file.Missing = ⊤
NoWorse file.Unreadable file.Good = ⊥
NoWorse file.Unreadable (file.Bad p) = ⊥
NoWorse file.Unreadable file.WrongLength = ⊥
NoWorse file.Unreadable file.Unreadable = ⊤
NoWorse file.Unreadable file.Missing = ⊤
NoWorse file.Missing file.Good = ⊥
NoWorse file.Missing (file.Bad p) = ⊥
NoWorse file.Missing file.WrongLength = ⊥
NoWorse file.Missing file.Unreadable = ⊥
NoWorse file.Missing file.Missing = ⊤

-- the same of the version 1 pieces: good, bad (at a later piece before an earlier one), not checked
abbrev pub NoWorseV1 : V1Verdict → V1Verdict → Type 0
NoWorseV1 version1.Good w = ⊤
NoWorseV1 (version1.Bad q) version1.Good = ⊥
NoWorseV1 (version1.Bad q) (version1.Bad p) = p ≤ q
NoWorseV1 (version1.Bad q) version1.NotChecked = ⊤
NoWorseV1 version1.NotChecked version1.Good = ⊥
NoWorseV1 version1.NotChecked (version1.Bad p) = ⊥
NoWorseV1 version1.NotChecked version1.NotChecked = ⊤

-- the worst of what all parts say: none says worse, and one says it, unless it is the best
pub record IsWorst {A V : Type 0} (NoWorse : V → V → Type 0) (best : V) (says : A → V)
    (parts : List A) (w : V) : Type 0 where
  pub no_worse : (i : ℕ) (p : A) → slice_get parts i ≡ Some p → NoWorse (says p) w
  pub one : (w ≡ best) ⊎ ((i : ℕ) × (p : A) × (slice_get parts i ≡ Some p) × (says p ≡ w))

-- what a part says of file n, and of the version 1 pieces
abbrev pub says_of : ℕ → PartReport → FileVerdict
says_of n p = unwrap_or (slice_get p.files n) file.Good

abbrev pub says_of_v1 : PartReport → V1Verdict
says_of_v1 p = unwrap_or p.v1 version1.Good

-- these verdicts, one for each file and for a hybrid one on its version 1 pieces, join those of the
-- parts
pub record IsJoin (t : Description) (parts : List PartReport) (files : List FileVerdict)
    (v1 : Option V1Verdict) : Type 0 where
  pub count : length files ≡ length t.files
  pub hybrid : is_some v1 ≡ is_some t.v1
  pub each : (n : ℕ) (v : FileVerdict) → slice_get files n ≡ Some v
      → IsWorst NoWorse file.Good (says_of n) parts v
  pub version1 : (v : V1Verdict) → v1 ≡ Some v
      → IsWorst NoWorseV1 version1.Good says_of_v1 parts v
