-- The first line of a report: a row of the table of lines.
use Rattle.std.specs.Prelude.{◌≡◌, ℕ, ◌+◌, ◌<◌, ◌^◌, List, ◌++◌, length, slice_get, Some}
use Rattle.hex.specs.Hex.{IsBytes}
use Rattle.lines.specs.Rows.{Row}
use Rattle.lines.specs.Table.{bad_part_row, part_row}
use Rattle.lines.specs.Texts.{text_of}
use Rattle.part_reports.specs.declared.kind.Kind.{Kind}
use Rattle.part_reports.specs.declared.kind.Kind.TheVariants as kind

-- a version 2 info-hash: the 32 bytes of a SHA-256 digest
pub record IsInfoHash (hash : List ℕ) : Type 0 where
  pub count : length hash ≡ 32
  pub bytes : IsBytes hash

-- the first line of the report, of this kind, of this one of this many parts of a check of the
-- torrent with this info-hash: its part counts from 1 there
abbrev pub first_row : Kind → ℕ → ℕ → List ℕ → Row
first_row kind.Plain part count hash = part_row (part + 1) count hash
first_row kind.Marked part count hash = bad_part_row (part + 1) count hash

-- the same as it is printed
abbrev pub first_line : Kind → ℕ → ℕ → List ℕ → List ℕ
first_line k part count hash = text_of (first_row k part count hash)

-- the text begins with such a line
pub record HasHead (k : Kind) (text : List ℕ) (part count : ℕ) (hash : List ℕ) : Type 0 where
  pub there : part < count
  pub small : count < 2 ^ 64
  pub more : List ℕ
  pub is : text ≡ first_line k part count hash ++ more

-- the text begins with the first line of a report of this kind, and this is the info-hash there
abbrev pub IsOfHash : Kind → List ℕ → ℕ → ℕ → List ℕ → Type 0
IsOfHash k text part count hash = IsInfoHash hash × HasHead k text part count hash

-- the text does not begin with the first line of a report of this kind
abbrev pub HasNoHead : Kind → List ℕ → Type 0
HasNoHead k text = (part count : ℕ) (hash : List ℕ) → IsOfHash k text part count hash → ⊥

-- the first of these texts begins with the first line of a marked report
abbrev pub AreMarkedTexts : List (List ℕ) → Type 0
AreMarkedTexts texts = (text : List ℕ) × (slice_get texts 0 ≡ Some text)
    × (part count : ℕ) × (hash : List ℕ) × IsOfHash kind.Marked text part count hash

-- these texts are to be joined as reports of this kind, as their first line says
abbrev pub AreOfKind : List (List ℕ) → Kind → Type 0
AreOfKind texts kind.Plain = AreMarkedTexts texts → ⊥
AreOfKind texts kind.Marked = AreMarkedTexts texts
