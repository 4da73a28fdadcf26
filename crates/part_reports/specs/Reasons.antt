-- Why reports are not joined.
use Rattle.std.specs.Prelude.{◌≡◌, ◌≢◌, ◌⊎◌, ℕ, ◌+◌, ◌<◌, ◌^◌, List, [], length, slice_get, Some, ⊤}
use Rattle.opening.specs.Description.{Description}
use Rattle.parts.specs.Shares.{share}
use Rattle.part_reports.specs.Heads.{HasHead, HasNoHead, IsOfHash}
use Rattle.part_reports.specs.Joined.{report_text_of}
use Rattle.part_reports.specs.Lines.{CanReportMarked, MarkedPart}
use Rattle.part_reports.specs.declared.join_fault.JoinFault.{JoinFault}
use Rattle.part_reports.specs.declared.join_fault.JoinFault.TheVariants as fault
use Rattle.part_reports.specs.declared.kind.Kind.{Kind}
use Rattle.part_reports.specs.declared.kind.Kind.TheVariants as kind

-- the text is what this one of this many parts prints, in a report of this kind, of verdicts and
-- runs of bad pieces that it can report
pub record IsReportOfKind (k : Kind) (t : Description) (part count : ℕ) (text : List ℕ) : Type 0
  where
    pub there : part < count
    pub small : count < 2 ^ 64
    pub said : MarkedPart
    pub places : said.places ≡ share t part count
    pub can : CanReportMarked k t said
    pub is : text ≡ report_text_of k t part count said

-- a report of verdicts alone: there are no runs
abbrev pub IsPlainReport : Description → ℕ → ℕ → List ℕ → Type 0
IsPlainReport t part count text = IsReportOfKind kind.Plain t part count text

-- a report of verdicts and of runs of bad pieces
abbrev pub IsMarkedReport : Description → ℕ → ℕ → List ℕ → Type 0
IsMarkedReport t part count text = IsReportOfKind kind.Marked t part count text

-- it is no report of this torrent, and does not begin with the first line of one of another torrent
pub record IsNoReport (k : Kind) (t : Description) (text : List ℕ) : Type 0 where
  pub none : (part count : ℕ) → IsReportOfKind k t part count text → ⊥
  pub own : (part count : ℕ) (hash : List ℕ) → IsOfHash k text part count hash
      → hash ≡ t.info_hash_v2

-- a text begins with the first line of a report, with another info-hash
abbrev pub IsOfOther : Kind → List ℕ → List ℕ → Type 0
IsOfOther k own text =
    (part count : ℕ) × (hash : List ℕ) × IsOfHash k text part count hash × (hash ≢ own)

-- the text at this place is so
abbrev pub IsNoReportAt : Kind → Description → List (List ℕ) → ℕ → Type 0
IsNoReportAt k t texts place =
    (text : List ℕ) × (slice_get texts place ≡ Some text) × IsNoReport k t text

-- ---- by the first lines, in the order of the texts

-- each of the first texts, as many as these numbers are, begins with the first line of this part,
-- of this many parts of one check of the torrent, and each with that of another one
pub record AreNamed (k : Kind) (t : Description) (texts : List (List ℕ)) (parts : List ℕ)
    (count : ℕ) : Type 0 where
  pub heads : (i p : ℕ) (text : List ℕ) → slice_get texts i ≡ Some text
      → slice_get parts i ≡ Some p → HasHead k text p count t.info_hash_v2
  pub once : (i j p : ℕ) → slice_get parts i ≡ Some p → slice_get parts j ≡ Some p → i ≡ j

-- the texts before this one begin so, and this holds of their parts, of how many parts there are,
-- and of the text at the place
pub record StopsAtReport (k : Kind) (t : Description) (texts : List (List ℕ)) (place : ℕ)
    (Why : List ℕ → ℕ → List ℕ → Type 0) : Type 0 where
  pub parts : List ℕ
  pub count : ℕ
  pub before : AreNamed k t texts parts count
  pub all : length parts ≡ place
  pub text : List ℕ
  pub there : slice_get texts place ≡ Some text
  pub why : Why parts count text

-- it begins with the first line of a report of this torrent, of another number of parts than the
-- texts before it
abbrev pub IsReportOfOtherCount : Kind → Description → List ℕ → ℕ → List ℕ → Type 0
IsReportOfOtherCount k t parts count text = (0 < length parts)
    × (part n : ℕ) × HasHead k text part n t.info_hash_v2 × (n ≢ count)

-- it begins with the first line of the part with this number, from 1, of as many parts as the texts
-- before it, and one of these is of this part too
abbrev pub IsReportThereTwice : ℕ → Kind → Description → List ℕ → ℕ → List ℕ → Type 0
IsReportThereTwice number k t parts count text = (part n : ℕ) × HasHead k text part n t.info_hash_v2
    × (0 < length parts → n ≡ count) × (part + 1 ≡ number)
    × (i : ℕ) × (slice_get parts i ≡ Some part)

-- ---- by the reports, in the order of the parts

-- one of the texts is the whole report of this one of this many parts
abbrev pub IsThere : Kind → Description → List (List ℕ) → ℕ → ℕ → Type 0
IsThere k t texts part count =
    (i : ℕ) × (text : List ℕ) × (slice_get texts i ≡ Some text) × IsReportOfKind k t part count text

-- all texts begin with first lines of different parts of one check of this torrent, and of each
-- part before this one, which counts from 0, the whole report is there
pub record StopsBehind (k : Kind) (t : Description) (texts : List (List ℕ)) (part count : ℕ)
    : Type 0 where
  pub parts : List ℕ
  pub named : AreNamed k t texts parts count
  pub all : length parts ≡ length texts
  pub there : part < count
  pub before : (earlier : ℕ) → earlier < part → IsThere k t texts earlier count

-- it stops so at the part of the text at this place, which is not the whole report of it
pub record IsFirstNoReport (k : Kind) (t : Description) (texts : List (List ℕ)) (place : ℕ) : Type 0
  where
    pub part : ℕ
    pub count : ℕ
    pub stops : StopsBehind k t texts part count
    pub text : List ℕ
    pub at : slice_get texts place ≡ Some text
    pub head : HasHead k text part count t.info_hash_v2
    pub none : IsReportOfKind k t part count text → ⊥

-- it stops so at the part with this number, from 1, of which none of the texts is; of no text there
-- is one part
pub record IsReportMissing (k : Kind) (t : Description) (texts : List (List ℕ)) (number count : ℕ)
    : Type 0 where
  pub part : ℕ
  pub number_is : number ≡ part + 1
  pub stops : StopsBehind k t texts part count
  pub others : (i : ℕ) → slice_get stops.parts i ≢ Some part
  pub no_text : texts ≡ [] → count ≡ 1

-- ---- all reasons

-- why a fault of a join of reports of this kind is answered: it is the first
abbrev pub HasReasonOf : Kind → Description → List (List ℕ) → JoinFault → Type 0
HasReasonOf k t texts (fault.NoReport i) = IsNoReportAt k t texts i
    × (StopsAtReport k t texts i (λ parts count text. HasNoHead k text)
    ⊎ IsFirstNoReport k t texts i)
HasReasonOf k t texts (fault.OtherTorrent i) =
    StopsAtReport k t texts i (λ parts count text. IsOfOther k t.info_hash_v2 text)
HasReasonOf k t texts (fault.OtherCount i) = StopsAtReport k t texts i (IsReportOfOtherCount k t)
HasReasonOf k t texts (fault.Twice number) =
    (place : ℕ) × StopsAtReport k t texts place (IsReportThereTwice number k t)
HasReasonOf k t texts (fault.Missing number count) = IsReportMissing k t texts number count
HasReasonOf k t texts fault.NoMemory = ⊤

-- the same of reports without runs of bad pieces
abbrev pub HasJoinReason : Description → List (List ℕ) → JoinFault → Type 0
HasJoinReason t texts e = HasReasonOf kind.Plain t texts e

-- why the first line of the text at this place is refused
abbrev pub HasHeadReason : Kind → List ℕ → ℕ → List ℕ → JoinFault → Type 0
HasHeadReason k own place text (fault.NoReport i) = (i ≡ place) × HasNoHead k text
HasHeadReason k own place text (fault.OtherTorrent i) = (i ≡ place) × IsOfOther k own text
HasHeadReason k own place text other = ⊥

-- These are the reports of all parts of one check of this torrent, of this kind, each once, in any
-- order: the text at each place is of one part, and the report of each part has a place.
pub record AreAllReportsOf (k : Kind) (t : Description) (texts : List (List ℕ)) : Type 0 where
  pub some : 0 < length texts
  pub part_of : ℕ → ℕ
  pub place_of : ℕ → ℕ
  pub are : (i : ℕ) (text : List ℕ) → slice_get texts i ≡ Some text
      → IsReportOfKind k t (part_of i) (length texts) text
  pub once : (i j : ℕ) → i < length texts → j < length texts → part_of i ≡ part_of j → i ≡ j
  pub all : (part : ℕ) → part < length texts
      → (place_of part < length texts) × (part_of (place_of part) ≡ part)

-- the same of reports without runs of bad pieces
abbrev pub AreAllReports : Description → List (List ℕ) → Type 0
AreAllReports t texts = AreAllReportsOf kind.Plain t texts
