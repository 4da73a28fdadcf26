-- The line that `root` prints.
use Rattle.std.specs.Prelude.{◌≡◌, ◌↔◌, Bool, IsTrue, Result, Ok, Err, Some, None, ℕ, ◌+◌, ◌^◌, ◌≤◌, List, [], ◌∷◌, length, nat_le}
use Rattle.std.specs.Prelude.{if◌then◌else◌}
use Rattle.std.specs.Io.KnownBytes.{Keeps}
use Rattle.benc.specs.Device.{BrokeOrUnflushed, SentAndFlushed, SinkSeen, SourceSeen, one_more}
use Rattle.hashtree.specs.Tree.{root_of}
use Rattle.filetree.specs.declared.refusal.Refusal.TheVariants as refusals
use Rattle.lines.specs.Rows.{Row, Spelling}
use Rattle.lines.specs.Table.{refusal_row, root_row}
use Rattle.lines.specs.Texts.{text_of}
use Rattle.folders.specs.Verdicts.{Agrees}
use Rattle.folders.specs.declared.root.RootFault.{RootFault}
use Rattle.folders.specs.declared.root.RootFault.TheVariants as fault

-- the line of a file: its length and its pieces root, or that it is too long
unfoldable pub root_row_of : List ℕ → Row
root_row_of [] = root_row 0 None
root_row_of (b ∷ bs) =
    (if nat_le (length (b ∷ bs)) (2 ^ 46) then root_row (length (b ∷ bs)) (Some (root_of (b ∷ bs)))
    else refusal_row refusals.Length [])

-- the line of a file as lines are spelled
abbrev pub root_line_as : Spelling → List ℕ → List ℕ
root_line_as spelled file = spelled (root_row_of file)

-- that line as it is printed
abbrev pub root_line_of : List ℕ → List ℕ
root_line_of file = root_line_as text_of file

-- neither device failed, or the one that is blamed did, once; if the source did, nothing was
-- written or flushed
abbrev pub Blames : SourceSeen → SourceSeen → SinkSeen → SinkSeen → Result Bool RootFault → Type 0
Blames source source' out out' (Ok within) =
    (source'.faults ≡ source.faults) × (out'.faults ≡ out.faults)
Blames source source' out out' (Err fault.Read) =
    (source'.faults ≡ one_more source.faults) × (out'.faults ≡ out.faults)
    × Keeps out.written out'.written × (out'.flushes ≡ out.flushes)
Blames source source' out out' (Err fault.Write) =
    (source'.faults ≡ source.faults) × (out'.faults ≡ one_more out.faults)

-- a file, which is the known one if the source's bytes are known; all of it was taken if it is not
-- above 2^46 bytes
pub record IsFileOfSource (source source' : SourceSeen) (file : List ℕ) : Type 0 where
  pub agrees : Agrees source.left file
  pub taken : length file ≤ 2 ^ 46 → source'.limit + length file ≡ source.limit

-- the source's file was read, and its line went out, with one flush
pub record PrintsRoot (line : List ℕ → List ℕ) (source source' : SourceSeen) (out out' : SinkSeen)
    (within : Bool) : Type 0 where
  pub file : List ℕ
  pub is_file : IsFileOfSource source source' file
  pub is_within : IsTrue within ↔ (length file ≤ 2 ^ 46)
  pub sent : SentAndFlushed out out' (line file)

-- the source's file was read, and its line broke off, or was not flushed
pub record BreaksRootLine (line : List ℕ → List ℕ) (source source' : SourceSeen)
    (out out' : SinkSeen) : Type 0 where
  pub file : List ℕ
  pub is_file : IsFileOfSource source source' file
  pub broke : BrokeOrUnflushed out out' (line file)

-- what became of the line, by the answer; a fault of the source comes before the first byte past
-- 2^46
abbrev pub EndsRootLine : (List ℕ → List ℕ) → SourceSeen → SourceSeen → SinkSeen → SinkSeen
    → Result Bool RootFault → Type 0
EndsRootLine line source source' out out' (Ok within) =
    PrintsRoot line source source' out out' within
EndsRootLine line source source' out out' (Err fault.Read) = source.limit ≤ source'.limit + 2 ^ 46
EndsRootLine line source source' out out' (Err fault.Write) =
    BreaksRootLine line source source' out out'
