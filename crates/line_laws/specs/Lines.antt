-- What the types of a line's fields say, and what holds of all lines of which they say it.
use Rattle.std.specs.Prelude.{◌≡◌, ◌<◌, ◌^◌, ℕ, List, [], ◌∷◌, ◌++◌, length, map, ⊤, Option, Some, None, option_map, string_bytes}
use Rattle.hex.specs.Hex.{IsBytes}
use Rattle.filetree.specs.declared.refusal.Refusal.{Refusal}
use Rattle.filetree.specs.declared.refusal.Refusal.TheVariants as refusals
use Rattle.serde_json.specs.Read.{read}
use Rattle.serde_json.specs.Written.{compact_text}
use Rattle.lines.specs.Objects.{object_of}
use Rattle.lines.specs.Rows.{spell}
use Rattle.lines.specs.Table.{row_of}
use Rattle.lines.specs.Texts.{text_of}
use Rattle.lines.specs.declared.checked.Checked.{Checked}
use Rattle.lines.specs.declared.checked.Checked.TheVariants as checked
use Rattle.lines.specs.declared.line.Line.{Line}
use Rattle.lines.specs.declared.line.Line.TheVariants as line
use Rattle.lines.specs.declared.parted.Parted.{Parted}
use Rattle.lines.specs.declared.parted.Parted.TheVariants as parted
use Rattle.lines.specs.declared.shown.Shown.{Shown}
use Rattle.lines.specs.declared.shown.Shown.TheVariants as shown
use Rattle.line_laws.specs.Plain.{IsPlainRow}
use Rattle.line_laws.specs.Said.{AreCapitals, IsSaidRow, IsWord, printed}
use Rattle.line_laws.specs.Values.{json_value_of}

-- numbers that fit 64 bits
abbrev pub Fit : List ℕ → Type 0
Fit [] = ⊤
Fit (n ∷ ns) = n < 2 ^ 64 × Fit ns

-- texts, of bytes
abbrev pub AreTexts : List (List ℕ) → Type 0
AreTexts [] = ⊤
AreTexts (t ∷ ts) = IsBytes t × AreTexts ts

-- a root, of 32 bytes, or none
abbrev pub IsRoot : Option (List ℕ) → Type 0
IsRoot None = ⊤
IsRoot (Some root) = IsBytes root × (length root ≡ 32)

abbrev pub IsShown : Shown → Type 0
IsShown (shown.Name called) = IsBytes called.now
IsShown (shown.PieceLength bytes) = Fit (bytes ∷ [])
IsShown (shown.InfoHashV2 hash) = IsBytes hash.now
IsShown (shown.InfoHashV1 hash) = IsBytes hash.now
IsShown (shown.Files count) = Fit (count ∷ [])
IsShown (shown.File len root p) =
    Fit (len ∷ []) × IsRoot (option_map (λ r. r.now) root) × AreTexts (map (λ s. s.now) p.now)
IsShown (shown.Total bytes size) = Fit (bytes ∷ []) × IsBytes size.now
IsShown (shown.Pieces count size) = Fit (count ∷ []) × IsBytes size.now
IsShown (shown.Layers count) = Fit (count ∷ [])

abbrev pub IsChecked : Checked → Type 0
IsChecked (checked.Extra p) = AreTexts (map string_bytes p.now)
IsChecked (checked.Good p) = AreTexts (map (λ s. s.now) p.now)
IsChecked (checked.Missing p) = AreTexts (map (λ s. s.now) p.now)
IsChecked (checked.Unreadable p) = AreTexts (map (λ s. s.now) p.now)
IsChecked (checked.WrongLength p) = AreTexts (map (λ s. s.now) p.now)
IsChecked (checked.Bad piece p) = Fit (piece ∷ []) × AreTexts (map (λ s. s.now) p.now)
IsChecked (checked.BadPieces first last from to p) =
    Fit (first ∷ last ∷ from ∷ to ∷ []) × AreTexts (map (λ s. s.now) p.now)
IsChecked checked.V1Good = ⊤
IsChecked (checked.V1Bad piece) = Fit (piece ∷ [])
IsChecked checked.V1NotChecked = ⊤
IsChecked checked.Yes = ⊤
IsChecked checked.No = ⊤

abbrev pub IsParted : Parted → Type 0
IsParted (parted.Part part parts hash) = Fit (part ∷ parts ∷ []) × IsBytes hash.now
IsParted (parted.BadPart part parts hash) = Fit (part ∷ parts ∷ []) × IsBytes hash.now
IsParted parted.Yes = ⊤
IsParted parted.No = ⊤

-- where bencoding fails is an offset
abbrev pub FaultFits : Refusal → Type 0
FaultFits (refusals.NotBencode fault) = Fit (fault.offset ∷ [])
FaultFits refusal = ⊤

-- numbers fit 64 bits, digests and texts are bytes, and a root has 32 of them, as the types say;
-- the letter of a refused message is a capital one, and names are words
abbrev pub IsSaid : Line → Type 0
IsSaid (line.Stored n count) = Fit (n ∷ count ∷ [])
IsSaid (line.Verified n file block) = Fit (n ∷ file ∷ block ∷ [])
IsSaid (line.Refused n letter why called) =
    Fit (n ∷ why ∷ []) × AreCapitals letter.now × IsWord called.now
IsSaid (line.RefusedAt n letter why called file block) =
    Fit (n ∷ why ∷ file ∷ block ∷ []) × AreCapitals letter.now × IsWord called.now
IsSaid (line.Held n file block) = Fit (n ∷ file ∷ block ∷ [])
IsSaid (line.Proved n file first last) = Fit (n ∷ file ∷ first ∷ last ∷ [])
IsSaid (line.False n file first last) = Fit (n ∷ file ∷ first ∷ last ∷ [])
IsSaid (line.Dropped n file first last) = Fit (n ∷ file ∷ first ∷ last ∷ [])
IsSaid (line.StillHeld count) = Fit (count ∷ [])
IsSaid (line.Answered n) = Fit (n ∷ [])
IsSaid (line.Rejected n) = Fit (n ∷ [])
IsSaid (line.RejectNoted n) = Fit (n ∷ [])
IsSaid (line.KeepAlive n) = Fit (n ∷ [])
IsSaid (line.Skipped n id) = Fit (n ∷ id ∷ [])
IsSaid (line.BadFrame n id len) = Fit (n ∷ id ∷ len ∷ [])
IsSaid (line.SentRequest n) = Fit (n ∷ [])
IsSaid (line.Sent n) = Fit (n ∷ [])
IsSaid (line.Seeded p) = AreTexts (map (λ s. s.now) p.now)
IsSaid (line.NotSeeded p) = AreTexts (map (λ s. s.now) p.now)
IsSaid line.End = ⊤
IsSaid (line.Fault called) = IsWord called.now
IsSaid (line.Root len root) = Fit (len ∷ []) × IsRoot (option_map (λ r. r.now) root)
IsSaid (line.Shown s) = IsShown s
IsSaid (line.Checked found) = IsChecked found
IsSaid (line.Parted said) = IsParted said
IsSaid (line.Refusal r p) = FaultFits r.now × AreTexts (map string_bytes p.now)
IsSaid line.AlreadyForm2 = ⊤

-- the rows of such lines meet what the laws of rows ask
abbrev pub LinesAreSaid : Type 0
LinesAreSaid = (l : Line) → IsSaid l → IsSaidRow (row_of l)

abbrev pub LinesArePlain : Type 0
LinesArePlain = (l : Line) → IsSaid l → IsPlainRow (row_of l)

-- the object of such a line is the text that `serde_json` writes for its value, and a line feed
abbrev pub LineObjectsAreTexts : Type 0
LineObjectsAreTexts =
    (l : Line) → IsSaid l
    → object_of (row_of l) ≡ compact_text (json_value_of (row_of l)) ++ 10 ∷ []

-- that text is read by `serde_json` as this value
abbrev pub LineObjectsReadBack : Type 0
LineObjectsReadBack =
    (l : Line) → IsSaid l → (text : List ℕ) → object_of (row_of l) ≡ text ++ 10 ∷ []
    → read text ≡ Some (json_value_of (row_of l))

-- such lines with one text are one line, as far as they are printed
abbrev pub LineTextsTell : Type 0
LineTextsTell =
    (a b : Line) → IsSaid a → IsSaid b
    → text_of (row_of a) ≡ text_of (row_of b) → printed (row_of a) ≡ printed (row_of b)

abbrev pub AllSaid : List Line → Type 0
AllSaid [] = ⊤
AllSaid (l ∷ ls) = IsSaid l × AllSaid ls

-- reports with one text have the same lines in order, as far as they are printed
abbrev pub ReportsTell : Type 0
ReportsTell =
    (xs ys : List Line) → AllSaid xs → AllSaid ys
    → spell text_of (map row_of xs) ≡ spell text_of (map row_of ys)
    → map (λ l. printed (row_of l)) xs ≡ map (λ l. printed (row_of l)) ys
