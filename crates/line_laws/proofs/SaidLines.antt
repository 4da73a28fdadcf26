-- The rows of lines are said, and plain, as the types of their fields say.
use Rattle.std.proofs.Common.{◌≡◌, ◌∷◌, ◌++◌, ◌∙◌, ◌<◌, ◌^◌, [], List, ℕ, false, codes, map, Option, Some, None, option_map, bytes_eq, sym, refl, arith}
use Rattle.std.proofs.Common.{true≢false}
use Rattle.std.specs.Prelude.{string_bytes}
use Rattle.benc.specs.Messages.{kind_name}
use Rattle.benc.specs.declared.fault.FaultKind.{FaultKind}
use Rattle.benc.specs.declared.fault.FaultKind.TheVariants as faults
use Rattle.filetree.specs.Names.{key_spelling, refusal_name, refusal_number}
use Rattle.filetree.specs.declared.refusal.Key.{Key}
use Rattle.filetree.specs.declared.refusal.Key.TheVariants as keys
use Rattle.filetree.specs.declared.refusal.Refusal.{Refusal}
use Rattle.filetree.specs.declared.refusal.Refusal.TheVariants as refusals
use Rattle.hex.specs.Hex.{encode_lower}
use Rattle.lines.specs.Rows.{name}
use Rattle.lines.specs.Table.{checked_row, detail_items, parted_row, path_items, refusal_row, root_item, shown_row}
use Rattle.lines.specs.declared.checked.Checked.{Checked}
use Rattle.lines.specs.declared.checked.Checked.TheVariants as checked
use Rattle.lines.specs.declared.line.Line.TheVariants as line
use Rattle.lines.specs.declared.parted.Parted.{Parted}
use Rattle.lines.specs.declared.parted.Parted.TheVariants as parted
use Rattle.lines.specs.declared.shown.Shown.{Shown}
use Rattle.lines.specs.declared.shown.Shown.TheVariants as shown
use Rattle.line_laws.specs.Lines.{AreTexts, FaultFits, IsChecked, IsParted, IsRoot, IsShown, LinesAreSaid}
use Rattle.line_laws.specs.Plain.{ArePlain}
use Rattle.line_laws.specs.Said.{AreSaid, IsSaidItem, IsSaidRow, IsWord}
use Rattle.line_laws.proofs.Names.{hex_is_word, path_is_bytes, root_digits, word_is_plain}

-- a name that is a word, and no root
pub a_name : (key t : List ℕ) → bytes_eq key (codes "root") ≡ false → IsWord t → IsSaidItem (name key t)
a_name key t other h = (word_is_plain t h, λ _. h, λ is. absurd (true≢false (sym is ∙ other)))

root_said : (root : Option (List ℕ)) → IsRoot root → IsSaidItem (root_item root)
root_said None h = tt
root_said (Some root) h =
    let w = hex_is_word root h.0 in (word_is_plain (encode_lower root) w, λ _. w, λ _. root_digits root h.1)

shown_said : (s : Shown) → IsShown s → IsSaidRow (shown_row s)
unfolding AreSaid
shown_said (shown.Name called) h = (tt, (h, tt))
shown_said (shown.PieceLength bytes) h = (tt, (h.0, tt))
shown_said (shown.InfoHashV2 hash) h = (tt, (a_name (codes "hash") _ refl (hex_is_word hash.now h), tt))
shown_said (shown.InfoHashV1 hash) h = (tt, (a_name (codes "hash") _ refl (hex_is_word hash.now h), tt))
shown_said (shown.Files count) h = (tt, (h.0, tt))
shown_said (shown.File len root p) h =
    (h.0.0, (root_said (option_map (λ r. r.now) root) h.1, (path_is_bytes (map (λ s. s.now) p.now) h.2, tt)))
shown_said (shown.Total bytes size) h = (tt, (h.0.0, (h.1, tt)))
shown_said (shown.Pieces count size) h = (tt, (h.0.0, (tt, (h.1, tt))))
shown_said (shown.Layers count) h = (tt, (h.0, tt))

checked_said : (c : Checked) → IsChecked c → IsSaidRow (checked_row c)
unfolding AreSaid
checked_said (checked.Extra p) h = (tt, (path_is_bytes (map string_bytes p.now) h, tt))
checked_said (checked.Good p) h = (tt, (path_is_bytes (map (λ s. s.now) p.now) h, tt))
checked_said (checked.Missing p) h = (tt, (path_is_bytes (map (λ s. s.now) p.now) h, tt))
checked_said (checked.Unreadable p) h = (tt, (path_is_bytes (map (λ s. s.now) p.now) h, tt))
checked_said (checked.WrongLength p) h = (tt, (path_is_bytes (map (λ s. s.now) p.now) h, tt))
checked_said (checked.Bad piece p) h = (tt, (h.0.0, (path_is_bytes (map (λ s. s.now) p.now) h.1, tt)))
checked_said (checked.BadPieces first last from to p) h =
    let n = h.0 in (path_is_bytes (map (λ s. s.now) p.now) h.1, (tt, (n.0, (n.1.0, (tt, (n.1.1.0, (n.1.1.1.0, tt)))))))
checked_said checked.V1Good h = (tt, tt)
checked_said (checked.V1Bad piece) h = (tt, (h.0, tt))
checked_said checked.V1NotChecked h = (tt, tt)
checked_said checked.Yes h = (tt, tt)
checked_said checked.No h = (tt, tt)

parted_said : (p : Parted) → IsParted p → IsSaidRow (parted_row p)
unfolding AreSaid
parted_said (parted.Part part parts hash) h =
    (tt, (h.0.0, (h.0.1.0, (a_name (codes "hash") _ refl (hex_is_word hash.now h.1), tt))))
parted_said (parted.BadPart part parts hash) h =
    (tt, (h.0.0, (h.0.1.0, (a_name (codes "hash") _ refl (hex_is_word hash.now h.1), (tt, tt)))))
parted_said parted.Yes h = (tt, tt)
parted_said parted.No h = (tt, tt)

-- ---- refusals

fault_word : (k : FaultKind) → IsWord (kind_name k)
fault_word faults.Truncated = refl
fault_word k = refl

name_word : (r : Refusal) → IsWord (refusal_name r)
name_word refusals.TooLarge = refl
name_word r = refl

number_fits : (r : Refusal) → refusal_number r < 2 ^ 64
number_fits refusals.TooLarge = omega arith
number_fits r = omega arith

key_plain : (k : Key) → ArePlain (key_spelling k)
key_plain keys.Top = refl
key_plain k = refl

key_said : (k : Key) → IsSaidItem (name (codes "key") (key_spelling k))
key_said k = (key_plain k, λ e. absurd (true≢false e), λ e. absurd (true≢false (sym e)))

path_said : (parts : List (List ℕ)) → AreTexts parts → AreSaid (path_items parts)
unfolding AreSaid
path_said [] h = tt
path_said (part ∷ parts) h = (path_is_bytes (part ∷ parts) h, tt)

details_said : (r : Refusal) (parts : List (List ℕ)) → FaultFits r → AreTexts parts → AreSaid (detail_items r ++ path_items parts)
unfolding AreSaid
details_said (refusals.NotBencode fault) parts h texts =
    (a_name (codes "fault") (kind_name fault.kind) refl (fault_word fault.kind), (h.0, path_said parts texts))
details_said (refusals.Missing key) parts h texts = (key_said key, path_said parts texts)
details_said (refusals.WrongType key) parts h texts = (key_said key, path_said parts texts)
details_said r parts h texts = path_said parts texts

refusal_said : (r : Refusal) (parts : List (List ℕ)) → FaultFits r → AreTexts parts → IsSaidRow (refusal_row r parts)
unfolding AreSaid
refusal_said r parts h texts =
    (tt, (number_fits r, (a_name (codes "name") (refusal_name r) refl (name_word r), details_said r parts h texts)))

pub said : LinesAreSaid
unfolding AreSaid
said (line.Stored n count) h = (h.0, (tt, (h.1.0, tt)))
said (line.Verified n file block) h = (h.0, (tt, (h.1.0, (h.1.1.0, tt))))
said (line.Refused n letter why called) h =
    (h.0.0, (tt, ((h.1, h.0.1.0), (a_name (codes "name") called.now refl h.2, tt))))
said (line.RefusedAt n letter why called file block) h =
    (h.0.0, (tt, ((h.1, h.0.1.0), (a_name (codes "name") called.now refl h.2, (h.0.1.1.0, (h.0.1.1.1.0, tt))))))
said (line.Held n file block) h = (h.0, (tt, (h.1.0, (h.1.1.0, tt))))
said (line.Proved n file first last) h = (h.0, (tt, (h.1.0, (h.1.1.0, (h.1.1.1.0, tt)))))
said (line.False n file first last) h = (h.0, (tt, (h.1.0, (h.1.1.0, (h.1.1.1.0, tt)))))
said (line.Dropped n file first last) h = (h.0, (tt, (h.1.0, (h.1.1.0, (h.1.1.1.0, tt)))))
said (line.StillHeld count) h = (tt, (h.0, tt))
said (line.Answered n) h = (h.0, (tt, tt))
said (line.Rejected n) h = (h.0, (tt, tt))
said (line.RejectNoted n) h = (h.0, (tt, tt))
said (line.KeepAlive n) h = (h.0, (tt, tt))
said (line.Skipped n id) h = (h.0, (tt, (h.1.0, tt)))
said (line.BadFrame n id len) h = (h.0, (tt, (h.1.0, (h.1.1.0, tt))))
said (line.SentRequest n) h = (h.0, (tt, tt))
said (line.Sent n) h = (h.0, (tt, tt))
said (line.Seeded p) h = (tt, (path_is_bytes (map (λ s. s.now) p.now) h, tt))
said (line.NotSeeded p) h = (tt, (path_is_bytes (map (λ s. s.now) p.now) h, tt))
said line.End h = (tt, tt)
said (line.Fault called) h = (tt, (a_name (codes "name") called.now refl h, tt))
said (line.Root len root) h = (h.0.0, (root_said (option_map (λ r. r.now) root) h.1, tt))
said (line.Shown s) h = shown_said s h
said (line.Checked found) h = checked_said found h
said (line.Parted p) h = parted_said p h
said line.AlreadyForm2 h = (tt, (omega arith, (a_name (codes "name") (codes "AlreadyForm2") refl refl, tt)))
said (line.Refusal r p) h = refusal_said r.now (map string_bytes p.now) h.0 h.1
