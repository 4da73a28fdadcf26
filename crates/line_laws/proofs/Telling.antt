-- Lines with one text are one line.
use Rattle.std.proofs.Common.{◌≡◌, ◌∷◌, ◌∙◌, List, ℕ, codes, map, option_map, ap, arith, sym, refl}
use Rattle.std.specs.Prelude.{string_bytes}
use Rattle.hex.specs.Hex.{encode_with}
use Rattle.lines.specs.Rows.{Item, Row, row, unprinted}
use Rattle.lines.specs.Table.{row_of, shown_row}
use Rattle.lines.specs.Texts.{items_text, text_of}
use Rattle.lines.specs.declared.line.Line.{Line}
use Rattle.lines.specs.declared.line.Line.TheVariants as line
use Rattle.lines.specs.declared.shown.Shown.{Shown}
use Rattle.lines.specs.declared.shown.Shown.TheVariants as shown
use Rattle.line_laws.specs.Said.{AreSaid, IsSaidRow, TextsTell, printed, printed_items}
use Rattle.line_laws.proofs.Cuts.{front, onward}
use Rattle.line_laws.proofs.Fields.{behind_number, filled, reads, text_last}
use Rattle.line_laws.proofs.Shapes.{named, numbered_shape, shape_of}
use Rattle.line_laws.proofs.Known.{IsKnown, KnownIfSaid}
use Rattle.line_laws.proofs.KnownChecks.{checked_known}
use Rattle.line_laws.proofs.KnownFrames.{refused_known, refused_at_known, root_known, file_known}
use Rattle.line_laws.proofs.KnownParts.{parted_known}
use Rattle.line_laws.proofs.KnownRefusals.{refusal_known}

shown_known : (s : Shown) → KnownIfSaid (printed (shown_row s))
unfolding items_text text_last AreSaid encode_with
shown_known (shown.Name called) h = record { shape = refl; last = refl }
shown_known (shown.PieceLength bytes) h = record { shape = refl; last = refl }
shown_known (shown.InfoHashV2 hash) h = record { shape = refl; last = refl }
shown_known (shown.InfoHashV1 hash) h = record { shape = refl; last = refl }
shown_known (shown.Files count) h = record { shape = refl; last = refl }
shown_known (shown.File len root p) h = file_known len (option_map (λ r. r.now) root) (map (λ s. s.now) p.now) h
shown_known (shown.Total bytes size) h = record { shape = refl; last = refl }
shown_known (shown.Pieces count size) h = record { shape = refl; last = refl }
shown_known (shown.Layers count) h = record { shape = refl; last = refl }

-- what is printed of each line of the table is known by its text
known : (l : Line) → KnownIfSaid (printed (row_of l))
unfolding items_text text_last AreSaid front onward
known (line.Stored n count) h = record { shape = numbered_shape n _ h.0; last = refl }
known (line.Verified n file block) h = record { shape = numbered_shape n _ h.0; last = refl }
known (line.Refused n letter why called) h = refused_known n letter.now why called.now h
known (line.RefusedAt n letter why called file block) h = refused_at_known n letter.now why called.now file block h
known (line.Held n file block) h = record { shape = numbered_shape n _ h.0; last = refl }
known (line.Proved n file first last) h = record { shape = numbered_shape n _ h.0; last = refl }
known (line.False n file first last) h = record { shape = numbered_shape n _ h.0; last = refl }
known (line.Dropped n file first last) h = record { shape = numbered_shape n _ h.0; last = refl }
known (line.StillHeld count) h = record { shape = refl; last = refl }
known (line.Answered n) h = record { shape = numbered_shape n _ h.0; last = refl }
known (line.Rejected n) h = record { shape = numbered_shape n _ h.0; last = refl }
known (line.RejectNoted n) h = record { shape = numbered_shape n _ h.0; last = refl }
known (line.KeepAlive n) h = record { shape = numbered_shape n _ h.0; last = refl }
known (line.Skipped n id) h = record { shape = numbered_shape n _ h.0; last = refl }
known (line.BadFrame n id len) h = record { shape = numbered_shape n _ h.0; last = refl }
known (line.SentRequest n) h = record { shape = numbered_shape n _ h.0; last = refl }
known (line.Sent n) h = record { shape = numbered_shape n _ h.0; last = refl }
known (line.Seeded p) h = record { shape = refl; last = refl }
known (line.NotSeeded p) h = record { shape = refl; last = refl }
known line.End h = record { shape = refl; last = refl }
known (line.Fault called) h = record { shape = refl; last = refl }
known (line.Root len root) h = root_known len (option_map (λ r. r.now) root) h
known (line.Shown s) h = shown_known s h
known (line.Checked found) h = checked_known found h
known (line.Parted p) h = parted_known p h
known line.AlreadyForm2 h = record { shape = ap named (behind_number 3 32 (codes "AlreadyForm2\n") (omega arith) refl); last = refl }
known (line.Refusal r p) h = refusal_known r.now (map string_bytes p.now) h

-- what a text says
abbrev read : List ℕ → Row
read t = row (shape_of t).kind (filled (shape_of t).items t)

read_back : (r : Row) → IsSaidRow r → IsKnown r → read (text_of r) ≡ r
read_back r h k = ap (λ s. row s.kind (filled s.items (text_of r))) k.shape ∙ ap (row r.kind) (reads r.items h k.last)

-- what is printed of items has their text, and is said
same_text : (items : List Item) → items_text items ≡ items_text (printed_items items)
unfolding items_text
same_text (unprinted key t ∷ item ∷ items) = refl
same_text items = refl

printed_said : (items : List Item) → AreSaid items → AreSaid (printed_items items)
unfolding AreSaid
printed_said (unprinted key t ∷ item ∷ items) h = h.1
printed_said items h = h

line_back : (l : Line) → IsSaidRow (row_of l) → read (text_of (row_of l)) ≡ printed (row_of l)
line_back l h =
    let h = printed_said (row_of l).items h in
    ap read (same_text (row_of l).items) ∙ read_back (printed (row_of l)) h (known l h)

pub texts_tell : TextsTell
texts_tell a b ha hb e = sym (line_back a ha) ∙ ap read e ∙ line_back b hb
