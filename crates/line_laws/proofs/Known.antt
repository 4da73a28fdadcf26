-- Each kind of line is known by its text.
use Rattle.std.proofs.Common.{◌≡◌, true, map}
use Rattle.lines.specs.Rows.{Row, row}
use Rattle.lines.specs.Texts.{text_of}
use Rattle.line_laws.specs.Said.{IsSaidRow}
use Rattle.line_laws.proofs.Fields.{erased, text_last}
use Rattle.line_laws.proofs.Shapes.{shape_of}

abbrev pub erased_row : Row → Row
erased_row r = row r.kind (map erased r.items)

-- the text tells which items there are
pub record IsKnown (r : Row) : Type 0 where
  pub shape : shape_of (text_of r) ≡ erased_row r
  pub last : text_last r.items ≡ true

abbrev pub KnownIfSaid : Row → Type 0
KnownIfSaid r = IsSaidRow r → IsKnown r
