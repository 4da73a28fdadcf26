-- Lines of a check are known by their texts.
use Rattle.std.proofs.Common.{ap, refl}
use Rattle.lines.specs.Table.{checked_row}
use Rattle.lines.specs.Texts.{items_text}
use Rattle.lines.specs.declared.checked.Checked.{Checked}
use Rattle.lines.specs.declared.checked.Checked.TheVariants as checked
use Rattle.line_laws.specs.Said.{AreSaid, printed}
use Rattle.line_laws.proofs.Fields.{text_last}
use Rattle.line_laws.proofs.Shapes.{bad_shape, starts_digit}
use Rattle.line_laws.proofs.Known.{KnownIfSaid}

-- ---- lines of a check

pub checked_known : (c : Checked) → KnownIfSaid (printed (checked_row c))
unfolding items_text text_last AreSaid
checked_known (checked.Extra p) h = record { shape = refl; last = refl }
checked_known (checked.Good p) h = record { shape = refl; last = refl }
checked_known (checked.Missing p) h = record { shape = refl; last = refl }
checked_known (checked.Unreadable p) h = record { shape = refl; last = refl }
checked_known (checked.WrongLength p) h = record { shape = refl; last = refl }
checked_known (checked.Bad piece p) h = record { shape = ap bad_shape (starts_digit piece _ h.1.0); last = refl }
checked_known (checked.BadPieces first last from to p) h = record { shape = refl; last = refl }
checked_known checked.V1Good h = record { shape = refl; last = refl }
checked_known (checked.V1Bad piece) h = record { shape = refl; last = refl }
checked_known checked.V1NotChecked h = record { shape = refl; last = refl }
checked_known checked.Yes h = record { shape = refl; last = refl }
checked_known checked.No h = record { shape = refl; last = refl }
