-- Room for the marks of pieces.
use Rattle.std.proofs.Common.{◌≡◌, ℕ, ◌+◌, ◌≤◌, length, slice_get, Some, arith}
use Rattle.opening.specs.Description.{Description, FileEntry}
use Rattle.opening.specs.Sound.{IsSound}
use Rattle.parts.specs.Parts.{piece_count, place_count}
use Rattle.parts.proofs.SharedPlaces.{sum_next}
use Rattle.part_reports.specs.Marks.{HasMarkRoom}
use Rattle.part_reports.specs.declared.marked_report.BadPieces.{BadPieces}
use Rattle.part_reports.specs.declared.kind.Kind.{Kind}
use Rattle.part_reports.specs.declared.kind.Kind.TheVariants as kind

less_room : (k : Kind) (few many : ℕ) (bad : BadPieces) → few ≤ many → HasMarkRoom k many bad → HasMarkRoom k few bad
less_room kind.Plain few many bad le room = tt
less_room kind.Marked few many bad le room = omega (arith, le, room)

-- there is room for the pieces of each file
pub room_for_file : (k : Kind) (t : Description) (n : ℕ) (f : FileEntry) (pieces : ℕ) (bad : BadPieces) → IsSound t → slice_get t.files n ≡ Some f
    → pieces + 1 ≡ place_count t → HasMarkRoom k pieces bad → HasMarkRoom k (f.first_piece + piece_count t f) bad
room_for_file k t n f pieces bad sound there count room =
    let end = sum_next (λ (g : FileEntry). piece_count t g) t n f there in
    less_room k (f.first_piece + piece_count t f) pieces bad (omega (arith, end.1, sound.laid_out.first_pieces n f there, count)) room

-- as many marks give as much room
pub room_stays : (k : Kind) (pieces : ℕ) (old new : BadPieces) → length new.bits.items ≡ length old.bits.items → HasMarkRoom k pieces old
    → HasMarkRoom k pieces new
room_stays kind.Plain pieces old new same room = tt
room_stays kind.Marked pieces old new same room = omega (arith, same, room)
