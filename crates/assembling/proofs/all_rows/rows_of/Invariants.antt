use Rattle.std.proofs.Common.{◌≡◌, ℕ, List, length, map}
use Rattle.gathering.specs.Parts.{KnownPaths}
use Rattle.part_texts.specs.Divisions.{first_piece}
use Rattle.part_texts.specs.Listings.{Listed}
use Rattle.assembling.specs.Behind.{behind, said_size}
use Rattle.assembling.specs.Taking.{HasEach, IsHeld}
use Rattle.assembling.proofs.Behind.{IsPassing}
use Rattle.assembling.proofs.Passing.{IsUnderWay}
use Rattle.assembling.proofs.all_rows.rows_of.Given as goal

abbrev pub invariant-parts : goal.invariant-parts
invariant-parts l = record {
  end : l.part-end ≡ length l.fn.parts.rows.items;
  rows : length l.parts.rows.items ≡ length l.fn.parts.rows.items;
  each : HasEach l.hybrid (first_piece l.division.piece_length l.division.total l.division.parts l.before l.bytes l.part) l.rows;
  passing : IsPassing (said_size l.division.piece_length l.hybrid l.division.total l.division.parts l.before l.bytes) l.part (behind l.fn.parts)
      (behind l.parts);
  way : (under : KnownPaths) (f : Listed) (fs : List Listed) (content : List ℕ) → f.bytes ≡ l.bytes
      → IsHeld under l.division.piece_length l.hybrid l.division.total l.before f fs content (map (λ x. x.now) l.fn.parts.rows.items)
      → IsUnderWay under l.division.piece_length l.hybrid l.division.total l.division.parts l.before f fs content l.part l.rows
      (map (λ x. x.now) l.parts.rows.items);
}
