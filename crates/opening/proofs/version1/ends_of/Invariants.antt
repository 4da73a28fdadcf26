use Rattle.std.proofs.Common.{◌≡◌, ◌≤◌, ◌*◌, ◌^◌, drop}
use Rattle.benc.specs.View.{items_view}
use Rattle.opening.specs.Matching.{ends_of, nowhere}
use Rattle.opening.proofs.version1.ends_of.Given as goal

abbrev pub invariant-entries : goal.invariant-entries
invariant-entries l = record {
  stream : l.ends.stream ≤ l.entry-index * 2 ^ 47;
  pieces : l.ends.pieces ≤ l.entry-index * 2 ^ 47;
  same : ends_of l.piece_length (items_view l.entries) nowhere ≡ ends_of l.piece_length (items_view (drop l.entry-index l.entries)) l.ends;
}
