use Rattle.std.proofs.Common.{◌≡◌, ◌≤◌, drop, length, map}
use Rattle.benc.specs.View.{items_view}
use Rattle.opening.specs.Matching.{are_same}
use Rattle.opening.specs.Seen.{file_entry}
use Rattle.opening.proofs.version1.are_same.Given as goal

abbrev pub invariant-entries : goal.invariant-entries
invariant-entries l = record {
  within : l.next ≤ length l.files;
  same : are_same (items_view l.entries) (map file_entry l.files) ≡ are_same (items_view (drop l.entry-index l.entries)) (drop l.next (map file_entry l.files));
}
