use Rattle.std.proofs.Common.{◌≡◌, ◌-◌, drop, length, map}
use Rattle.globs.specs.Globs.{kind_of}
use Rattle.globs.specs.Matching.{found, marks_of_parts}
use Rattle.globs.proofs.matching.leaves_out.Given as goal

-- the row at the last characters that were read
abbrev pub invariant-letters : goal.invariant-letters
invariant-letters l = record {
  len : length l.row ≡ length l.parts;
  row : l.row ≡ marks_of_parts l.folders_alone (map kind_of l.parts) (drop (length l.path - l.done) l.path);
  found : l.is_found ≡ found l.folders_alone (map kind_of l.parts) (drop (length l.path - l.done) l.path);
}
