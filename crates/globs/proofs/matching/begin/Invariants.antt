use Rattle.std.proofs.Common.{◌≡◌, ℕ, ◌-◌, ◌<◌, ◌≤◌, false, [], drop, get_or, length, map}
use Rattle.globs.specs.Globs.{kind_of}
use Rattle.globs.specs.Matching.{found, marks_of_parts}
use Rattle.globs.proofs.matching.begin.Given as goal

-- the row from the last part back to this one
abbrev pub invariant-parts : goal.invariant-parts
invariant-parts l = record {
  done : (i : ℕ) → length l.parts - l.done ≤ i → i < length l.parts
      → get_or l.row i false ≡ get_or (marks_of_parts l.folders_alone (map kind_of l.parts) []) i false;
  here : l.here ≡ found l.folders_alone (drop (length l.parts - l.done) (map kind_of l.parts)) [];
}
