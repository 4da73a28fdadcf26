use Rattle.std.proofs.Common.{◌≡◌, ℕ, ◌++◌, List, drop, length, map, take}
use Rattle.std.specs.List.{flat_map}
use Rattle.std.specs.String.{string_bytes}
use Rattle.part_texts.specs.Readings.{ArePath, IsRun, IsText}
use Rattle.part_texts.specs.Texts.{sized}
use Rattle.part_texts.proofs.reading.read_path.Given as goal

abbrev pub invariant-parts : goal.invariant-parts
invariant-parts l = record {
  found : (path : List (List ℕ)) (more : List ℕ) → ArePath path → length path ≡ l.count → l.fn.text ≡ flat_map sized path ++ more
      → (l.rest ≡ flat_map sized (drop l._number path) ++ more) × (map string_bytes l.path.items ≡ take l._number path);
  exact : IsRun sized IsText l.fn.text l._number (map string_bytes l.path.items) l.rest;
}
