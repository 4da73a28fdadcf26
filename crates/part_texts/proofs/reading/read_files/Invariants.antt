use Rattle.std.proofs.Common.{◌≡◌, ℕ, ◌++◌, List, drop, length, map, take}
use Rattle.std.specs.List.{flat_map}
use Rattle.part_texts.specs.Listings.{Listed, listed}
use Rattle.part_texts.specs.Readings.{AreFilesOfListing, IsFile, IsRun}
use Rattle.part_texts.specs.Texts.{file_text}
use Rattle.part_texts.proofs.reading.read_files.Given as goal

abbrev pub invariant-files : goal.invariant-files
invariant-files l = record {
  found : (files : List Listed) (more : List ℕ) → AreFilesOfListing files → length files ≡ l.count → l.fn.text ≡ flat_map file_text files ++ more
      → (l.rest ≡ flat_map file_text (drop l._number files) ++ more) × (map listed l.files.items ≡ take l._number files);
  exact : IsRun file_text IsFile l.fn.text l._number (map listed l.files.items) l.rest;
}
