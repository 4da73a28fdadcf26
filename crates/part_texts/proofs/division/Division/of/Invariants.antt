use Rattle.std.proofs.Common.{◌≡◌, drop, map}
use Rattle.part_texts.specs.Divisions.{total_after, total_of}
use Rattle.part_texts.specs.Listings.{listed}
use Rattle.part_texts.proofs.division.Division.of.Given as goal

abbrev pub invariant-files : goal.invariant-files
invariant-files l = total_after l.total (map listed (drop l.file-index l.files)) ≡ total_of (map listed l.files)
