use Rattle.std.proofs.Common.{◌≡◌, map}
use Rattle.part_texts.specs.Listings.{listed}
use Rattle.part_texts.proofs.Listed.{paired}
use Rattle.part_texts.proofs.listing.listed_files.Given as goal

abbrev pub invariant-files : goal.invariant-files
invariant-files l = map listed l.files.items ≡ map paired l.yielded
