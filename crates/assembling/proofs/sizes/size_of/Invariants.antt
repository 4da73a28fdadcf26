use Rattle.std.proofs.Common.{◌≡◌, ◌+◌, ◌-◌, ◌<◌, ◌^◌, drop, map, min}
use Rattle.part_texts.specs.Listings.{listed}
use Rattle.assembling.specs.Sizes.{rows_size}
use Rattle.assembling.proofs.sizes.size_of.Given as goal

abbrev pub invariant-files : goal.invariant-files
invariant-files l = record {
  fits : l.size < 2 ^ 64;
  counted : min (l.size + rows_size l.division.piece_length l.listing.hybrid l.division.total l.division.parts l.part l.before
      (map listed (drop l.file-index l.listing.files.items))) (2 ^ 64 - 1)
      ≡ min (rows_size l.division.piece_length l.listing.hybrid l.division.total l.division.parts l.part 0 (map listed l.listing.files.items)) (2 ^ 64 - 1);
}
