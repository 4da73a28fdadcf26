use Rattle.std.proofs.Common.{◌≡◌, ◌<◌, ℕ, List, Some, length, map, slice_get}
use Rattle.part_texts.specs.Listings.{listed}
use Rattle.assembling.specs.Behind.{behind}
use Rattle.assembling.specs.Sizes.{rows_size}
use Rattle.assembling.proofs.sizes.test_sizes.Given as goal

abbrev pub invariant-parts : goal.invariant-parts
invariant-parts l = record {
  end : l.part-end ≡ length l.parts.rows.items;
  sizes : (part : ℕ) (rest : List ℕ) → part < l.part → slice_get (behind l.parts) part ≡ Some rest
      → length rest ≡ rows_size l.division.piece_length l.listing.hybrid l.division.total l.division.parts part 0 (map listed l.listing.files.items);
}
