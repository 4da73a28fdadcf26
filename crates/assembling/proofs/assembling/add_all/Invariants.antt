use Rattle.std.proofs.Common.{◌≡◌, ℕ, List, drop, length, map, take}
use Rattle.std.specs.String.{string_bytes}
use Rattle.drafts.specs.Outline.{empty_outline}
use Rattle.gathering.specs.Parts.{KnownPaths}
use Rattle.part_texts.specs.Divisions.{total_of}
use Rattle.part_texts.specs.Listings.{inventory, listed}
use Rattle.assembling.specs.Added.{HasAdded}
use Rattle.assembling.specs.Assembly.{AreHeld}
use Rattle.assembling.specs.Behind.{AreLong, behind}
use Rattle.assembling.specs.Said.{EachSays}
use Rattle.assembling.proofs.Assembled.{IsSoFar}
use Rattle.assembling.proofs.assembling.add_all.Given as goal

abbrev pub invariant-files : goal.invariant-files
invariant-files l = record {
  listing : l.listing ≡ l.fn.listing;
  end : l.number-end ≡ length l.fn.listing.files.items;
  rows : length l.parts.rows.items ≡ length l.fn.parts.rows.items;
  piece_length : l.draft.piece_length ≡ l.piece_length;
  hybrid : l.draft.hybrid ≡ l.fn.listing.hybrid;
  long : AreLong l.division.piece_length l.fn.listing.hybrid l.division.total l.division.parts l.before
      (drop l.number (map listed l.fn.listing.files.items)) (behind l.parts);
  so_far : HasAdded (empty_outline (string_bytes l.fn.listing.name) l.fn.listing.piece_length l.fn.listing.hybrid)
      (map listed (take l.number l.fn.listing.files.items)) l.draft;
  true_so_far : (under : KnownPaths) (contents : List (List ℕ)) → AreHeld under (map listed l.fn.listing.files.items) contents
      → EachSays under l.fn.listing.piece_length l.fn.listing.hybrid (total_of (map listed l.fn.listing.files.items)) (length l.fn.parts.rows.items) 0
      (map listed l.fn.listing.files.items) (map (λ x. x.now) l.fn.parts.rows.items)
      → IsSoFar under (inventory l.fn.listing) contents l.number l.before l.draft (map (λ x. x.now) l.parts.rows.items);
}
