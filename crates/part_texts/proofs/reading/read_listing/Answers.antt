use Rattle.std.proofs.Common.{◌≡◌, [], ◌∙◌, sym, append-nil}
use Rattle.part_texts.specs.Listings.{inventory}
use Rattle.part_texts.specs.Texts.{listing_text}
use Rattle.part_texts.proofs.reading.read_listing.Goals as goal

pub returns-then-is_empty-clause-found : goal.returns-then-is_empty-clause-found
returns-then-is_empty-clause-found c = λ l can is.
    let read : (inventory c.in_ok-listing.listing ≡ l) × (c.in_ok-listing.rest.now ≡ []) =
    c.in_ok-listing.ensures.found l [] can (is ∙ sym (append-nil (listing_text l))) in
    read.0
