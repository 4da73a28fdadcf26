use Rattle.round_trips.proofs.Listings.{sorted_listings_are_one}
use Rattle.round_trips.proofs.laws.sorted_listings_are_one.Goals as goal

pub returns : goal.returns
returns c = sorted_listings_are_one
