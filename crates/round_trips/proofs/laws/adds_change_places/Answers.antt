use Rattle.round_trips.proofs.ChangingPlaces.{adds_change_places}
use Rattle.round_trips.proofs.laws.adds_change_places.Goals as goal

pub returns : goal.returns
returns c = adds_change_places
