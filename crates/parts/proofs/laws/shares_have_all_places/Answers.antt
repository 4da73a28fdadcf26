use Rattle.parts.proofs.SharedPlaces.{shares_have_all}
use Rattle.parts.proofs.laws.shares_have_all_places.Goals as goal

pub returns : goal.returns
returns c = shares_have_all
