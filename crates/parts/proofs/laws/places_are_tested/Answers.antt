use Rattle.parts.proofs.PlaceTests.{has_to_touch, touch_to_has}
use Rattle.parts.proofs.laws.places_are_tested.Goals as goal

pub returns : goal.returns
returns c = λ t r f. (has_to_touch t r f, touch_to_has t r f)
