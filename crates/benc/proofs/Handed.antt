-- What a `?` hands on.
use Rattle.std.proofs.Common.{◌≡◌, Result, Ok, Err, IsErrAnd, ap}

pub handed_on : {A E : Type 0} (r : Result A E) (why : E) → IsErrAnd r (λ e. e ≡ why) → r ≡ Err why
handed_on (Ok x) why h = absurd h
handed_on (Err e) why h = ap Err h
