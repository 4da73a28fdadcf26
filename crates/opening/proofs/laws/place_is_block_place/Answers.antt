use Rattle.std.proofs.Common.{arith}
use Rattle.pieces.proofs.Legal.{legal_bounds}
use Rattle.opening.proofs.Placing.{place_is_found, place_is_only}
use Rattle.opening.proofs.laws.place_is_block_place.Goals as goal

pub returns : goal.returns
returns c = λ t index begin f b sound.
    let bounds = legal_bounds t.piece_length sound.legal in
    (λ e. place_is_found t index begin f b e, λ p. place_is_only t index begin f b (omega (arith, bounds.0)) sound.laid_out p)
