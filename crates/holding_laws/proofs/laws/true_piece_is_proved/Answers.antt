use Rattle.holding_laws.proofs.TrueOnes.{true-proved}
use Rattle.holding_laws.proofs.laws.true_piece_is_proved.Goals as goal

pub returns : goal.returns
returns c = true-proved
