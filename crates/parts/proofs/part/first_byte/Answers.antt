use Rattle.std.proofs.Common.{◌*◌, ap}
use Rattle.parts.proofs.part.first_byte.Goals as goal

pub returns : goal.returns
returns c = ap (λ p. p * c.args.span.from) c.piece_length.ensures
