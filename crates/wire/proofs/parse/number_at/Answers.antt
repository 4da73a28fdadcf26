use Rattle.std.proofs.Common.{arith, ap, ◌∙◌}
use Rattle.wire.specs.Frames.{four_bytes}
use Rattle.wire.proofs.FourBytes.{four_bytes-big_number_at}
use Rattle.wire.proofs.parse.number_at.Goals as goal

pub returns : goal.returns
returns c = ap four_bytes c.read_u32.ensures ∙ four_bytes-big_number_at c.args.bytes.now c.requires (λ i. omega (arith, c.type_inv.bytes i))
