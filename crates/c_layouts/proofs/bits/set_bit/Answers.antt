use Rattle.std.proofs.Common.{rules, ◌*◌, ◌<◌, length}
use Rattle.hashtree.proofs.Marking.{bit_is_other, bit_is_set}
use Rattle.c_layouts.proofs.bits.set_bit.Goals as goal

pub returns-then-byte-bits-clause-set : goal.returns-then-byte-bits-clause-set
returns-then-byte-bits-clause-set c = bit_is_set c.args.bits.now c.args.place

pub returns-then-byte-bits-clause-others : goal.returns-then-byte-bits-clause-others
returns-then-byte-bits-clause-others c = λ k apart.
    let within : c.args.place < 8 * length c.args.bits.now = let test = c.if-byte-bits.true in search rules in
    bit_is_other c.args.bits.now c.args.place k within apart
