use Rattle.std.proofs.Common.{ap, sym, ◌∙◌, arith}
use Rattle.pieces.specs.Slot.{slot_of}
use Rattle.pieces.proofs.Slot.{last_slot, slot_after}
use Rattle.pieces.proofs.slots.slot_of.Goals as goal

pub returns-then-stretch-eq0-clause-slot : goal.returns-then-stretch-eq0-clause-slot
returns-then-stretch-eq0-clause-slot c = sym (last_slot c.args.piece) ∙ ap (slot_of c.args.piece) (sym c.if-stretch-eq0.true)

pub returns-clause-slot : goal.returns-clause-slot
returns-clause-slot c = sym (slot_after c.args.piece c.args.stretch (omega (arith, c.if-stretch-eq0.false)))
