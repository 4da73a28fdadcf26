use Rattle.std.proofs.Common.{arith, below_more, ◌≡◌, ◌+◌, ◌*◌, ◌≤◌, ap, ◌∙◌, slice_index, mul-le-mul_right, rules}
use Rattle.std.proofs.lemmas.List.{get_or-set_same, get_or-set_other}
use Rattle.pieces.specs.declared.slots.TheConstants.{SLOTS}
use Rattle.pieces.specs.Slot.{slot_of}
use Rattle.pieces.proofs.Slot.{slot_within}
use Rattle.pieces.proofs.slots.starts_of.Goals as goal

pub lanes-preserved : goal.lanes-preserved
lanes-preserved c =
    let place = c.slot_of.result * c.args.size in
    record {
      long = search rules;
      starts = below_more _ _
          (λ j less. get_or-set_other c.lanes.starts c.lanes.j j place 0 (omega arith) ∙ c.lanes.invariant.starts j less)
          (get_or-set_same c.lanes.starts c.lanes.j place 0 (omega (arith, c.lanes.invariant.long)) ∙ ap (λ k. k * c.args.size) c.slot_of.ensures.slot);
    }

pub returns-clause-starts : goal.returns-clause-starts
returns-clause-starts c = λ j less. c.lanes.invariant.starts j (omega arith)

pub returns-clause-inside : goal.returns-clause-inside
returns-clause-inside c = λ j less.
    let at : slice_index c.lanes.starts j ≡ slot_of c.args.step j * c.args.size = c.lanes.invariant.starts j (omega arith) in
    let within : (slot_of c.args.step j + 1) * c.args.size ≤ SLOTS * c.args.size = mul-le-mul_right c.args.size
    (omega (arith, slot_within c.args.step j less)) in
    omega (arith, at, within)
