use Rattle.std.proofs.Common.{refl}
use Rattle.btcheck_c.specs.declared.held.Held.{Held}
use Rattle.btcheck_c.proofs.hold_calls.look_at.Goals as goal

pub returns : goal.returns
returns c =
    let after : Held = record { holdings = c.args.held.now.holdings; cursor = c.of_tree-held.result } in
    (refl, (after, (refl, (refl, c.of_tree-held.ensures.pieces))))
