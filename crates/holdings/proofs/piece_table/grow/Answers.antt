use Rattle.std.proofs.Common.{◌≡◌, ◌-◌, ◌++◌, length, replicate, ap, ◌∙◌, arith}
use Rattle.holdings.proofs.piece_table.grow.Goals as goal

pub returns-clause-items : goal.returns-clause-items
returns-clause-items g c =
    let low = c.each-test.false in
    let stop = c.each.invariant.stop in
    let same : c.each._i - length c.args.items.now.items ≡ c.args.len - length c.args.items.now.items = omega (arith, low, stop) in
    c.each.invariant.grown ∙ ap (λ n. c.args.items.now.items ++ replicate n c.args.item) same
