use Rattle.std.proofs.Common.{◌<◌, length, ap, ◌∙◌, set, None, arith}
use Rattle.holdings.proofs.Cleared.{cleared-more}
use Rattle.holdings.proofs.settling.clear.Goals as goal

pub each-preserved : goal.each-preserved
each-preserved c =
    let low : c.each.block < length c.args.cells.now = omega (arith, c.each-test.true) in
    ap (λ cells. set cells c.each.block None) c.each.invariant ∙ cleared-more c.each.block c.args.cells.now low
