use Rattle.std.proofs.Common.{refl, ◌-◌, arith}
use Rattle.std.proofs.lemmas.Nat.{one_shl}
use Rattle.partial_tree.proofs.Ranges.{no_range, good_range}
use Rattle.partial_tree.proofs.message.checks.check_range.Goals as goal

pub returns-in-None-clause-bad : goal.returns-in-None-clause-bad
returns-in-None-clause-bad c = (refl, no_range c.args.height c.args.ask.now c.in-None.ensures.none)

pub returns-clause-good : goal.returns-clause-good
returns-clause-good c =
    let found = c.in-Some.ensures.found in (
      good_range c.args.height c.args.ask.now c.in-Some.span found.0 found.1 found.2 (omega arith) (omega arith)
          (omega (arith, one_shl (c.args.height - c.args.ask.now.base) 64 (omega arith))),
      found.0,
      found.1,
      found.2,
    )
