use Rattle.std.proofs.Common.{◌≡◌, ◌+◌, ◌-◌, length, refl, arith}
use Rattle.partial_tree.specs.Claims.{top_layer}
use Rattle.partial_tree.proofs.Ranges.{top_at}
use Rattle.partial_tree.proofs.message.checks.check_count.Goals as goal

pub returns-then-top-from-clause-bad : goal.returns-then-top-from-clause-bad
returns-then-top-from-clause-bad c =
    let top : top_layer c.args.ask.now c.args.hashes.now ≡ c.args.ask.now.base + c.args.span + (length c.args.hashes.now - c.args.ask.now.length) =
    top_at c.args.ask.now c.args.hashes.now c.args.span c.requires.span in
    (refl, λ g. omega (arith, g.top_inside))

pub returns-clause-good : goal.returns-clause-good
returns-clause-good c =
    let top : top_layer c.args.ask.now c.args.hashes.now ≡ c.args.ask.now.base + c.args.span + (length c.args.hashes.now - c.args.ask.now.length) =
    top_at c.args.ask.now c.args.hashes.now c.args.span c.requires.span in
    (record { enough = omega arith; asked = omega arith; top_inside = omega arith }, omega arith)
