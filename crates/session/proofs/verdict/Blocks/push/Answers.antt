use Rattle.std.proofs.Common.{◌<◌, length, take, subst, sym, arith}
use Rattle.session.specs.Blocks.{BlocksSeen, most_blocks}
use Rattle.session.proofs.Arrays.{pushed-array}
use Rattle.session.proofs.verdict.Blocks.push.Goals as goal

pub invariant_of-self : goal.invariant_of-self
invariant_of-self c =
    let below : length (take c.self.inside.count c.self.inside.refusals) < most_blocks =
    subst (λ (v : BlocksSeen). length v.refusals < most_blocks) (sym c.self.view_is) c.requires in
    pushed-array c.self.inside.refusals c.self.inside.count c.self.inside.first c.self.invariant c.args.refusal
    (omega (arith, below, c.self.invariant.count_is))
