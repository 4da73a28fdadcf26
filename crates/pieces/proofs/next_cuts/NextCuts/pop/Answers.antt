use Rattle.std.proofs.Common.{arith}
use Rattle.pieces.proofs.Known.{one_taken}
use Rattle.pieces.proofs.next_cuts.NextCuts.pop.Goals as goal

pub returns-clause-next : goal.returns-clause-next
returns-clause-next c = λ size bytes known.
    let f = c.args.self.now in
    one_taken f.digests f.left size bytes known f.within (omega (arith, c.if-self-eq0.false))
