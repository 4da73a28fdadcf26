use Rattle.std.proofs.Common.{◌≤◌, length, subst, sym, arith}
use Rattle.std.proofs.lemmas.Grind.{common_steps}
use Rattle.wire.specs.Reading.{GaveFaultless}
use Rattle.wire.proofs.Giving.{Faultless-trans, Faultless-take, take-put_more, le-length-put}
use Rattle.wire.proofs.framing.read_exact.Goals as goal

pub reads-preserved : goal.reads-preserved
reads-preserved g c =
    let S = g.R.Source in
    let count = c.in_ok-count.count in
    let fits : count ≤ length c.read.new.buf = c.in_ok-count.ensures.bound in
    record {
      within = le-length-put c.reads.filled count c.reads.buf c.read.new.buf c.reads.invariant.within fits;
      gave = subst (GaveFaultless (S.seen c.args.source.now) (S.seen c.read.new.self))
          (sym (take-put_more c.reads.filled count c.reads.buf c.read.new.buf c.reads.invariant.within fits))
          (Faultless-trans (S.seen c.args.source.now) (S.seen c.reads.source) (S.seen c.read.new.self) _ _ c.reads.invariant.gave
          (Faultless-take (S.seen c.reads.source) (S.seen c.read.new.self) count c.read.new.buf fits c.in_ok-count.ensures.bytes.0 c.in_ok-count.ensures.falls
          c.in_ok-count.ensures.counts));
    }

pub overflow_add-filled : goal.overflow_add-filled
overflow_add-filled g c = grind (arith, common_steps)

pub reads-smaller : goal.reads-smaller
reads-smaller g c = grind (arith, common_steps)

pub returns-clause-bytes : goal.returns-clause-bytes
returns-clause-bytes g c = grind (arith, common_steps)
