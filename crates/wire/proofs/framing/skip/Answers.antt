use Rattle.std.proofs.Common.{ℕ, ◌≤◌, ◌++◌, length, take, arith}
use Rattle.std.proofs.lemmas.List.{length-append, length-take, length-take-le}
use Rattle.wire.proofs.Giving.{Faultless-take, Faultless-trans}
use Rattle.wire.proofs.framing.skip.Goals as goal

pub parts-preserved : goal.parts-preserved
parts-preserved g c =
    let S = g.R.Source in
    let taken = c.in_ok-taken.taken in
    let e = c.in_ok-taken.ensures in
    let fits : taken ≤ length c.read.new.buf = e.bound in
    let small : taken ≤ c.parts.left = omega (arith, fits, c.read.auto.buf, c.min-part.ensures, length-take {A = ℕ}) in
    let before = c.parts.invariant.gave in
    record {
      gave = (
        before.0 ++ take taken c.read.new.buf,
        Faultless-trans (S.seen c.args.source.now) (S.seen c.parts.source) (S.seen c.read.new.self) before.0 (take taken c.read.new.buf) before.1
            (Faultless-take (S.seen c.parts.source) (S.seen c.read.new.self) taken c.read.new.buf fits e.bytes.0 e.falls e.counts),
        omega (arith, before.2, small, length-append before.0 (take taken c.read.new.buf), length-take-le taken c.read.new.buf fits),
      );
    }
