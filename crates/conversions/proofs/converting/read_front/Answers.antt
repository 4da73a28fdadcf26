use Rattle.std.proofs.Common.{◌≡◌, ◌-◌, ◌≤◌, [], length, take, drop, subst, sym, ◌∙◌, arith}
use Rattle.std.proofs.lemmas.Bool.{false≢true}
use Rattle.std.proofs.lemmas.List.{append-nil, length-drop, length-take, length-take-le}
use Rattle.std.proofs.lemmas.Result.{err_from_is_err_and}
use Rattle.wire.specs.Reading.{GaveFaultless}
use Rattle.wire.proofs.Giving.{Faultless-take, Faultless-trans, le-length-put, take-put_more}
use Rattle.conversions.proofs.Fronts.{fails_in_front, prefix_from, prefix_is_seen, read_none, take-put_none}
use Rattle.conversions.proofs.converting.read_front.Goals as goal

pub returns-in_err-count-clause-front : goal.returns-in_err-count-clause-front
returns-in_err-count-clause-front g c =
    let S = g.R.Source in
    let p = err_from_is_err_and c.from_residual.result c.from_residual.ensures.1 in
    let e = c.in_err-count.ensures in
    let front = prefix_from (take c.reads.held c.reads.buffer) (sym c.starts_with.ensures.value ∙ c.if-starts_with.true) in
    rw p.1 (fails_in_front (S.seen c.args.source.now) (S.seen c.reads.source) (S.seen c.read.new.self) (take c.reads.held c.reads.buffer) c.reads.invariant.gave
    e.bytes e.falls e.counts front)

pub returns-in-0-clause-front : goal.returns-in-0-clause-front
returns-in-0-clause-front g c =
    let S = g.R.Source in
    let e = c.in_ok-count.ensures in
    let held = take c.reads.held c.reads.buffer in
    let within : c.reads.held ≤ length c.reads.buffer = c.reads.invariant.within in
    let front = prefix_from held (sym c.starts_with.ensures.value ∙ c.if-starts_with.true) in
    let size : length held ≡ c.reads.held = length-take-le c.reads.held c.reads.buffer within in
    rw (take-put_none c.reads.held c.reads.buffer c.read.new.buf within) (
      subst (GaveFaultless (S.seen c.args.source.now) (S.seen c.read.new.self)) (append-nil held)
          (Faultless-trans (S.seen c.args.source.now) (S.seen c.reads.source) (S.seen c.read.new.self) held [] c.reads.invariant.gave
          (read_none (S.seen c.reads.source) (S.seen c.read.new.self) c.in_ok-count.count c.read.new.buf c.in-0.is e.bytes.0 e.falls e.counts)),
      (
        e.bytes.1 c.in-0.is (omega (
          arith,
          c.requires,
          within,
          c.reads-test.true,
          c.read.auto.buf,
          c.reads.auto.buffer,
          length-take (length c.reads.buffer - c.reads.held) (drop c.reads.held c.reads.buffer),
          length-drop c.reads.held c.reads.buffer,
        )),
        omega (arith, size, c.reads-test.true),
        front,
      ),
    )

pub reads-preserved : goal.reads-preserved
reads-preserved g c =
    let S = g.R.Source in
    let count = c.in_ok-count.count in
    let e = c.in_ok-count.ensures in
    let fits : count ≤ length c.read.new.buf = e.bound in
    record {
      within = le-length-put c.reads.held count c.reads.buffer c.read.new.buf c.reads.invariant.within fits;
      gave = subst (GaveFaultless (S.seen c.args.source.now) (S.seen c.read.new.self))
          (sym (take-put_more c.reads.held count c.reads.buffer c.read.new.buf c.reads.invariant.within fits))
          (Faultless-trans (S.seen c.args.source.now) (S.seen c.reads.source) (S.seen c.read.new.self) _ _ c.reads.invariant.gave
          (Faultless-take (S.seen c.reads.source) (S.seen c.read.new.self) count c.read.new.buf fits e.bytes.0 e.falls e.counts));
    }

pub returns-else-starts_with-clause-front : goal.returns-else-starts_with-clause-front
returns-else-starts_with-clause-front g c = (
  c.reads.invariant.gave,
  λ front.
      absurd (false≢true (sym c.if-starts_with.false ∙ c.starts_with.ensures.value ∙ prefix_is_seen (take c.reads.held c.reads.buffer) front)),
)
