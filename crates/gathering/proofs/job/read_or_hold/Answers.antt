use Rattle.std.proofs.Common.{◌≡◌, ◌^◌, ◌++◌, length, take, drop, refl, sym, subst, arith}
use Rattle.std.proofs.lemmas.List.{length-take, take-append-le}
use Rattle.passes.specs.Held.{GivesContent, IsReadUpTo, KeepsHeld}
use Rattle.wire.specs.Reading.{Gave}
use Rattle.passes.specs.Passing.{ReadsFor}
use Rattle.gathering.specs.Passing.{FindsHashes}
use Rattle.gathering.proofs.ReadAlone.{keeps, long_found, short_given}
use Rattle.gathering.proofs.job.read_or_hold.Given.{Over}
use Rattle.gathering.proofs.job.read_or_hold.Goals as goal
use Rattle.gathering.proofs.job.read_or_hold.Goals.{After-hold}

-- the file ended within the buffer
short : (g : Over) (c : After-hold g)
    → GivesContent (IsReadUpTo (2 ^ 46)) (take c.in_ok-count.count (c.fill.new.buffer ++ drop c.min-most.result c.args.buffer.now))
    (g.F.Source.seen c.args.file.now) (g.F.Source.seen c.fill.new.source)
short g c =
    let size : length c.fill.new.buffer ≡ c.min-most.result =
    omega (arith, c.fill.auto.buffer, length-take c.min-most.result c.args.buffer.now, c.min-most.ensures) in
    let fills = c.in_ok-count.ensures.filled in
    short_given (g.F.Source.seen c.args.file.now) (g.F.Source.seen c.fill.new.source) c.fill.new.buffer (drop c.min-most.result c.args.buffer.now)
    c.in_ok-count.count fills (omega (arith, fills.bound, size, c.if-count-most.false)) (omega (arith, size, c.min-most.ensures))

pub returns-then-count-most-clause-reads : goal.returns-then-count-most-clause-reads
returns-then-count-most-clause-reads g c =
    let old = g.F.Source.seen c.args.file.now in
    let mid = g.F.Source.seen c.fill.new.source in
    let new = g.F.Source.seen c.hash_long.new.source in
    let t = c.args.kind.now in
    let fills = c.in_ok-count.ensures.filled in
    let most = c.min-most.result in
    let whole = take-append-le most c.fill.new.buffer (drop most c.args.buffer.now) (omega (arith, fills.bound, c.if-count-most.true)) in
    let gave = subst (Gave old mid) (sym whole) (subst (λ n. Gave old mid (take n c.fill.new.buffer)) c.if-count-most.true fills.gave) in
    subst (ReadsFor (FindsHashes t.piece_length t.hybrid) (IsReadUpTo (2 ^ 46)) (2 ^ 46) old new c.args.held.now c.args.held.now) (sym c.found_or_fault.ensures)
    (long_found t.piece_length t.hybrid old new c.args.held.now c.hash_long.result (c.hash_long.ensures.read old gave))

pub returns-then-hold-clause-reads : goal.returns-then-hold-clause-reads
returns-then-hold-clause-reads g c =
    (_, short g (goal.at.returns-then-hold-clause-reads g c).After-hold, c.if-hold.ensures.held refl)

pub returns-clause-reads : goal.returns-clause-reads
returns-clause-reads g c = (
  _,
  short g (goal.at.returns-clause-reads g c).After-hold,
  c.hash_whole.ensures,
  subst (KeepsHeld c.args.held.now) (sym (c.if-hold.ensures.kept refl)) (keeps c.args.held.now),
)
