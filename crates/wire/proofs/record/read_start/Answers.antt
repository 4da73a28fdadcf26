use Rattle.std.proofs.Common.{◌≡◌, ◌≢◌, ◌+◌, ◌-◌, ◌∷◌, length, take, drop, get_or, arith, subst}
use Rattle.std.proofs.lemmas.List.{length-take, length-drop}
use Rattle.std.proofs.lemmas.Grind.{common_steps}
use Rattle.wire.specs.Reading.{GaveFaultless}
use Rattle.wire.proofs.Giving.{Faultless-take}
use Rattle.wire.proofs.RecordParts.{start_gave, stops_at_other, stops_in_start}
use Rattle.benc.proofs.Handed.{handed_on}
use Rattle.wire.proofs.Stopping.{device}
use Rattle.wire.proofs.record.read_start.Given.{Over}
use Rattle.wire.proofs.record.read_start.Goals as goal
use Rattle.wire.proofs.record.read_start.Goals.{In_ok-count}

-- what the first read gave: a byte, and what is behind it
begun : (g : Over) (c : In_ok-count g) → c.in_ok-count.count ≢ 0
    → GaveFaultless (g.R.Source.seen c.args.source.now) (g.R.Source.seen c.read.new.self)
    (get_or c.read.new.buf 0 0 ∷ take (c.in_ok-count.count - 1) (drop 1 c.read.new.buf))
    × (length (take (c.in_ok-count.count - 1) (drop 1 c.read.new.buf)) + 1 ≡ c.in_ok-count.count)
begun g c some = let e = c.in_ok-count.ensures in start_gave _ _ _ _ c.read.auto.buf e.bound some e.bytes.0 e.falls e.counts

pub returns-then-count-eq0-clause-bytes : goal.returns-then-count-eq0-clause-bytes
returns-then-count-eq0-clause-bytes g c =
    let e = c.in_ok-count.ensures in
    let none = c.if-count-eq0.true in (
      subst (λ n. GaveFaultless (g.R.Source.seen c.args.source.now) (g.R.Source.seen c.read.new.self) (take n c.read.new.buf)) none
          (Faultless-take _ _ c.in_ok-count.count c.read.new.buf e.bound e.bytes.0 e.falls e.counts),
      e.bytes.1 none (omega (arith, c.read.auto.buf)),
    )

pub returns-in_default-clause-bytes : goal.returns-in_default-clause-bytes
returns-in_default-clause-bytes g c =
    let start = begun g (goal.at.returns-in_default-clause-bytes g c).In_ok-count c.if-count-eq0.false in
    stops_at_other _ _ _ _ c.in_default.ensures.0 c.in_default.ensures.1 (omega (arith, start.1, c.in_ok-count.ensures.bound, c.read.auto.buf)) start.0

pub returns-in_err-read_exact-clause-bytes : goal.returns-in_err-read_exact-clause-bytes
returns-in_err-read_exact-clause-bytes g c =
    let count = c.in_ok-count.count in
    let left = drop count c.read.new.buf in
    let start = begun g (goal.at.returns-in_err-read_exact-clause-bytes g c).In_ok-count c.if-count-eq0.false in
    let bound = c.in_ok-count.ensures.bound in
    rw (handed_on c.from_residual-in_err-read_exact.result _ c.from_residual-in_err-read_exact.ensures.1)
    (stops_in_start c.in-Some.direction _ (length (take (5 - count) left)) _ _ _ _
    (omega (arith, start.1, bound, c.read.auto.buf, length-take (5 - count) left, length-drop count c.read.new.buf))
    (device _ c.in_err-read_exact.ensures.no_memory)
    (subst (λ n. GaveFaultless (g.R.Source.seen c.args.source.now) (g.R.Source.seen c.read.new.self) (n ∷ take (count - 1) (drop 1 c.read.new.buf)))
    c.in-Some.ensures start.0)
    c.in_err-read_exact.ensures.bytes)

pub slice_bounds-number_at-end : goal.slice_bounds-number_at-end
slice_bounds-number_at-end g c = grind (arith, common_steps)
