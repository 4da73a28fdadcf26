use Rattle.std.proofs.Common.{◌≡◌, ◌-◌, ◌++◌, length, take, drop, arith, sym, subst, ◌∙◌}
use Rattle.std.proofs.lemmas.List.{length-take, length-drop}
use Rattle.std.proofs.lemmas.Result.{err_from_is_err_and}
use Rattle.std.proofs.lemmas.Grind.{common_steps}
use Rattle.wire.specs.Frames.{four_bytes}
use Rattle.wire.specs.Reading.{GaveFaultless}
use Rattle.wire.proofs.Giving.{Faultless-take, Faultless-trans, take-put_all}
use Rattle.benc.proofs.Handed.{handed_on}
use Rattle.wire.proofs.Stopping.{StopsInLength-after, StopsInLength-at_start}
use Rattle.wire.proofs.framing.read_length.Given.{Over}
use Rattle.wire.proofs.framing.read_length.Goals as goal
use Rattle.wire.proofs.framing.read_length.Goals.{In_ok-first}

-- what the first read gave
gave_first : (g : Over) (c : In_ok-first g) → GaveFaultless (g.R.Source.seen c.args.source.now) (g.R.Source.seen c.read.new.self)
    (take c.in_ok-first.first c.read.new.buf)
gave_first g c = let e = c.in_ok-first.ensures in Faultless-take _ _ c.in_ok-first.first c.read.new.buf e.bound e.bytes.0 e.falls e.counts

pub returns-in_err-first-clause-bytes : goal.returns-in_err-first-clause-bytes
returns-in_err-first-clause-bytes g c =
    let p = err_from_is_err_and c.from_residual.result c.from_residual.ensures.1 in
    rw p.1 (StopsInLength-at_start _ _ p.0 p.2 c.in_err-first.ensures.bytes c.in_err-first.ensures.falls c.in_err-first.ensures.counts)

pub returns-in_err-read_exact-clause-bytes : goal.returns-in_err-read_exact-clause-bytes
returns-in_err-read_exact-clause-bytes g c =
    let first = c.in_ok-first.first in
    let buf = c.read.new.buf in
    rw (handed_on c.from_residual-in_err-read_exact.result _ c.from_residual-in_err-read_exact.ensures.1)
    (StopsInLength-after _ _ _ (take first buf) (length (take (4 - first) (drop first buf))) _
    (omega (arith, c.read.auto.buf, c.in_ok-first.ensures.bound, length-take first buf))
    (omega (arith, c.read.auto.buf, c.in_ok-first.ensures.bound, length-take first buf, length-take (4 - first) (drop first buf), length-drop first buf))
    (gave_first g (goal.at.returns-in_err-read_exact-clause-bytes g c).In_ok-first) c.in_err-read_exact.ensures.bytes)

pub returns-clause-bytes : goal.returns-clause-bytes
returns-clause-bytes g c =
    let first = c.in_ok-first.first in
    let buf = c.read.new.buf in
    let new = c.read_exact.new.buf in
    let low = c.in_ok-first.ensures.bound in
    let len : length new ≡ 4 - first = omega (arith, c.read_exact.auto.buf, length-take (4 - first) (drop first buf), length-drop first buf) in
    let joined : four_bytes c.number_at.result ≡ take first buf ++ new = c.number_at.ensures
    ∙ take-put_all first 4 buf new c.read.auto.buf (omega (arith, low, c.read.auto.buf)) len in (
      subst (GaveFaultless (g.R.Source.seen c.args.source.now) (g.R.Source.seen c.read_exact.new.source)) (sym joined)
          (Faultless-trans _ _ _ (take first buf) new (gave_first g (goal.at.returns-clause-bytes g c).In_ok-first) c.in_ok-read_exact.ensures.bytes),
      omega (arith, c.number_at.type_inv),
    )

pub returns-then-first-eq0-clause-bytes : goal.returns-then-first-eq0-clause-bytes
returns-then-first-eq0-clause-bytes g c = grind (arith, common_steps)

pub slice_bounds-number_at-end : goal.slice_bounds-number_at-end
slice_bounds-number_at-end g c = grind (arith, common_steps)
