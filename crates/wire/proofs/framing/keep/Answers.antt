use Rattle.std.proofs.Common.{◌≡◌, ◌≤◌, length, arith, ◌∙◌, subst, sym}
use Rattle.std.proofs.lemmas.Result.{err_from_is_err_and, MatchResult-weaker}
use Rattle.std.proofs.lemmas.Grind.{common_steps}
use Rattle.wire.specs.Reading.{GaveFaultless}
use Rattle.wire.proofs.Giving.{take-written}
use Rattle.wire.proofs.Stopping.{StopsShort-at_once}
use Rattle.wire.proofs.framing.keep.Goals as goal

pub returns-in_err-take_room-clause-bytes : goal.returns-in_err-take_room-clause-bytes
returns-in_err-take_room-clause-bytes g c =
    let S = g.R.Source in
    let p = err_from_is_err_and c.from_residual.result c.from_residual.ensures.1 in
    rw p.1 (StopsShort-at_once (S.seen c.args.source.now) c.args.count p.0 c.requires.some p.2)

pub returns-clause-bytes : goal.returns-clause-bytes
returns-clause-bytes g c =
    let S = g.R.Source in
    let new = c.fill_front.new.room in
    let grown = c.lengthen.new.kept in
    let long : 263216 ≤ grown.len = c.lengthen.ensures.long in
    let same : length new ≡ grown.len = c.fill_front.auto.room ∙ c.as_mut_slice.ensures.len in
    MatchResult-weaker c.fill_front.result c.fill_front.ensures.bytes
    (λ _ gave. subst (GaveFaultless (S.seen c.args.source.now) (S.seen c.fill_front.new.source))
    (sym (take-written c.args.count grown.len new grown.items (omega (arith, c.requires.bounded)) (omega (arith, c.requires.bounded)))) gave)
    (λ _ s. s)

pub returns-clause-fault : goal.returns-clause-fault
returns-clause-fault g c = grind (arith, common_steps)

pub returns-in_err-take_room-clause-fault : goal.returns-in_err-take_room-clause-fault
returns-in_err-take_room-clause-fault g c = grind (arith, common_steps)

pub returns-clause-memory : goal.returns-clause-memory
returns-clause-memory g c = grind (arith, common_steps)

pub returns-clause-grows : goal.returns-clause-grows
returns-clause-grows g c = grind (arith, common_steps)

pub returns-in_err-take_room-clause-memory : goal.returns-in_err-take_room-clause-memory
returns-in_err-take_room-clause-memory g c = grind (arith, common_steps)
