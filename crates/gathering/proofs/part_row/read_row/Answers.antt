use Rattle.std.proofs.Common.{◌∙◌, ap}
use Rattle.std.proofs.lemmas.Result.{err_from_is_err_and}
use Rattle.benc.specs.Device.{one_more}
use Rattle.folders.specs.declared.taking.ReadFault.TheVariants as fault
use Rattle.gathering.proofs.RowReading.{ended_early, ended_late, faulted, gave_row, read_none, read_some, within}
use Rattle.gathering.proofs.part_row.read_row.Goals as goal

pub returns-in_err-take_exactly : goal.returns-in_err-take_exactly
returns-in_err-take_exactly g c =
    let e = err_from_is_err_and c.from_residual.result c.from_residual.ensures.1 in
    faulted c.args.kind.now.piece_length c.args.kind.now.hybrid c.args.size c.args.ends (g.F.Source.seen c.args.source.now)
    (g.F.Source.seen c.take_exactly.new.source) c.from_residual.result e.0 fault.Device e.1 e.2
    (c.in_err-take_exactly.ensures.no_further, c.in_err-take_exactly.ensures.counts)

pub returns-then-not-branch : goal.returns-then-not-branch
returns-then-not-branch g c = (
  ended_early c.args.size c.args.ends (g.F.Source.seen c.args.source.now) (g.F.Source.seen c.take_exactly.new.source)
      (g.F.Source.seen c.take_exactly.new.source) _ _ _ c.if-not-branch.true c.in_ok-take_exactly.ensures.read,
  c.in_ok-take_exactly.ensures.counts,
)

pub returns-in_err-is_over : goal.returns-in_err-is_over
returns-in_err-is_over g c =
    let e = err_from_is_err_and c.from_residual-in_err-is_over.result c.from_residual-in_err-is_over.ensures.1 in
    faulted c.args.kind.now.piece_length c.args.kind.now.hybrid c.args.size c.args.ends (g.F.Source.seen c.args.source.now)
    (g.F.Source.seen c.is_over.new.source) c.from_residual-in_err-is_over.result e.0 fault.Device e.1 e.2 (
      within c.args.size c.args.ends (g.F.Source.seen c.args.source.now) (g.F.Source.seen c.take_exactly.new.source)
          (g.F.Source.seen c.is_over.new.source) _ _ _ c.if-not-branch.false c.in_ok-take_exactly.ensures.read c.in_err-is_over.ensures.blamed,
      c.in_err-is_over.ensures.counts ∙ ap one_more c.in_ok-take_exactly.ensures.counts,
    )

pub returns-then-not-branch-2 : goal.returns-then-not-branch-2
returns-then-not-branch-2 g c = (
  ended_late c.args.size c.args.ends (g.F.Source.seen c.args.source.now) (g.F.Source.seen c.take_exactly.new.source)
      (g.F.Source.seen c.is_over.new.source) _ _ _ _ c.if-not-branch.false c.in_ok-take_exactly.ensures.read c.if-not-branch-2.true
      c.in_ok-is_over.ensures.over,
  c.in_ok-is_over.ensures.counts ∙ c.in_ok-take_exactly.ensures.counts,
)

pub returns-then-size-eq0 : goal.returns-then-size-eq0
returns-then-size-eq0 g c = (
  read_none c.args.size c.args.ends (g.F.Source.seen c.args.source.now) (g.F.Source.seen c.take_exactly.new.source) (g.F.Source.seen c.is_over.new.source)
      _ _ c.args.kind.now.piece_length c.args.kind.now.hybrid _ _ _ c.if-not-branch.false
      c.in_ok-take_exactly.ensures.read c.if-not-branch-2.false c.in_ok-is_over.ensures.over c.if-size-eq0.true (c.empty.ensures _ _),
  c.in_ok-is_over.ensures.counts ∙ c.in_ok-take_exactly.ensures.counts,
)

pub returns-in_err-finish : goal.returns-in_err-finish
returns-in_err-finish g c =
    let e = err_from_is_err_and c.from_residual-in_err-finish.result c.from_residual-in_err-finish.ensures.1 in
    let t = gave_row c.args.size c.args.ends (g.F.Source.seen c.args.source.now) (g.F.Source.seen c.take_exactly.new.source)
    (g.F.Source.seen c.is_over.new.source) _ _ _ _ c.if-not-branch.false c.in_ok-take_exactly.ensures.read c.if-not-branch-2.false
    c.in_ok-is_over.ensures.over in
    faulted c.args.kind.now.piece_length c.args.kind.now.hybrid c.args.size c.args.ends (g.F.Source.seen c.args.source.now)
    (g.F.Source.seen c.is_over.new.source) c.from_residual-in_err-finish.result e.0 fault.NoMemory e.1 e.2
    ((t.0.bytes, t.1), c.in_ok-is_over.ensures.counts ∙ c.in_ok-take_exactly.ensures.counts)

pub returns : goal.returns
returns g c = (
  read_some c.args.size c.args.ends (g.F.Source.seen c.args.source.now) (g.F.Source.seen c.take_exactly.new.source) (g.F.Source.seen c.is_over.new.source)
      _ _ c.args.kind.now.piece_length c.args.kind.now.hybrid _ _ _ c.if-not-branch.false c.in_ok-take_exactly.ensures.read c.if-not-branch-2.false
      c.in_ok-is_over.ensures.over c.new-hashing.ensures c.in_ok-finish.ensures.gives,
  c.in_ok-is_over.ensures.counts ∙ c.in_ok-take_exactly.ensures.counts,
)
