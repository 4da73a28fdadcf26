use Rattle.std.proofs.Common.{◌≡◌, ◌+◌, ◌-◌, ◌++◌, sym, ap, ◌∙◌, arith}
use Rattle.opening.specs.Seen.{file_entry}
use Rattle.parts.specs.Runs.{Run, run_row}
use Rattle.lines.specs.Texts.{text_of}
use Rattle.part_reports.specs.RunLines.{HasOneRun}
use Rattle.part_reports.proofs.RunLines.{numbers_of, same_run}
use Rattle.part_reports.proofs.runs.read_run.Goals.{then-from-at-via-then-from-at, then-from-at-via-else-from-at+then-end-from}
use Rattle.part_reports.proofs.runs.read_run.Goals.{then-from-at-via-else-from-at+else-end-from+then-to-end}
use Rattle.part_reports.proofs.runs.read_run.Goals.{In_ok-first}
use Rattle.part_reports.proofs.runs.read_run.Goals as goal

pub returns-in_err-first : goal.returns-in_err-first
returns-in_err-first c = rw c.from_residual.ensures (λ has.
    c.in_err-first.ensures _ _
    (numbers_of c.args.torrent.now (file_entry c.args.file.now) c.args.to c.recall_sound.ensures c.requires.file c.requires.inside c.args.at c.args.text.now
    has))

-- the numbers that were read are those of a run that stands there
are : (c : In_ok-first) → (has : HasOneRun c.args.torrent.now (file_entry c.args.file.now) c.args.at c.args.to c.args.text.now)
    → (c.in_ok-first.first ≡ (file_entry c.args.file.now).first_piece + has.0.first)
    × (c.in_ok-first.last ≡ (file_entry c.args.file.now).first_piece + has.0.last)
are c has = c.in_ok-first.ensures _ _
    (numbers_of c.args.torrent.now (file_entry c.args.file.now) c.args.to c.recall_sound.ensures c.requires.file c.requires.inside c.args.at c.args.text.now
    has)

pub returns-in_err-from : goal.returns-in_err-from
returns-in_err-from c = rw c.from_residual-in_err-from.ensures (λ has.
    let are = are (goal.at.returns-in_err-from c).In_ok-first has in
    c.in_err-from.ensures (omega (arith, are.0)))

pub returns-in_err-checked_sub : goal.returns-in_err-checked_sub
returns-in_err-checked_sub c = rw c.from_residual-in_err-checked_sub.ensures (λ has.
    let are = are (goal.at.returns-in_err-checked_sub c).In_ok-first has in
    c.in_err-checked_sub.ensures (omega (arith, are.1)))

pub returns-in_err-end : goal.returns-in_err-end
returns-in_err-end c = rw c.from_residual-in_err-end.ensures (λ has.
    let are = are (goal.at.returns-in_err-end c).In_ok-first has in
    c.in_err-end.ensures (omega (arith, c.in_ok-checked_sub.ensures.1, are.1, has.1.inside, c.ranges.to.fits)))

pub returns-then-from-at : goal.returns-then-from-at
returns-then-from-at c = λ has.
    let r = has.0 in
    let are = are (goal.at.returns-then-from-at c).In_ok-first has in
    let first : c.in_ok-from.from ≡ r.first = omega (arith, are.0, c.in_ok-from.ensures.1) in
    let last : c.in_ok-end.end ≡ r.last + 1 = omega (arith, are.1, c.in_ok-checked_sub.ensures.1, c.in_ok-end.ensures.1) in
    elim c.then-from-at.branch [
      | then-from-at-via-then-from-at w ↦ omega (arith, w.if-from-at.true, first, has.1.low)
      | then-from-at-via-else-from-at+then-end-from w ↦ omega (arith, w.if-end-from.true, first, last, has.1.order)
      | then-from-at-via-else-from-at+else-end-from+then-to-end w ↦ omega (arith, w.if-to-end.true, last, has.1.inside)
    ]

pub returns-in_err-rest : goal.returns-in_err-rest
returns-in_err-rest c = rw c.from_residual-in_err-rest.ensures (λ has.
    let t = c.args.torrent.now in
    let f = file_entry c.args.file.now in
    let are = are (goal.at.returns-in_err-rest c).In_ok-first has in
    let r : Run = record { first = c.in_ok-from.from; last = c.in_ok-end.end - 1 } in
    let same = same_run r has.0 (omega (arith, are.0, c.in_ok-from.ensures.1))
    (omega (arith, are.1, c.in_ok-checked_sub.ensures.1, c.in_ok-end.ensures.1)) in
    c.in_err-rest.ensures (has.2.0, has.2.1 ∙ ap (λ s. text_of (run_row t f s) ++ has.2.0) (sym same)))

pub returns : goal.returns
returns c = (
  omega (arith, c.if-end-from.false),
  record {
    low = omega (arith, c.if-from-at.false);
    order = omega (arith, c.if-end-from.false);
    inside = omega (arith, c.if-end-from.false, c.if-to-end.false);
  },
  c.in_ok-rest.ensures,
)
