use Rattle.std.proofs.Common.{◌≡◌, ◌∙◌, ◌≤◌, ℕ, List, [], true, sym, subst, arith}
use Rattle.std.proofs.lemmas.Result.{err_from_is_err_and}
use Rattle.benc.proofs.Out.{Broke-append, Broke-front, Sent-append}
use Rattle.folders.specs.Printed.{verdict_row}
use Rattle.lines.specs.Rows.{spell}
use Rattle.opening.specs.Seen.{file_entry}
use Rattle.parts.specs.Parts.{piece_count}
use Rattle.parts.specs.Runs.{AreBadRuns, IsSetIfIn, Run, runs_rows}
use Rattle.parts.specs.Telling.{has_runs}
use Rattle.part_reports.specs.WholeLines.{AreFirstShown, AreRunsOfMarks, AreShown, SaysFile}
use Rattle.part_reports.proofs.MarkBits.{marked_runs}
use Rattle.part_reports.proofs.WholePrints.{first_none}
use Rattle.part_reports.proofs.whole_lines.say_file.Given.{Over}
use Rattle.part_reports.proofs.whole_lines.say_file.Goals.{After-say_runs}
use Rattle.part_reports.proofs.whole_lines.say_file.Goals as goal

pub returns-in_err-say_verdict : goal.returns-in_err-say_verdict
returns-in_err-say_verdict g c =
    let t = c.args.torrent.now in
    let f = file_entry c.args.file.now in
    let bad = c.args.bad.now in
    let v = c.args.verdict in
    let spelled = g.L.LineSink.spelled in
    let seen = g.L.LineSink.seen in
    let p = err_from_is_err_and c.from_residual.result c.from_residual.ensures.1 in
    subst (SaysFile spelled t bad f v (seen c.args.out.now) (seen c.say_verdict.new.out)) (sym p.1) (
      [],
      first_none t bad f (has_runs v),
      Broke-front (seen c.args.out.now) (seen c.say_verdict.new.out) (spelled (verdict_row v f)) (spell spelled (runs_rows t f []))
          c.in_err-say_verdict.ensures,
    )

-- the runs of the bits are shown
module _ (g : Over) (c : After-say_runs g) where
  on : has_runs c.args.verdict ≡ true
  on = sym c.has_runs.ensures ∙ c.if-has_runs.true

  marked : (to : ℕ) (runs : List Run) → to ≤ piece_count c.args.torrent.now (file_entry c.args.file.now)
      → AreBadRuns (piece_count c.args.torrent.now (file_entry c.args.file.now)) to
      (IsSetIfIn (file_entry c.args.file.now).first_piece 0 c.piece_count.result c.deref.result.now) runs
      → AreRunsOfMarks c.args.torrent.now c.args.bad.now (file_entry c.args.file.now) to runs
  marked to runs =
      marked_runs c.args.torrent.now c.args.bad.now (file_entry c.args.file.now) c.piece_count.result to c.deref.result.now runs c.piece_count.ensures
      c.deref.ensures.value c.requires.room

pub returns-in_err-say_runs : goal.returns-in_err-say_runs
returns-in_err-say_runs g c =
    let s = (goal.at.returns-in_err-say_runs g c).After-say_runs in
    let t = c.args.torrent.now in
    let f = file_entry c.args.file.now in
    let seen = g.L.LineSink.seen in
    let p = err_from_is_err_and c.from_residual-in_err-say_runs.result c.from_residual-in_err-say_runs.ensures.1 in
    let (runs, end, le, are, broke) = c.in_err-say_runs.ensures in
    subst (SaysFile g.L.LineSink.spelled t c.args.bad.now f c.args.verdict (seen c.args.out.now) (seen c.say_runs.new.out)) (sym p.1) (
      runs,
      subst (λ b. AreFirstShown t c.args.bad.now f b runs) (sym (on g s)) (end, le, marked g s end runs le are),
      Broke-append (seen c.args.out.now) (seen c.say_verdict.new.out) (seen c.say_runs.new.out) (g.L.LineSink.spelled (verdict_row c.args.verdict f))
          (spell g.L.LineSink.spelled (runs_rows t f runs)) c.in_ok-say_verdict.ensures broke,
    )

pub returns-in_ok-say_runs : goal.returns-in_ok-say_runs
returns-in_ok-say_runs g c =
    let s = (goal.at.returns-in_ok-say_runs g c).After-say_runs in
    let t = c.args.torrent.now in
    let f = file_entry c.args.file.now in
    let seen = g.L.LineSink.seen in
    let ran = c.in_ok-say_runs.ensures in (
      ran.0,
      subst (λ b. AreShown t c.args.bad.now f b ran.0) (sym (on g s)) (marked g s (piece_count t f) ran.0 (omega arith) ran.1),
      Sent-append (seen c.args.out.now) (seen c.say_verdict.new.out) (seen c.say_runs.new.out) (g.L.LineSink.spelled (verdict_row c.args.verdict f))
          (spell g.L.LineSink.spelled (runs_rows t f ran.0)) c.in_ok-say_verdict.ensures ran.2,
    )
