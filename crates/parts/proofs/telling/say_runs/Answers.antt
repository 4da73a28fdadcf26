use Rattle.std.proofs.Common.{◌≡◌, ◌+◌, ◌-◌, ◌∷◌, ◌++◌, ◌≤◌, ℕ, List, [], sym, subst, refl, arith}
use Rattle.std.proofs.lemmas.Result.{err_from_is_err_and}
use Rattle.benc.proofs.Known.{Appends_nothing}
use Rattle.benc.proofs.Out.{Broke-append, Sent-append}
use Rattle.benc.specs.Device.{Broke, Sent}
use Rattle.lines.specs.Rows.{spell}
use Rattle.opening.specs.Description.{FileEntry}
use Rattle.opening.specs.Seen.{file_entry}
use Rattle.parts.specs.Parts.{piece_count}
use Rattle.parts.specs.Runs.{IsSetIfIn, Run, WritesRuns, run_row, runs_rows}
use Rattle.parts.proofs.RowRuns.{clear_next}
use Rattle.parts.proofs.Runs.{RunsUpTo, all_runs, no_runs, one_run, text_push}
use Rattle.parts.proofs.SharedPlaces.{few_pieces}
use Rattle.parts.proofs.telling.say_runs.Given.{Over}
use Rattle.parts.proofs.telling.say_runs.Goals.{In-Some}
use Rattle.parts.proofs.telling.say_runs.Goals as goal

pub overflow_add-end_bit : goal.overflow_add-end_bit
overflow_add-end_bit g c =
    let few = few_pieces c.args.torrent.now (file_entry c.args.file.now) c.recall_sound.ensures c.requires.file in
    omega (arith, few, c.requires.first, c.requires.inside)

pub runs-init : goal.runs-init
runs-init g c =
    let at : c.args.from + (c.args.bits.first - c.args.bits.first) ≤ piece_count c.args.torrent.now (file_entry c.args.file.now) =
    omega (arith, c.requires.order, c.requires.inside) in (
      [],
      omega arith,
      no_runs (IsSetIfIn c.args.bits.first c.args.from c.args.to c.args.bits.bits.now) _ _ at (λ k lt low high. absurd (omega (arith, lt, low))),
      record { bytes = Appends_nothing _; faults = refl; flushes = refl },
    )

-- the run that was found, and those before it
module _ (g : Over) (c : In-Some g) where
  abbrev own : FileEntry
  own = file_entry c.args.file.now

  abbrev end : ℕ
  end = c.args.from + (c.in-Some.next_bit - c.args.bits.first)

  abbrev run : Run
  run = record { first = c.args.from + (c.in-Some.first_bit - c.args.bits.first); last = end - 1 }

  abbrev runs : List Run
  runs = c.runs.invariant.0 ++ run ∷ []

  found : RunsUpTo (IsSetIfIn c.args.bits.first c.args.from c.args.to c.args.bits.bits.now) (piece_count c.args.torrent.now own) end runs
  found = one_run _ _ _ run.first end c.runs.invariant.0 (clear_next _ _ c.args.from c.args.to c.runs.at c.in-Some.first_bit c.in-Some.next_bit
      c.args.bits.bits.now c.requires.order c.requires.inside c.runs.invariant.1 c.in-Some.ensures.run) c.runs.invariant.2

  -- how their lines are spelled
  text : spell g.L.LineSink.spelled (runs_rows c.args.torrent.now own runs)
      ≡ spell g.L.LineSink.spelled (runs_rows c.args.torrent.now own c.runs.invariant.0) ++ g.L.LineSink.spelled (run_row c.args.torrent.now own run)
  text = text_push g.L.LineSink.spelled c.args.torrent.now own c.runs.invariant.0 run

pub runs-preserved : goal.runs-preserved
runs-preserved g c =
    let s = (goal.at.runs-preserved g c).In-Some in
    let seen = g.L.LineSink.seen in (
      runs g s,
      omega (arith, c.runs.invariant.1, c.in-Some.ensures.run.low, c.in-Some.ensures.run.some),
      found g s,
      subst (Sent (seen c.args.out.now) (seen c.say_run.new.out)) (sym (text g s))
          (Sent-append (seen c.args.out.now) (seen c.runs.out) (seen c.say_run.new.out) _ _ c.runs.invariant.3 c.in_ok-say_run.ensures),
    )

pub returns-in_err-say_run : goal.returns-in_err-say_run
returns-in_err-say_run g c =
    let s = (goal.at.returns-in_err-say_run g c).In-Some in
    let seen = g.L.LineSink.seen in
    let p = err_from_is_err_and c.from_residual.result c.from_residual.ensures.1 in
    subst (WritesRuns g.L.LineSink.spelled c.args.torrent.now (own g s) (IsSetIfIn c.args.bits.first c.args.from c.args.to c.args.bits.bits.now)
    (seen c.args.out.now) (seen c.say_run.new.out)) (sym p.1) (
      runs g s,
      end g s,
      (found g s).inside,
      (found g s).done,
      subst (Broke (seen c.args.out.now) (seen c.say_run.new.out)) (sym (text g s))
          (Broke-append (seen c.args.out.now) (seen c.runs.out) (seen c.say_run.new.out) _ _ c.runs.invariant.3 c.in_err-say_run.ensures),
    )

pub returns : goal.returns
returns g c =
    let bits = c.args.bits in
    let from = c.args.from in
    let so_far = c.runs.invariant in
    let none = c.in_default.ensures.none refl in (
      so_far.0,
      all_runs (IsSetIfIn bits.first from c.args.to bits.bits.now) (piece_count c.args.torrent.now (file_entry c.args.file.now))
          (from + (c.runs.at - bits.first)) so_far.0
          (λ k low lt begins high. none (k - from + bits.first) (omega (arith, low, begins, so_far.1)) (omega (arith, high, begins))) so_far.2,
      so_far.3,
    )
