use Rattle.std.proofs.Common.{◌≡◌, ◌∙◌, ap, sym}
use Rattle.std.proofs.lemmas.Result.{err_from_is_err_and}
use Rattle.lines.specs.Table.{row_of}
use Rattle.replays.proofs.Endings.{breaks_early, breaks_late, ends_whole}
use Rattle.replays.proofs.ending.end_report.Given.{Over}
use Rattle.replays.proofs.ending.end_report.Goals as goal
use Rattle.replays.proofs.ending.end_report.Goals.{After-line_of_ending}

-- the last line is the teller's
last-line : (g : Over) (c : After-line_of_ending g)
    → g.L.LineSink.spelled (row_of c.line_of_ending.result) ≡ (g.K.TellsFrames.teller g.L.LineSink.spelled).ending c.args.ending
last-line g c = ap g.L.LineSink.spelled c.line_of_ending.ensures ∙ sym (g.met.K.TellsFrames.ends g.L.LineSink.spelled c.args.ending)

pub returns-in_err-outcome-clause-wrote : goal.returns-in_err-outcome-clause-wrote
returns-in_err-outcome-clause-wrote g c =
    let is = err_from_is_err_and c.from_residual.result c.from_residual.ensures.1 in
    breaks_early _ is.0 _ _ _ _ is.1 c.in_err-outcome.ensures

pub returns-in_err-say_last-clause-wrote : goal.returns-in_err-say_last-clause-wrote
returns-in_err-say_last-clause-wrote g c =
    let is = err_from_is_err_and c.from_residual-in_err-say_last.result c.from_residual-in_err-say_last.ensures.1 in
    breaks_late _ is.0 _ _ _ _ _ _ is.1 c.in_ok-outcome.ensures.0
    (last-line g (goal.at.returns-in_err-say_last-clause-wrote g c).After-line_of_ending) c.in_err-say_last.ensures

pub returns-clause-wrote : goal.returns-clause-wrote
returns-clause-wrote g c =
    ends_whole _ _ _ _ _ _ c.in_ok-outcome.ensures.0 (last-line g (goal.at.returns-clause-wrote g c).After-line_of_ending) c.in_ok-say_last.ensures
