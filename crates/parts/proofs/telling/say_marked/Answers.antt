use Rattle.std.proofs.Common.{◌∙◌, sym, subst, false}
use Rattle.std.proofs.lemmas.Result.{err_from_is_err_and}
use Rattle.opening.specs.Seen.{file_entry}
use Rattle.parts.specs.Spans.{IsSpanOf, IsSpanned}
use Rattle.parts.specs.Telling.{TellsFile}
use Rattle.parts.specs.declared.telling.Telling.TheVariants as telling
use Rattle.parts.proofs.PlaceTests.{place_test}
use Rattle.parts.proofs.Tellings.{none_in, span_line_broke, span_run_broke, span_runs_sent}
use Rattle.parts.proofs.telling.say_marked.Given.{Over}
use Rattle.parts.proofs.telling.say_marked.Goals as goal
use Rattle.parts.proofs.telling.say_marked.Goals.{In-Some}

-- the file has the pieces that were found
spanned : (g : Over) (c : In-Some g) → IsSpanOf c.args.torrent.now c.args.places (file_entry c.args.file.now) c.in-Some.span
spanned g c = subst (IsSpanned c.args.torrent.now c.args.places (file_entry c.args.file.now)) c.in-Some.is c.span_of.ensures

pub returns-in_default : goal.returns-in_default
returns-in_default g c =
    let t = c.args.torrent.now in
    let f = file_entry c.args.file.now in
    let r = c.args.places in
    let other = subst (IsSpanned t r f) c.in_default.is c.span_of.ensures in
    none_in g.L.LineSink.spelled t r f c.args.verdict c.args.bits.now (g.L.LineSink.seen c.args.out.now) other
    (sym (place_test t r f false (λ on. (let no : ⊥ = cc in absurd no), λ touched. absurd (other touched))))

pub returns-in_err-say_verdict : goal.returns-in_err-say_verdict
returns-in_err-say_verdict g c =
    let is = spanned g (goal.at.returns-in_err-say_verdict g c).In-Some in
    let p = err_from_is_err_and c.from_residual.result c.from_residual.ensures.1 in
    subst (TellsFile g.L.LineSink.spelled c.args.torrent.now (telling.RunsIn c.args.places) (file_entry c.args.file.now) c.args.verdict c.args.bits.now
    (g.L.LineSink.seen c.args.out.now) (g.L.LineSink.seen c.say_verdict.new.out)) (sym p.1)
    (span_line_broke g.L.LineSink.spelled _ _ _ _ c.args.verdict c.args.bits.now is c.requires.room _ _ p.0 c.in_err-say_verdict.ensures)

pub returns-in_err-say_runs : goal.returns-in_err-say_runs
returns-in_err-say_runs g c =
    let is = spanned g (goal.at.returns-in_err-say_runs g c).In-Some in
    let p = err_from_is_err_and c.from_residual-in_err-say_runs.result c.from_residual-in_err-say_runs.ensures.1 in
    let on = sym c.has_runs.ensures ∙ c.if-has_runs.true in
    subst (TellsFile g.L.LineSink.spelled c.args.torrent.now (telling.RunsIn c.args.places) (file_entry c.args.file.now) c.args.verdict c.args.bits.now
    (g.L.LineSink.seen c.args.out.now) (g.L.LineSink.seen c.say_runs.new.out)) (sym p.1)
    (span_run_broke g.L.LineSink.spelled _ _ _ _ c.args.verdict c.args.bits.now is c.requires.room _ (g.L.LineSink.seen c.say_verdict.new.out)
    (g.L.LineSink.seen c.say_runs.new.out) p.0 on c.in_ok-say_verdict.ensures c.in_err-say_runs.ensures)

pub returns-in_ok-say_runs : goal.returns-in_ok-say_runs
returns-in_ok-say_runs g c =
    let is = spanned g (goal.at.returns-in_ok-say_runs g c).In-Some in
    let ran = c.in_ok-say_runs.ensures in
    let on = sym c.has_runs.ensures ∙ c.if-has_runs.true in
    span_runs_sent g.L.LineSink.spelled _ _ _ _ c.args.verdict c.args.bits.now is c.requires.room _ (g.L.LineSink.seen c.say_verdict.new.out) _ ran.0 on
    c.in_ok-say_verdict.ensures ran.1 ran.2
