use Rattle.std.proofs.Common.{◌≡◌, IfErr, IfOk}
use Rattle.folders.specs.declared.report.Report.{Report}
use Rattle.lines.specs.declared.out_fault.OutFault.TheVariants as stopped
use Rattle.parts.specs.Checking.{ChecksWhole, shelf_and_sink}
use Rattle.parts.specs.declared.telling.Telling.TheVariants as telling
use Rattle.parts.proofs.Reported.{if_refused, if_stopped, if_whole, onto_cut, onto_report}
use Rattle.parts.proofs.ToldFirst.{visits_once}
use Rattle.parts.proofs.whole.say_check.Given.{Over}
use Rattle.parts.proofs.whole.say_check.Goals as goal
use Rattle.parts.proofs.whole.say_check.Goals.{After-say_files}

-- all files were checked and told of for this report
abbrev Whole : (g : Over) → After-say_files g → Report → Type 0
Whole g c r =
    ChecksWhole g.S.Shelf g.S.File.Source.seen g.L.LineSink.spelled c.args.torrent.now (telling.Line c.args.lines) c.args.lines r.files.items r.v1
    (shelf_and_sink c.args.shelf.now (g.L.LineSink.seen c.args.out.now)) (shelf_and_sink c.say_files.new.shelf (g.L.LineSink.seen c.say_files.new.out))

-- what follows from that holds of an answered report
of_report : (g : Over) (c : After-say_files g) (P : Report → Type 0) → ((r : Report) → Whole g c r → P r) → IfOk c.say_files.result P
of_report g c P onto =
    if_whole g.S.Shelf g.S.File.Source.seen c.args.torrent.now g.L.LineSink.spelled (telling.Line c.args.lines) c.args.lines _ _ c.say_files.result P
    c.say_files.ensures.checks onto

-- memory was refused: nothing changed
refused : (g : Over) (c : After-say_files g) (P : Type 0)
    → ((c.say_files.new.shelf ≡ c.args.shelf.now) × (g.L.LineSink.seen c.say_files.new.out ≡ g.L.LineSink.seen c.args.out.now) → P)
    → IfErr c.say_files.result (λ e. e ≡ stopped.NoMemory → P)
refused g c P onto =
    if_refused g.S.Shelf g.S.File.Source.seen c.args.torrent.now g.L.LineSink.spelled (telling.Line c.args.lines) c.args.lines _ _ c.say_files.result P
    c.say_files.ensures.checks onto

pub returns-clause-verdicts : goal.returns-clause-verdicts
returns-clause-verdicts g c = of_report g (goal.at.returns-clause-verdicts g c).After-say_files _ (λ r said. said.all.visits.has)

pub returns-clause-are_true : goal.returns-clause-are_true
returns-clause-are_true g c = of_report g (goal.at.returns-clause-are_true g c).After-say_files _ (λ r said. said.all.are_true)

pub returns-clause-once : goal.returns-clause-once
returns-clause-once g c =
    of_report g (goal.at.returns-clause-once g c).After-say_files _ (λ r said. visits_once _ _ _ _ _ _ _ _ said.all.visits)

pub returns-clause-unreadable : goal.returns-clause-unreadable
returns-clause-unreadable g c = of_report g (goal.at.returns-clause-unreadable g c).After-say_files _ (λ r said. said.all.visits.counts.counted)

pub returns-clause-readable : goal.returns-clause-readable
returns-clause-readable g c = of_report g (goal.at.returns-clause-readable g c).After-say_files _ (λ r said. said.all.visits.counts.readable)

pub returns-clause-report : goal.returns-clause-report
returns-clause-report g c =
    of_report g (goal.at.returns-clause-report g c).After-say_files _ (λ r said. onto_report _ _ _ _ _ _ _ _ _ said)

pub returns-clause-cut : goal.returns-clause-cut
returns-clause-cut g c =
    let S = g.S.Shelf in
    let files = g.S.File.Source.seen in
    let t = c.args.torrent.now in
    let old = shelf_and_sink c.args.shelf.now (g.L.LineSink.seen c.args.out.now) in
    let new = shelf_and_sink c.say_files.new.shelf (g.L.LineSink.seen c.say_files.new.out) in
    if_stopped S files t g.L.LineSink.spelled (telling.Line c.args.lines) c.args.lines old new c.say_files.result _ c.say_files.ensures.checks
    (λ stops. onto_cut S files t g.L.LineSink.spelled c.args.lines old new stops)

pub returns-clause-no_memory : goal.returns-clause-no_memory
returns-clause-no_memory g c = refused g (goal.at.returns-clause-no_memory g c).After-say_files _ (λ same. same.0)

pub returns-clause-silent : goal.returns-clause-silent
returns-clause-silent g c = refused g (goal.at.returns-clause-silent g c).After-say_files _ (λ same. same.1)
