use Rattle.std.proofs.Common.{subst}
use Rattle.opening.specs.Description.{Description}
use Rattle.passes.specs.Passing.{PassesAll, StopsPassing}
use Rattle.seeding.specs.Passing.{SeedState, seed_task}
use Rattle.seeding.specs.Seeding.{seed_line_as}
use Rattle.seeding.proofs.Passed.{seeded_all, stopped_at}
use Rattle.seeding.proofs.seeding.seed_files.Goals as goal

pub returns-in-Ok : goal.returns-in-Ok
returns-in-Ok g c =
    let line = seed_line_as g.L.LineSink.spelled in
    let old : SeedState = (c.args.session.now, g.L.LineSink.seen c.args.report.now) in
    let new : SeedState = (c.pass.new.kept, g.L.LineSink.seen c.pass.new.out) in
    seeded_all g.S.Shelf g.S.File.Source.seen line c.args.shelf.now c.pass.new.shelf old new
    (subst (λ (t : Description). PassesAll g.S.Shelf g.S.File.Source.seen (seed_task line t) c.args.shelf.now old c.pass.new.shelf new)
    c.torrent-torrent.ensures c.in-Ok.ensures.all)

pub returns : goal.returns
returns g c =
    let line = seed_line_as g.L.LineSink.spelled in
    let old : SeedState = (c.args.session.now, g.L.LineSink.seen c.args.report.now) in
    let new : SeedState = (c.pass.new.kept, g.L.LineSink.seen c.pass.new.out) in
    let stopped = c.in-Err.stopped in
    stopped_at g.S.Shelf g.S.File.Source.seen line c.args.shelf.now c.pass.new.shelf old new stopped.number stopped.stop
    (subst (λ (t : Description). StopsPassing g.S.Shelf g.S.File.Source.seen (seed_task line t) c.args.shelf.now old stopped.number stopped.stop
    c.pass.new.shelf new) c.torrent-torrent.ensures c.in-Err.ensures.stops)
