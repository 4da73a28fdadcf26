use Rattle.std.proofs.Common.{map}
use Rattle.folders.specs.Shelf.{path_bytes}
use Rattle.gathering.specs.Passing.{GatherTask}
use Rattle.gathering.proofs.PassStops.{passes_adds, passes_stays}
use Rattle.gathering.proofs.all_files.add_files.Goals as goal

pub returns-clause-adds : goal.returns-clause-adds
returns-clause-adds g c =
    let t : GatherTask = record { paths = map path_bytes c.args.paths.now; piece_length = c.args.kind.now.piece_length; hybrid = c.args.kind.now.hybrid } in
    passes_adds t g.S.Shelf g.S.File.Source.seen c.args.shelf.now c.pass.new.shelf c.args.draft.now c.pass.new.kept c.pass.result c.pass.ensures.all
    c.pass.ensures.stops

pub returns-clause-stays : goal.returns-clause-stays
returns-clause-stays g c =
    let t : GatherTask = record { paths = map path_bytes c.args.paths.now; piece_length = c.args.kind.now.piece_length; hybrid = c.args.kind.now.hybrid } in
    passes_stays t g.S.Shelf g.S.File.Source.seen c.args.shelf.now c.pass.new.shelf c.args.draft.now c.pass.new.kept c.pass.result c.pass.ensures.all
    c.pass.ensures.stops
