use Rattle.std.proofs.Common.{map}
use Rattle.folders.proofs.Visiting.{visited}
use Rattle.folders.proofs.file_reader.visit.Goals as goal

pub returns-clause-visits : goal.returns-clause-visits
returns-clause-visits g c =
    let path = map (λ s. s.now) c.args.path.now in
    visited g.S.Shelf g.S.File.Source.seen (g.S.Shelf.opens c.args.shelf.now path) ((g.S.Shelf.contents c.args.shelf.now).under path)
    (g.R.FileReader.reads c.args.reader.now c.read_opened.new.reader) c.args.shelf.now c.open-opened.new.self c.read_opened.new.shelf c.open-opened.result
    c.read_opened.result
    (record {
      found = c.open-opened.ensures.found;
      fresh = c.open-opened.ensures.fresh;
      counts = c.open-opened.ensures.counts;
      opens = c.open-opened.ensures.opens;
    })
    c.read_opened.ensures.hands
