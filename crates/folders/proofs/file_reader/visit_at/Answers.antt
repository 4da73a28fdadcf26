use Rattle.std.proofs.Common.{map}
use Rattle.folders.specs.Seeking.{from_offset}
use Rattle.folders.proofs.Visiting.{visited}
use Rattle.folders.proofs.file_reader.visit_at.Goals as goal

pub returns-clause-visits : goal.returns-clause-visits
returns-clause-visits g c =
    let path = map (λ s. s.now) c.args.path.now in
    visited g.S.Shelf g.S.File.Source.seen (g.S.SeekShelf.opens_at c.args.shelf.now path c.args.offset)
    (from_offset c.args.offset ((g.S.Shelf.contents c.args.shelf.now).under path)) (g.R.FileReader.reads c.args.reader.now c.read_opened.new.reader)
    c.args.shelf.now c.open_at-opened.new.self c.read_opened.new.shelf c.open_at-opened.result c.read_opened.result
    (record {
      found = c.open_at-opened.ensures.found;
      fresh = c.open_at-opened.ensures.fresh;
      counts = c.open_at-opened.ensures.counts;
      opens = c.open_at-opened.ensures.opens;
    })
    c.read_opened.ensures.hands
