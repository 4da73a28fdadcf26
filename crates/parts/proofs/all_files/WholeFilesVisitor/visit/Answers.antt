use Rattle.std.proofs.Common.{◌∙◌, ℕ, sym, subst, Vec}
use Rattle.std.specs.Global.{Global}
use Rattle.hashtree.specs.Bits.{AreClear}
use Rattle.opening.specs.Seen.{file_entry}
use Rattle.parts.proofs.Visited.{whole_is_small, whole_visited}
use Rattle.parts.proofs.WholeFiles.{whole_shape}
use Rattle.parts.proofs.all_files.WholeFilesVisitor.visit.Goals as goal

pub visit-visited-requires-clause-ready : goal.visit-visited-requires-clause-ready
visit-visited-requires-clause-ready g c = record {
  file = c.requires.file;
  span = whole_shape c.args.torrent.now (file_entry c.args.file.now) c.of_all-span.result c.of_all-span.ensures;
  clear = subst (λ (v : Vec ℕ Global). AreClear v.items) (sym c.taken.ensures.taken) c.clear_bits.ensures.clear;
}

pub of_visit-requires : goal.of_visit-requires
of_visit-requires g c =
    let path = c.deref.ensures ∙ c.parts.ensures in
    whole_is_small g.S.Shelf g.S.File.Source.seen c.args.torrent.now c.requires.file.0 (file_entry c.args.file.now) c.of_all-span.result
    c.recall_sound.ensures c.requires.file.1 c.of_all-span.ensures c.taken.result c.visit-visited.new.reader.bits c.args.shelf.now
    c.visit-visited.new.shelf _ path c.visit-visited.result c.visit-visited.ensures.visits

pub returns-clause-visited : goal.returns-clause-visited
returns-clause-visited g c =
    let path = c.deref.ensures ∙ c.parts.ensures in
    whole_visited g.S.Shelf g.S.File.Source.seen c.args.torrent.now c.requires.file.0 (file_entry c.args.file.now) c.of_all-span.result
    c.recall_sound.ensures c.requires.file.1 c.of_all-span.ensures c.taken.result c.visit-visited.new.reader.bits c.args.shelf.now
    c.visit-visited.new.shelf _ path c.visit-visited.result c.visit-visited.ensures.visits c.of_visit.result c.of_visit.ensures c.visit-visited.ensures.stays
