use Rattle.parts.specs.Visiting.{part_visiting}
use Rattle.parts.specs.declared.telling.Telling.TheVariants as telling
use Rattle.parts.proofs.MarkedVisits.{true_of_contents}
use Rattle.parts.proofs.ToldFirst.{visits_once}
use Rattle.parts.proofs.part.check_part.Goals as goal

pub visit_files-requires-clause-own : goal.visit_files-requires-clause-own
visit_files-requires-clause-own g c = λ n f content v bits there marks. tt

pub returns-clause-are_true : goal.returns-clause-are_true
returns-clause-are_true g c =
    let report = c.in-Ok-visit_files.report in
    let all = c.in-Ok-visit_files.ensures.ends in
    record {
      contents = all.contents;
      agree = all.agree;
      are_true = true_of_contents g.S.Shelf g.S.SeekShelf.opens_at g.S.File.Source.seen c.args.places c.args.torrent.now _ telling.Nothing
          report.files.items report.v1 _ _ all;
    }

pub returns-clause-once : goal.returns-clause-once
returns-clause-once g c =
    let report = c.in-Ok-visit_files.report in
    visits_once (part_visiting g.S.Shelf g.S.SeekShelf.opens_at g.S.File.Source.seen c.args.places c.args.torrent.now) _ c.args.torrent.now telling.Nothing
    report.files.items report.v1 _ _ c.in-Ok-visit_files.ensures.ends
