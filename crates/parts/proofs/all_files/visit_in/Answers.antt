use Rattle.parts.proofs.WholeVisits.{whole_tells}
use Rattle.parts.proofs.all_files.visit_in.Goals as goal

pub visit_files-requires-clause-own : goal.visit_files-requires-clause-own
visit_files-requires-clause-own g c =
    whole_tells g.S.Shelf g.S.File.Source.seen c.args.torrent.now c.args.telling c.recall_sound.ensures c.requires.whole
