use Rattle.drafts.specs.Outline.{empty_outline}
use Rattle.uses.proofs.Gathered.{all-drafted, first-fault}
use Rattle.uses.proofs.making.draft_folder.Goals as goal

pub returns-clause-all : goal.returns-clause-all
returns-clause-all g c = all-drafted g.S.Shelf g.S.File.Source.seen (empty_outline c.args.name.now c.args.piece_length c.args.hybrid) c.args.shelf.now
    c.gather.new.shelf c.gather.result c.gather.ensures.gathers

pub returns-clause-first : goal.returns-clause-first
returns-clause-first g c = first-fault g.S.Shelf g.S.File.Source.seen (empty_outline c.args.name.now c.args.piece_length c.args.hybrid) c.args.shelf.now
    c.gather.new.shelf c.gather.result c.gather.ensures.gathers
