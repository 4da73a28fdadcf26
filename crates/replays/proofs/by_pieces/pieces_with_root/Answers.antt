use Rattle.std.proofs.Common.{sym, subst}
use Rattle.std.proofs.lemmas.Option.{none-some}
use Rattle.opening.specs.Description.{Description}
use Rattle.opening.specs.Trees.{IsTreeWithRoot}
use Rattle.replays.proofs.by_pieces.pieces_with_root.Goals as goal

pub returns-in-None-clause-none : goal.returns-in-None-clause-none
returns-in-None-clause-none g c = λ n has.
    none-some n (c.in-None.ensures.only n (subst (λ (d : Description). IsTreeWithRoot d.trees c.args.root.now n) (sym c.torrent.ensures) has))
