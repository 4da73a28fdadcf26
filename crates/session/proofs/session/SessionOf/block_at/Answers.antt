use Rattle.std.proofs.Common.{ap, ◌∙◌, subst}
use Rattle.std.specs.Prelude.{IfSome}
use Rattle.opening.specs.Description.{Description}
use Rattle.opening.specs.Places.{IsBlockPlace, place_of}
use Rattle.opening.specs.Sound.{IsSound}
use Rattle.session.specs.Layouts.{SessionSeen}
use Rattle.session.proofs.BlockTrees.{block_places}
use Rattle.session.proofs.session.SessionOf.block_at.Goals as goal

pub returns-clause-value : goal.returns-clause-value
returns-clause-value g c =
    c.place.ensures.value
    ∙ ap (λ (d : Description). place_of d c.args.index c.args.begin) (c.lend-torrent.ensures ∙ ap (λ (v : SessionSeen). v.torrent) c.self.view_is)

pub returns-clause-found : goal.returns-clause-found
returns-clause-found g c =
    block_places c.self.inside.asks _ _ c.self.invariant _ c.self.view_is (subst IsSound c.lend-torrent.ensures c.recall_sound.ensures)
    c.args.index c.args.begin c.place.result
    (c.place.ensures.value ∙ ap (λ (d : Description). place_of d c.args.index c.args.begin) c.lend-torrent.ensures)
    (subst (λ (d : Description). IfSome c.place.result (λ p. IsBlockPlace d c.args.index c.args.begin p.0 p.1)) c.lend-torrent.ensures
    c.place.ensures.found)
