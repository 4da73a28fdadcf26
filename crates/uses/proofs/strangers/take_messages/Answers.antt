use Rattle.std.proofs.Common.{refl, subst}
use Rattle.std.proofs.lemmas.Result.{IfOk-weaker}
use Rattle.opening.specs.Sound.{IsSound}
use Rattle.uses.proofs.Steps.{run-verifies}
use Rattle.uses.proofs.strangers.take_messages.Goals as goal

pub returns : goal.returns
returns g c =
    let sound : IsSound c.args.session.now.torrent = subst IsSound c.torrent.ensures c.recall_sound.ensures in
    IfOk-weaker c.run.result _ _ (λ vs run.
    run-verifies c.place_is_block_place.ensures c.args.session.now.torrent sound c.args.session.now c.args.messages.now vs.items c.run.new.self refl run)
    c.run.ensures.is_safe
