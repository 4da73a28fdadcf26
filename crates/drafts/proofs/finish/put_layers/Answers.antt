use Rattle.std.proofs.Common.{sym, ap, ◌∙◌}
use Rattle.std.proofs.lemmas.Map.Iter.{rest_all, rest_more}
use Rattle.std.specs.Map.Iter.{deref_pair}
use Rattle.benc.specs.Text.{pairs_spelling}
use Rattle.drafts.specs.DraftSeen.{outline_layers}
use Rattle.drafts.specs.Written.{pairs_of_layers}
use Rattle.drafts.proofs.DraftText.{layers_step}
use Rattle.drafts.proofs.Penned.{put_all, put_on, put_start}
use Rattle.drafts.proofs.finish.put_layers.Goals as goal

pub roots-init : goal.roots-init
roots-init g c = put_start _ _ (ap (λ es. pairs_spelling (pairs_of_layers (outline_layers c.args.piece_length es)))
    (sym c.into_iter-root-iterator.ensures.into_iter_gives.0))

pub roots-preserved : goal.roots-preserved
roots-preserved g c =
    let p = c.args.piece_length in
    let more = rest_more deref_pair c.roots.root-iterator c.next.new.self c.next.result (c.in-Some.root, c.in-Some.kept) c.in-Some.is c.next.ensures.steps in
    put_on (pairs_spelling (pairs_of_layers (outline_layers p c.next.new.self))) c.roots.invariant c.put_layer.ensures
    (ap (λ es. pairs_spelling (pairs_of_layers (outline_layers p es))) more ∙ layers_step p (c.in-Some.root.now, c.in-Some.kept.now) c.next.new.self)

pub returns : goal.returns
returns g c =
    put_all c.roots.invariant (ap (λ es. pairs_spelling (pairs_of_layers (outline_layers c.args.piece_length es)))
    (rest_all deref_pair c.roots.root-iterator c.next.new.self c.next.result c.in-None.is c.next.ensures.steps))
