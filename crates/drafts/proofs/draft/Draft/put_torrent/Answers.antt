use Rattle.std.proofs.Common.{ap, ◌∙◌}
use Rattle.benc.specs.Text.{pairs_spelling, spelling}
use Rattle.drafts.specs.DraftSeen.{outline_layers}
use Rattle.drafts.specs.Outline.{Outline}
use Rattle.drafts.specs.Written.{info_value, pairs_of_layers, value_of}
use Rattle.drafts.proofs.Keys.{torrent_text}
use Rattle.drafts.proofs.Penned.{put_as, put_both}
use Rattle.drafts.proofs.draft.Draft.put_torrent.Goals as goal

pub returns : goal.returns
returns g c =
    let d = c.args.self.now in
    let layers = put_as (pairs_spelling (pairs_of_layers d.layers)) c.put_layers.ensures
    (ap (λ n. pairs_spelling (pairs_of_layers (outline_layers n c.self.inside.roots.entries))) c.bytes.ensures.value
    ∙ ap (λ (o : Outline). pairs_spelling (pairs_of_layers o.layers)) c.self.view_is)
    in
    put_as (spelling (value_of d)) (put_both c.put.ensures (put_both c.put_info.ensures (put_both c.put-2.ensures (put_both layers c.put-3.ensures))))
    (torrent_text (spelling (info_value d)) (pairs_spelling (pairs_of_layers d.layers)))
