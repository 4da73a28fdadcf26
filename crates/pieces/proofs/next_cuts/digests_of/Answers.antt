use Rattle.std.proofs.Common.{◌+◌, ◌-◌, ◌*◌, ◌<◌, ◌++◌, [], ap, ap₂, ◌∙◌, arith}
use Rattle.std.proofs.lemmas.List.{get_or-replicate}
use Rattle.sha1.specs.Sha1.{sha1}
use Rattle.sha1_lanes.specs.Batches.{filled_at}
use Rattle.lanes.specs.declared.words.TheConstants.{LANES}
use Rattle.pieces.proofs.Known.{not_filled}
use Rattle.pieces.proofs.next_cuts.digests_of.Goals as goal

pub returns : goal.returns
returns c i lt =
    let bytes = c.args.bytes.now in
    let size = c.args.size in
    let j = LANES - c.args.count + i in
    let below : LANES - c.args.count + i < LANES = omega (arith, lt, c.requires.few) in
    c.finish.ensures j below _ (c.update.ensures j below [] (c.new-batch.ensures j below))
    ∙ ap₂ (λ start own. sha1 ([] ++ filled_at bytes start own size)) (c.starts_of-starts.ensures.starts i lt) (get_or-replicate LANES j size 0 below)
    ∙ ap sha1 (not_filled bytes (i * size) size)
