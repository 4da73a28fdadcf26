use Rattle.std.proofs.Common.{◌≡◌, IfSome, ap, ◌∙◌, subst}
use Rattle.hashtree.specs.Tree.{block_count, height}
use Rattle.pieces.specs.Pieces.{IsPieceLength}
use Rattle.opening.specs.PieceLayers.{piece_layer}
use Rattle.session.proofs.FirstLayers.{accepted, planted_layers}
use Rattle.session.proofs.planting.add_layers.Goals as goal

pub plant-requires-clause-accepted : goal.plant-requires-clause-accepted
plant-requires-clause-accepted g c =
    let at : c.height-layer.result ≡ piece_layer c.args.piece_length = c.height-layer.ensures.value
    ∙ ap (λ n. height (block_count n)) (subst (λ o. IfSome o (λ s. s ≡ c.bytes.result)) c.unwrap.ensures c.of.ensures.value ∙ c.bytes.ensures.value) in
    accepted c.args.piece_length _ (subst IsPieceLength c.bytes.ensures.value c.bytes.ensures.legal) c.requires.sound c.requires.longer c.args.tree.now
    c.requires.planted c.height-layer.result at

pub returns : goal.returns
returns g c =
    let at : c.height-layer.result ≡ piece_layer c.args.piece_length = c.height-layer.ensures.value
    ∙ ap (λ n. height (block_count n)) (subst (λ o. IfSome o (λ s. s ≡ c.bytes.result)) c.unwrap.ensures c.of.ensures.value ∙ c.bytes.ensures.value) in
    planted_layers c.args.piece_length _ (subst IsPieceLength c.bytes.ensures.value c.bytes.ensures.legal) c.requires.sound c.requires.longer c.args.tree.now
    c.requires.planted c.height-layer.result at
    c.plant.new.self _ c.recall_hashes.ensures c.in_ok-plant.ensures.planted
