use Rattle.std.proofs.Common.{◌≡◌, ◌<◌, ◌∙◌, ap, arith, length, refl, rules, sym}
use Rattle.folders.proofs.Layers.{layer_is_low, whole_layer}
use Rattle.hashtree.specs.Tree.{block_count, first_pad, height}
use Rattle.opening.specs.PieceLayers.{piece_layer}
use Rattle.pieces.specs.Pieces.{pieces_of}
use Rattle.assembling.proofs.Saying.{hashed_is}
use Rattle.assembling.proofs.whole.root_of_rows.Goals as goal

pub layer_root-requires-clause-in_tree : goal.layer_root-requires-clause-in_tree
layer_root-requires-clause-in_tree c =
    let layer : c.height-layer.result ≡ piece_layer c.args.piece_length = search rules in
    let shape : c.unwrap-2.result ≡ c.args.length = search rules in
    let over : c.args.piece_length < c.args.length = search rules in
    omega (arith, layer_is_low c.args.piece_length c.args.length (omega (arith, over)), layer, ap (λ n. height (block_count n)) shape)

pub layer_root-requires-clause-whole : goal.layer_root-requires-clause-whole
layer_root-requires-clause-whole c =
    let layer : c.height-layer.result ≡ piece_layer c.args.piece_length = search rules in
    let shape : c.unwrap-2.result ≡ c.args.length = search rules in
    let all : length c.args.rows.now.nodes.items ≡ pieces_of c.args.piece_length c.args.length = c.requires.each.nodes
    ∙ ap (pieces_of c.args.piece_length) (hashed_is c.args.length c.requires.fits) in
    let legal = c.bytes.ensures.legal in
    ap length c.deref.ensures.value ∙ all
    ∙ whole_layer c.args.length c.args.piece_length legal.0 c.height-layer.result (pieces_of c.args.piece_length c.args.length) legal.1
    (sym c.bytes.ensures.value ∙ legal.3) layer refl
    ∙ ap (λ n. first_pad (block_count n) c.height-layer.result) (sym shape)
