use Rattle.std.proofs.Common.{◌≡◌, ◌≤◌, ◌^◌, ◌∙◌, ◌++◌, add-one, ap, sym, arith, rules, length}
use Rattle.std.proofs.Math.Pow.{pow_mono}
use Rattle.sha2.specs.Sha256.{sha256}
use Rattle.hashtree.specs.Pieces.{piece_node}
use Rattle.hashtree.specs.Tree.{block_count, height}
use Rattle.hashtree.proofs.Heights.{height_enough}
use Rattle.hashtree.proofs.PieceNodes.{root_over_piece}
use Rattle.gathering.proofs.Halves.{piece_node_up}
use Rattle.gathering.proofs.lifting.lifted.Goals as goal

pub layers-init : goal.layers-init
layers-init c =
    let e : c.height-height.result ≡ height (block_count c.args.size) = search rules in (
      omega (arith, e),
      λ piece len root.
          root ∙ root_over_piece piece ∙ ap (λ n. piece_node (height (block_count n)) piece) len ∙ ap (λ h. piece_node h piece) (sym e),
    )

pub layers-preserved : goal.layers-preserved
layers-preserved c = (
  omega (arith, c.layers.invariant.0),
  λ piece len root.
      let m = c.layers.below in
      let fits : block_count (length piece) ≤ 2 ^ height (block_count (length piece)) = height_enough (block_count (length piece)) in
      let up : 2 ^ height (block_count c.args.size) ≤ 2 ^ c.layers.below = pow_mono {i = height (block_count c.args.size)} {j = c.layers.below}
      c.layers.invariant.0 in
      let same : 2 ^ height (block_count (length piece)) ≡ 2 ^ height (block_count c.args.size) = ap (λ n. 2 ^ height (block_count n)) len in
      let few : block_count (length piece) ≤ 2 ^ c.layers.below = omega (arith, fits, up, same) in
      c.parent-node.ensures
      ∙ ap (λ x. sha256 (x ++ c.zero.result)) (c.layers.invariant.1 piece len root)
      ∙ ap (λ x. sha256 (piece_node c.layers.below piece ++ x)) c.zero.ensures
      ∙ sym (piece_node_up c.layers.below piece few)
      ∙ ap (λ k. piece_node k piece) (sym (add-one c.layers.below)),
)
