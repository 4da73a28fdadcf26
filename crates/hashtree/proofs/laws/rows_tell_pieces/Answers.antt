use Rattle.std.proofs.Common.{◌≡◌, ◌+◌, [], ◌∙◌, sym, get_or}
use Rattle.hashtree.specs.Pieces.{piece_nodes}
use Rattle.hashtree.specs.Tree.{node}
use Rattle.hashtree.proofs.RowNodes.{row_node}
use Rattle.hashtree.proofs.laws.rows_tell_pieces.Goals as goal

pub returns : goal.returns
returns c = λ file own rest layer from j hashes good other judged at low there whole bit.
    let same : get_or (piece_nodes layer own) j [] ≡ node file layer (from + j) = row_node file own rest layer from j at low there whole in
    let tells = judged.marked j bit in (
      λ is. sym same ∙ (tells.0 is).1,
      λ e. tells.1 (there, same ∙ e),
    )
