use Rattle.std.proofs.Common.{◌≡◌, ◌≤◌, ◌∙◌, arith, ap, sym, subst, length, take}
use Rattle.hashtree.specs.Tree.{block_count, first_pad, height, layer_of}
use Rattle.hashtree.specs.Difference.{IsComparison}
use Rattle.hashtree.specs.Pieces.{piece_nodes}
use Rattle.std.proofs.lemmas.List.{take_all}
use Rattle.hashtree.proofs.Marking.{length-piece_nodes}
use Rattle.hashtree.proofs.PieceChecks.{as_row}
use Rattle.hashtree.proofs.PieceNodes.{layer_is_pieces}
use Rattle.hashtree.proofs.piece_check.PieceCheck.finish.Goals as goal

pub ended-requires-clause-some : goal.ended-requires-clause-some
ended-requires-clause-some c = omega (arith, c.requires, c.args.self.some)

pub returns : goal.returns
returns c = λ file at.
    let layer = c.args.self.layer in
    let hashes = c.args.self.hashes.now in
    let size : length file ≡ c.args.self.shape = sym at.fed.at.length_is ∙ c.requires in
    let given : first_pad (block_count (length file)) c.args.self.layer ≡ length c.args.self.hashes.now =
    ap (λ n. first_pad (block_count n) c.args.self.layer) size ∙ sym at.whole in
    let fits : first_pad (block_count (length file)) c.args.self.layer ≤ length c.args.self.hashes.now = omega (arith, given) in
    let found = c.ended.ensures file at.fed fits at.nodes (as_row c.args.self file at).marked in
    let low : c.args.self.layer ≤ height (block_count (length file)) = subst (λ s. c.args.self.layer ≤ height (block_count s)) (sym size) at.in_tree in
    let same : piece_nodes c.args.self.layer file ≡ layer_of file c.args.self.layer = sym (layer_is_pieces file c.args.self.layer low) in
    let count : length (layer_of file c.args.self.layer) ≡ length c.args.self.hashes.now =
    ap length (sym same) ∙ length-piece_nodes c.args.self.layer file ∙ given in (
      found.0,
      found.1,
      record {
        size_is = count;
        compared = subst (λ t. IsComparison (layer_of file layer) t c.ended.result.2) (take_all (length (layer_of file layer)) hashes (omega (arith, count)))
            (subst (λ t. IsComparison t (take (length t) hashes) c.ended.result.2) same found.2.compared);
      },
    )
