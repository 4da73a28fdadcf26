use Rattle.std.proofs.Common.{◌∷◌, ◌++◌, [], sym, ap₂, ◌∙◌, arith}
use Rattle.hashtree.proofs.Blocks.{block_hashes_more}
use Rattle.partial_tree.proofs.piece.leaves_of.Goals as goal

pub numbers-preserved : goal.numbers-preserved
numbers-preserved c = record {
  so_far = c.push_reserved.ensures.items ∙ ap₂ (λ xs d. xs ++ d ∷ []) c.numbers.invariant.so_far c.digest.ensures.value
      ∙ sym (block_hashes_more c.args.bytes.now c.numbers.number);
  stated = omega (arith, c.push_reserved.ensures.len, c.numbers.invariant.stated);
  room = c.push_reserved.ensures.capacity ∙ c.numbers.invariant.room;
  digests = c.digest.ensures.known;
}
