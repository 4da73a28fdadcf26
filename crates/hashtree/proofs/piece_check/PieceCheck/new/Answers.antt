use Rattle.std.proofs.Common.{arith, ◌≤◌, ◌-◌, ◌%◌, [], subst, sym}
use Rattle.std.proofs.lemmas.Nat.Bits.{bit_at-zero}
use Rattle.hashtree.specs.Tree.{block_count, height}
use Rattle.hashtree.proofs.PieceChecks.{as_check}
use Rattle.hashtree.proofs.Heights.{height_least}
use Rattle.hashtree.proofs.piece_check.PieceCheck.new.Goals as goal

pub of_row-requires-clause-low : goal.of_row-requires-clause-low
of_row-requires-clause-low c =
    let most : height (block_count c.args.shape) ≤ 32 = height_least (block_count c.args.shape) 32 (omega arith) in
    omega (arith, c.requires.in_tree, most)

pub returns : goal.returns
returns c =
    let begins = c.of_row.ensures in
    let layer : c.args.layer ≤ height (block_count c.of_row.result.shape) =
    subst (λ s. c.args.layer ≤ height (block_count s)) (sym begins.shape_is) c.requires.in_tree in
    record {
      count = begins.count;
      shape_is = begins.shape_is;
      layer_is = begins.layer_is;
      hashes_are = begins.hashes_are;
      fed = as_check c.of_row.result [] (begins.fed [] (λ k. bit_at-zero (7 - k % 8)))
          (subst (λ l. l ≤ height (block_count c.of_row.result.shape)) (sym begins.layer_is) layer);
    }
