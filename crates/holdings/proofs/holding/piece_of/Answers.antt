use Rattle.std.proofs.Common.{◌≡◌, ◌-◌, ◌*◌, ◌%◌, ◌≤◌, ◌^◌, Some, sym, ap, ◌∙◌, subst, arith}
use Rattle.std.proofs.lemmas.Nat.{one_shl}
use Rattle.std.proofs.lemmas.Option.{same_Some}
use Rattle.hashtree.specs.Tree.{block_count}
use Rattle.node_maps.specs.Places.{tree_height}
use Rattle.partial_tree.specs.LeafRows.{IsLeafRow}
use Rattle.partial_tree.specs.TreeRoot.{TreeRoot}
use Rattle.session.specs.Pieces.{piece_span}
use Rattle.holdings.proofs.PieceRow.{row-of_block}
use Rattle.holdings.proofs.holding.piece_of.Goals as goal

pub returns-clause-piece : goal.returns-clause-piece
returns-clause-piece g c =
    let (t, there, span) = c.piece_span.ensures.value in
    let (u, at, count) = c.blocks-blocks.ensures.value in
    let same : u ≡ t = same_Some u t (sym at ∙ there) in
    let few : c.piece_span.result ≤ 32 = c.piece_span.ensures.bound in
    let wide : 1 * 2 ^ c.piece_span.result % 18446744073709551616 ≡ 2 ^ c.piece_span.result = one_shl c.piece_span.result 64 (omega (arith, few)) in
    let inside : c.piece_span.result ≤ tree_height t.length = omega (arith, span) in
    let blocks : c.blocks-blocks.result ≡ block_count t.length = count ∙ ap (λ (v : TreeRoot). block_count v.length) same in
    let row = row-of_block t.length c.args.block c.piece_span.result
    (1 * 2 ^ c.piece_span.result % 18446744073709551616) c.min-size.result c.blocks-blocks.result inside wide blocks
    (c.requires.block t there) c.min-size.ensures in (
      t,
      there,
      subst (λ k.
          IsLeafRow t.length (c.args.block - c.args.block % (1 * 2 ^ c.piece_span.result % 18446744073709551616)) k c.min-size.result) span row,
    )
