use Rattle.btcheck_c.proofs.holding.pieces_of.Goals as goal

pub returns : goal.returns
returns c = record {
  tree_is = c.of_blocks.ensures.tree;
  tree = c.of_blocks.ensures.from.0;
  there = c.of_blocks.ensures.from.1;
  from_is = c.of_blocks.ensures.from.2;
  end_is = c.of_blocks.ensures.end;
}
