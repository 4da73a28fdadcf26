use Rattle.replays.proofs.Named.{run-there}
use Rattle.replays.proofs.by_pieces.pieces_of.Goals as goal

pub blocks-few-requires : goal.blocks-few-requires
blocks-few-requires g c = run-there c.requires

pub of_blocks-requires-clause-tree : goal.of_blocks-requires-clause-tree
of_blocks-requires-clause-tree g c = run-there c.requires
