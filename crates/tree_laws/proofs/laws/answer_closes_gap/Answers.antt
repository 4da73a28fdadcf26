use Rattle.tree_laws.proofs.Wanted.{want-one_fewer, want-fewer}
use Rattle.tree_laws.proofs.laws.answer_closes_gap.Goals as goal

pub returns : goal.returns
returns c = record {
  one = λ t b tall in' K hashes ok. want-one_fewer t b tall in' K hashes ok;
  fewer = λ t b tall in' K hashes ok. want-fewer t b tall in' K hashes ok;
}
