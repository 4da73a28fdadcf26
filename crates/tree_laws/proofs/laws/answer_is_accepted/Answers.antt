use Rattle.tree_laws.proofs.Answers.{answer-stored}
use Rattle.tree_laws.proofs.laws.answer_is_accepted.Goals as goal

pub returns : goal.returns
returns c = answer-stored
