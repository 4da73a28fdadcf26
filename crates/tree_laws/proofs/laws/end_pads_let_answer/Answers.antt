use Rattle.tree_laws.proofs.EndPads.{short-answered, wanted-short, row-brings, pads-stay_known}
use Rattle.tree_laws.proofs.laws.end_pads_let_answer.Goals as goal

pub returns-clause-answers : goal.returns-clause-answers
returns-clause-answers c = λ t K ask closed all pads short. short-answered t K ask closed all pads short

pub returns-clause-wanted : goal.returns-clause-wanted
returns-clause-wanted c = wanted-short

pub returns-clause-brought : goal.returns-clause-brought
returns-clause-brought c = row-brings

pub returns-clause-stay : goal.returns-clause-stay
returns-clause-stay c = pads-stay_known
