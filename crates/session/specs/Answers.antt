-- What a session answers to a hash request (BEP 52, "hash request").
use Rattle.wire.specs.declared.message.Ask.{Ask}
use Rattle.partial_tree.specs.declared.answer.Answer.{Answer}
use Rattle.partial_tree.specs.declared.answer.Answer.TheVariants as answer
use Rattle.node_maps.specs.Places.{tree_height}
use Rattle.partial_tree.specs.Answers.{IsTreeAnswer}
use Rattle.node_maps.specs.Known.{look}
use Rattle.session.specs.Session.{SessionSeen, IsAsked, IsAnswered}

-- the hashes with which the tree of the ask answers, else a reject
abbrev pub IsAnswerTo : SessionSeen → Ask → Answer → Type 0
IsAnswerTo S ask (answer.Hashes hashes) = (a : IsAsked S ask)
    × IsTreeAnswer (tree_height a.tree.length) (look a.state.known) ask (answer.Hashes hashes)
IsAnswerTo S ask answer.Reject = ¬ IsAnswered S ask
