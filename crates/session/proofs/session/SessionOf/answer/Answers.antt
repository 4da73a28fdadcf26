use Rattle.session.proofs.KeptTrees.{IsKeptTree, tree_of_number}
use Rattle.session.proofs.Numbering.{no_root, answer_all, answer_memory}
use Rattle.session.proofs.session.SessionOf.answer.Given.{Over}
use Rattle.session.proofs.session.SessionOf.answer.Goals as goal
use Rattle.session.proofs.session.SessionOf.answer.Goals.{After-index}

here : (g : Over) (c : After-index g) → IsKeptTree (g.T.HoldsTorrent.described c.self.inside.torrent) c.self.inside.trees.items c.self.inside.asks
    c.args.self.now c.in-Some.number c.index.result.now
here g c = tree_of_number c.self.inside.asks _ _ c.self.invariant _ c.self.view_is _ c.in-Some.ensures.within c.index.result.now
    c.index.ensures

pub returns-in-None-clause-answer : goal.returns-in-None-clause-answer
returns-in-None-clause-answer g c = λ answered.
    no_root c.args.self.now c.args.ask.now.root c.number_of.result c.number_of.ensures.only c.in-None.is answered.0.number answered.0.tree
    answered.0.is_tree.tree_is answered.0.has_root

pub returns-in-Some-clause-answer : goal.returns-in-Some-clause-answer
returns-in-Some-clause-answer g c =
    answer_all (here g (goal.at.returns-in-Some-clause-answer g c).After-index) c.args.ask.now c.in-Some.ensures.found c.recall_distinct_roots.ensures
    c.answer.result c.answer.ensures.answer

pub returns-in-Some-clause-no_memory : goal.returns-in-Some-clause-no_memory
returns-in-Some-clause-no_memory g c =
    answer_memory (here g (goal.at.returns-in-Some-clause-no_memory g c).After-index) c.args.ask.now c.in-Some.ensures.found c.answer.result
    c.answer.ensures.no_memory
