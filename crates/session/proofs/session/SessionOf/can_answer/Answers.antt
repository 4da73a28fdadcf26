use Rattle.std.proofs.lemmas.Bool.{false≢true}
use Rattle.session.proofs.KeptTrees.{IsKeptTree, tree_of_number}
use Rattle.session.proofs.Numbering.{no_root, asked_in, answered_in}
use Rattle.session.proofs.session.SessionOf.can_answer.Given.{Over}
use Rattle.session.proofs.session.SessionOf.can_answer.Goals as goal
use Rattle.session.proofs.session.SessionOf.can_answer.Goals.{After-index}

here : (g : Over) (c : After-index g) → IsKeptTree (g.T.HoldsTorrent.described c.self.inside.torrent) c.self.inside.trees.items c.self.inside.asks
    c.args.self.now c.in-Some.number c.index.result.now
here g c = tree_of_number c.self.inside.asks _ _ c.self.invariant _ c.self.view_is _ c.in-Some.ensures.within c.index.result.now
    c.index.ensures

pub returns-in-None : goal.returns-in-None
returns-in-None g c = (
  λ e. absurd (false≢true e),
  λ answered. absurd (no_root c.args.self.now c.args.ask.now.root c.number_of.result c.number_of.ensures.only c.in-None.is
      answered.0.number answered.0.tree answered.0.is_tree.tree_is answered.0.has_root),
)

pub returns-in-Some : goal.returns-in-Some
returns-in-Some g c =
    let x = here g (goal.at.returns-in-Some g c).After-index in (
      λ e. asked_in x c.args.ask.now c.in-Some.ensures.found (c.can_answer.ensures.0 e),
      λ answered. c.can_answer.ensures.1 (answered_in x c.args.ask.now c.in-Some.ensures.found c.recall_distinct_roots.ensures answered),
    )
