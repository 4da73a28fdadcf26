use Rattle.std.proofs.Common.{◌∙◌, refl, sym, subst, inl, inr}
use Rattle.std.specs.Prelude.{IsTrue}
use Rattle.std.proofs.lemmas.Bool.{false≢true}
use Rattle.std.proofs.lemmas.Option.{slice_get_within}
use Rattle.btcheck_c.specs.Taken.{HasTreeBlock}
use Rattle.btcheck_c.proofs.TreeBlocks.{block_of}
use Rattle.btcheck_c.proofs.ask_calls.want.Goals as goal
use Rattle.btcheck_c.proofs.ask_calls.want.Goals.{After-has_block}

has : (c : After-has_block) → IsTrue c.has_block.result → HasTreeBlock c.args.session.now.torrent c.args.tree c.args.block
has c is = subst (λ d. HasTreeBlock d c.args.tree c.args.block) c.torrent.ensures (c.has_block.ensures.0 is)

pub want-requires-clause-tree : goal.want-requires-clause-tree
want-requires-clause-tree c =
    let (e, there, low) = has (goal.at.want-requires-clause-tree c).After-has_block c.if-has_block.true in
    slice_get_within c.args.session.now.torrent.trees c.args.tree e there

pub want-requires-clause-block : goal.want-requires-clause-block
want-requires-clause-block c = λ e there. block_of c.args.session.now.torrent c.args.tree c.args.block e there
    (has (goal.at.want-requires-clause-block c).After-has_block c.if-has_block.true)

pub returns-then-has_block-clause-done : goal.returns-then-has_block-clause-done
returns-then-has_block-clause-done c = (
  refl,
  inl (
    has (goal.at.returns-then-has_block-clause-done c).After-has_block c.if-has_block.true,
    (c.want.result, c.write_want.ensures.done, c.want.ensures),
  ),
)

pub returns-else-has_block-clause-done : goal.returns-else-has_block-clause-done
returns-else-has_block-clause-done c = (
  refl,
  inr (
    refl,
    λ has. false≢true (sym c.if-has_block.false
        ∙ c.has_block.ensures.1 (subst (λ d. HasTreeBlock d c.args.tree c.args.block) (sym c.torrent.ensures) has)),
  ),
)
