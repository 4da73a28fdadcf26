use Rattle.std.proofs.Common.{sym, ◌∙◌}
use Rattle.session_exports.proofs.Leaves.{window-unknown, none_of}
use Rattle.session_exports.proofs.search.after_unknown.Goals as goal

pub returns-then-is_none-clause-unknown : goal.returns-then-is_none-clause-unknown
returns-then-is_none-clause-unknown g c =
    let (s, there, is) = c.hash_at.ensures in
    window-unknown c.args.session.now c.args.tree c.args.block s c.recall_closed_trees.ensures there c.args.blocks c.requires.blocks
    c.if-blocks-gt-WINDOW.true (sym is ∙ none_of c.hash_at.result c.if-is_none.ensures)
