use Rattle.std.proofs.Common.{refl, inr, subst, sym}
use Rattle.opening.specs.Description.{Description}
use Rattle.opening.specs.Trees.{IsTreeWithRoot}
use Rattle.btcheck_c.proofs.frame_taking.look_at_root.Goals as goal

pub returns-in_default : goal.returns-in_default
returns-in_default c = inr (
  λ n has. c.in_default.not-Some n (c.tree_with_root.ensures.only n
      (subst (λ (d : Description). IsTreeWithRoot d.trees c.args.root.now n) (sym c.torrent.ensures) has)),
  refl,
)
