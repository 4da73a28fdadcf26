use Rattle.std.proofs.Common.{below_more}
use Rattle.partial_tree.proofs.growing.adopting.agree_in_row.Goals as goal

pub places-preserved : goal.places-preserved
places-preserved g c = below_more _ _ c.places.invariant c.if-not-agree_at.ensures.same
