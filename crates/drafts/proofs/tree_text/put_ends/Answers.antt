use Rattle.std.proofs.lemmas.List.{replicate_more}
use Rattle.drafts.proofs.Penned.{put_as, put_both}
use Rattle.drafts.proofs.tree_text.put_ends.Goals as goal

pub ends-preserved : goal.ends-preserved
ends-preserved g c = put_as _ (put_both c.ends.invariant c.put.ensures) (replicate_more c.ends.counter 101)
