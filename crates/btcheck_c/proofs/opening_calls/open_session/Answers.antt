use Rattle.std.proofs.Common.{refl, inl, inr}
use Rattle.btcheck_c.proofs.opening_calls.open_session.Goals as goal

pub returns-in-Err : goal.returns-in-Err
returns-in-Err c = inl (c.in-Err.refusal, (c.refused_torrent.ensures, c.in-Err.ensures.refused))

pub returns-in-Err-new : goal.returns-in-Err-new
returns-in-Err-new c = inr refl

pub returns-in-Ok-new : goal.returns-in-Ok-new
returns-in-Ok-new c = (c.in-Ok.torrent, (c.in-Ok.ensures.described, (c.in-Ok-new.ensures.fresh, c.recall_closed_trees.ensures)))
