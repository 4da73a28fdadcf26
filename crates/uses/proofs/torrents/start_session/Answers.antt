use Rattle.uses.proofs.torrents.start_session.Goals as goal

pub returns-in-Ok : goal.returns-in-Ok
returns-in-Ok g c = record {
  fresh = c.in-Ok.ensures.fresh;
  roots = λ n tree s at. (c.recall_closed_trees.ensures.closed n tree s at).root_known;
}
