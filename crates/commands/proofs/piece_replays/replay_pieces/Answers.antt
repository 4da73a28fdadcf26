use Rattle.commands.proofs.piece_replays.replay_pieces.Goals as goal

pub returns-in-Ok-clause-replayed : goal.returns-in-Ok-clause-replayed
returns-in-Ok-clause-replayed g c = (c.in-Ok.outcome, c.in-Ok.ensures.report, c.status.ensures)
