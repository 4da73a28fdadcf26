use Rattle.commands.proofs.outcomes.new_session.Goals as goal

pub returns-clause-fresh : goal.returns-clause-fresh
returns-clause-fresh c = c.in_ok-new.ensures.fresh
