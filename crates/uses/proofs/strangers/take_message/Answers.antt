use Rattle.uses.proofs.Steps.{takes-true}
use Rattle.uses.proofs.strangers.take_message.Goals as goal

pub returns-clause-true_is_taken : goal.returns-clause-true_is_taken
returns-clause-true_is_taken g c = takes-true c.args.session.now c.args.message.now c.step.result c.step.new.self c.step.ensures.is_safe
