use Rattle.btcheck_c.proofs.Taking.{answer_given}
use Rattle.btcheck_c.proofs.ask_calls.answer_to.Goals as goal

pub returns : goal.returns
returns c = answer_given c.args.session.now c.args.ask.now c.answer.result c.ok.result c.ok.ensures.value c.answer.ensures.answer c.answer.ensures.no_memory
