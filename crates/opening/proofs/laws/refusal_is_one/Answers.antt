use Rattle.opening.proofs.Answering.{refusal_is_one}
use Rattle.opening.proofs.laws.refusal_is_one.Goals as goal

pub returns : goal.returns
returns c = refusal_is_one c.no_spelling_begins_another.ensures c.spelling_has_no_fault.ensures c.fault_is_one.ensures
