use Rattle.std.proofs.Common.{rules}
use Rattle.opening.proofs.info.layers.Goals as goal

pub returns-in_err-dictionary-in-Some : goal.returns-in_err-dictionary-in-Some
returns-in_err-dictionary-in-Some c = search rules

pub returns-in_ok-dictionary-in-Some : goal.returns-in_ok-dictionary-in-Some
returns-in_ok-dictionary-in-Some c = search rules

pub returns-in-None : goal.returns-in-None
returns-in-None c = search rules
