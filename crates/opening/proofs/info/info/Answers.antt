use Rattle.std.proofs.Common.{rules}
use Rattle.opening.proofs.info.info.Goals as goal

pub returns-in_err-dictionary : goal.returns-in_err-dictionary
returns-in_err-dictionary c = search rules

pub returns-in_err-info : goal.returns-in_err-info
returns-in_err-info c = search rules

pub returns-in_err-dictionary-2 : goal.returns-in_err-dictionary-2
returns-in_err-dictionary-2 c = search rules

pub returns : goal.returns
returns c = search rules
