use Rattle.std.proofs.Common.{rules}
use Rattle.opening.proofs.info.all_present.Goals as goal

pub returns-in_err-tree : goal.returns-in_err-tree
returns-in_err-tree c = search rules

pub returns-in_err-name : goal.returns-in_err-name
returns-in_err-name c = search rules

pub returns-in_err-piece_length : goal.returns-in_err-piece_length
returns-in_err-piece_length c = search rules

pub returns : goal.returns
returns c = search rules
