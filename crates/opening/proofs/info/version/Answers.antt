use Rattle.std.proofs.Common.{rules}
use Rattle.opening.proofs.info.version.Goals as goal

pub returns-in_err-version : goal.returns-in_err-version
returns-in_err-version c = search rules

pub returns-in_err-integer : goal.returns-in_err-integer
returns-in_err-integer c = search rules

pub returns-then-branch-ne-META_VERSION : goal.returns-then-branch-ne-META_VERSION
returns-then-branch-ne-META_VERSION c = search rules

pub returns : goal.returns
returns c = search rules
