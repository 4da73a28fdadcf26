use Rattle.std.proofs.Common.{rules}
use Rattle.conversions.proofs.converting.write_header.Goals as goal

pub returns-in_err-write_all : goal.returns-in_err-write_all
returns-in_err-write_all g c = search rules

pub returns : goal.returns
returns g c = search rules
