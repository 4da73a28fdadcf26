use Rattle.std.proofs.Common.{◌+◌, ap, sym}
use Rattle.std.specs.Option.{option_map}
use Rattle.parts.proofs.row.numbered.Goals as goal

pub returns-in-Some : goal.returns-in-Some
returns-in-Some c = sym (ap (option_map (λ n. c.args.from + n)) c.in-Some.is)
