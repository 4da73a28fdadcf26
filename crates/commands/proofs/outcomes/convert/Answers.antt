use Rattle.std.proofs.Common.{refl}
use Rattle.conversions.specs.declared.fault.ConvertFault.TheVariants.{Truncated}
use Rattle.commands.proofs.outcomes.convert.Goals as goal

pub returns-in-Err-Truncated : goal.returns-in-Err-Truncated
returns-in-Err-Truncated g c =
    let fails = rw c.in-Err-Truncated.field-0-is at c.in-Err-Truncated.ensures.ending in
    (Truncated, fails, (refl, refl))
