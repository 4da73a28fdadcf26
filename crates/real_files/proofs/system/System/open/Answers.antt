use Rattle.std.proofs.Common.{refl}
use Rattle.real_files.proofs.system.System.open.Goals as goal

pub returns-in-Err : goal.returns-in-Err
returns-in-Err c = refl
