use Rattle.std.proofs.Common.{refl}
use Rattle.real_files.proofs.output.create_output.Goals as goal

pub returns-then-is_input : goal.returns-then-is_input
returns-then-is_input c = refl

pub returns-in-Err : goal.returns-in-Err
returns-in-Err c = refl
