use Rattle.std.proofs.Common.{arith}
use Rattle.node_maps.proofs.paged.add_rows.Goals as goal

pub returns-in_err-push-clause-no_memory : goal.returns-in_err-push-clause-no_memory
returns-in_err-push-clause-no_memory c = λ there. absurd (omega arith)
