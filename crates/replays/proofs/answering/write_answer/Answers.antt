use Rattle.std.proofs.Common.{rules}
use Rattle.replays.proofs.answering.write_answer.Goals as goal

pub returns-in-Hashes : goal.returns-in-Hashes
returns-in-Hashes g c = search rules
