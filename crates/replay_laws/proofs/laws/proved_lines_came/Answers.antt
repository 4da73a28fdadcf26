use Rattle.replay_laws.proofs.Reports.{cut-lines_came, proved-frames_came, proved-lines_came}
use Rattle.replay_laws.proofs.laws.proved_lines_came.Goals as goal

pub returns : goal.returns
returns c = record { frames = proved-frames_came; whole = proved-lines_came; cut = cut-lines_came }
