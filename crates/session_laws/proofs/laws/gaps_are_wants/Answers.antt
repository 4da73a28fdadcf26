use Rattle.session.proofs.RoundRuns.{no_gap-nothing_wanted, nothing_wanted-no_gap, wanted-root}
use Rattle.session_laws.proofs.laws.gaps_are_wants.Goals as goal

pub returns : goal.returns
returns c = record {
  none = no_gap-nothing_wanted;
  all = nothing_wanted-no_gap;
  root = wanted-root;
}
