use Rattle.session_laws.proofs.Replayed.{conversion_runs, form_1_runs, conversion_replays}
use Rattle.session_laws.proofs.OneRun.{one_run, replay_of_conversion}
use Rattle.session_laws.proofs.laws.conversion_replays_as_form_1.Goals as goal

pub returns : goal.returns
returns c = record {
  runs = conversion_runs;
  back = form_1_runs;
  replays = conversion_replays;
  one = one_run;
  same = replay_of_conversion;
}
