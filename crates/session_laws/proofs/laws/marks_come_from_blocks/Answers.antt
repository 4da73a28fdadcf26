use Rattle.session_laws.proofs.Marked.{marks-of_run, marks-of_noted_run, known-block}
use Rattle.session_laws.proofs.CalledMarks.{marks-of_calls}
use Rattle.session_laws.proofs.laws.marks_come_from_blocks.Goals as goal

pub returns : goal.returns
returns c = record {
  runs = marks-of_run;
  noted_runs = marks-of_noted_run;
  calls = marks-of_calls;
  leaf = known-block;
}
