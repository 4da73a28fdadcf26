use Rattle.std.proofs.Common.{rules, not, IsTrue, ◌↔◌, ◌≤◌, ◌^◌, length}
use Rattle.folders.proofs.root.root_line_onto.Goals as goal

pub returns-in-Ok-say_reading-clause-ends : goal.returns-in-Ok-say_reading-clause-ends
returns-in-Ok-say_reading-clause-ends g c =
    let content = c.in-Ok.ensures.content in
    let within : IsTrue (not c.match-matches.matches) ↔ (length content.0 ≤ 2 ^ 46) = search rules in
    record { file = content.0; is_file = content.1; is_within = within; sent = c.in-Ok-say_reading.ensures content.0 content.2 }

pub returns-in-Ok-say_reading-clause-faults : goal.returns-in-Ok-say_reading-clause-faults
returns-in-Ok-say_reading-clause-faults g c =
    let content = c.in-Ok.ensures.content in
    (c.in-Ok.ensures.counts, (c.in-Ok-say_reading.ensures content.0 content.2).faults)

pub returns-in-Err-clause-faults : goal.returns-in-Err-clause-faults
returns-in-Err-clause-faults g c =
    let content = c.in-Ok.ensures.content in
    (c.in-Ok.ensures.counts, (c.in-Err.ensures content.0 content.2).faults)
