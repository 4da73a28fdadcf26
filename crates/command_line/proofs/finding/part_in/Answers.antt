use Rattle.std.proofs.Common.{rules}
use Rattle.command_line.proofs.finding.part_in.Goals as goal

pub returns-then-part : goal.returns-then-part
returns-then-part c = record {
  number = search rules;
  count = search rules;
  some = c.if-part-ge1.true;
  there = c.if-part.true;
}
