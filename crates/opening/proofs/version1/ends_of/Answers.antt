use Rattle.std.proofs.lemmas.Grind.{common_steps}
use Rattle.std.proofs.Common.{rules, arith}
use Rattle.opening.proofs.version1.ends_of.Goals as goal

pub entries-init : goal.entries-init
entries-init c = search rules

pub offset_bounds-entries-entry-index : goal.offset_bounds-entries-entry-index
offset_bounds-entries-entry-index c = search rules

pub returns-then-is_misplaced : goal.returns-then-is_misplaced
returns-then-is_misplaced c = grind (arith, common_steps)

pub after_entry-ends-requires-clause-stream : goal.after_entry-ends-requires-clause-stream
after_entry-ends-requires-clause-stream c = search rules

pub after_entry-ends-requires-clause-pieces : goal.after_entry-ends-requires-clause-pieces
after_entry-ends-requires-clause-pieces c = search rules

pub entries-preserved : goal.entries-preserved
entries-preserved c = grind (arith, common_steps)

pub returns : goal.returns
returns c = grind (arith, common_steps)
