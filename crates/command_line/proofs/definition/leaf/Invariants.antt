use Rattle.std.proofs.Common.{map, take}
use Rattle.command_line.specs.CommandLine.{IsLeaf, command}
use Rattle.command_line.specs.Table.{rule_of_row}
use Rattle.command_line.proofs.definition.leaf.Given as goal

-- the command has the arguments of the rows so far
abbrev pub invariant-loop-name : goal.invariant-loop-name
invariant-loop-name l = IsLeaf (command l.row.name.now (map rule_of_row (take l.name-index l.name-items))) l.command
