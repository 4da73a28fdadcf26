use Rattle.std.proofs.Common.{◌≡◌, ◌≤◌, length, map, take, vec_capacity, vec_len}
use Rattle.std.specs.List.{AllZip}
use Rattle.command_line.specs.CommandLine.{IsLeaf}
use Rattle.command_line.specs.Table.{leaf_of}
use Rattle.command_line.proofs.definition.leaves.Given as goal

-- the commands of the rows so far, with room for the rest
abbrev pub invariant-loop-row : goal.invariant-loop-row
invariant-loop-row l = AllZip IsLeaf (map leaf_of (take l.row-index l.rows)) l.leaves.items
    × (vec_len l.leaves ≡ l.row-index) × (length l.rows ≤ vec_capacity l.leaves)
