use Rattle.std.proofs.Common.{◌≡◌, ◌-◌, drop, length, map, replicate, take}
use Rattle.c_layouts.specs.Blocks.{entry_status}
use Rattle.c_layouts.proofs.blocks_info.lay_out_blocks.Given as goal

-- the statuses of the first entries stand in their places, and no others
abbrev pub invariant-entries : goal.invariant-entries
invariant-entries l = (length l.statuses ≡ 17)
    × (take l.entry l.statuses ≡ map entry_status (take l.entry l.blocks.refusals))
    × (drop l.entry l.statuses ≡ replicate (17 - l.entry) 5)
