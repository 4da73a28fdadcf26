-- What the lines of a frame amount to if blocks are held that cannot be proved yet.
use Rattle.std.specs.Prelude.{ℕ, ◌<◌, Bool, true, false, List, length, Some, is_some}
use Rattle.std.specs.List.{list_any}
use Rattle.session.specs.Blocks.{BlocksSeen}
use Rattle.holdings.specs.declared.holding.Hold.{Hold}
use Rattle.holdings.specs.declared.holding.Hold.TheVariants as hold
use Rattle.holdings.specs.declared.run.Run.{Run}
use Rattle.holdings.specs.declared.run.Settled.{Settled}
use Rattle.holdings.specs.declared.run.Settled.TheVariants as settled
use Rattle.replays.specs.declared.said.Said.{Said}
use Rattle.replays.specs.declared.said.Said.TheVariants as said
use Rattle.replays.specs.Outcome.{is_refusal, is_no_memory}

-- entry m is there, if it speaks of one
abbrev pub IsOfEntry : Said → Type 0
IsOfEntry (said.Entry v m r) = m < length v.refusals
IsOfEntry (said.Unproved v m h file) = m < length v.refusals
IsOfEntry s = Unit {0}

-- a line says `refused` or `dropped`
abbrev pub hold_refuses : Hold → Bool
hold_refuses (hold.Held dropped) = is_some dropped
hold_refuses hold.Known = true
hold_refuses hold.NoMemory = true

-- the line says `false`
abbrev pub is_false : Settled → Bool
is_false (settled.Proved run) = false
is_false (settled.False run) = true

-- a line of it says `refused`, `bad frame`, `false` or `dropped`
abbrev pub said_refuses : Said → Bool
said_refuses (said.Report d) = is_refusal d
said_refuses (said.Entry v m r) = is_some r
said_refuses (said.Unproved v m h file) = hold_refuses h
said_refuses (said.Settling file e) = is_false e
said_refuses said.Lacking = true

-- memory was refused to hold the block
abbrev pub hold_lacks : Hold → Bool
hold_lacks (hold.Held dropped) = false
hold_lacks hold.Known = false
hold_lacks hold.NoMemory = true

-- a line of it says that memory was refused
abbrev pub said_lacks : Said → Bool
said_lacks (said.Report d) = is_no_memory d
said_lacks (said.Entry v m r) = false
said_lacks (said.Unproved v m h file) = hold_lacks h
said_lacks (said.Settling file e) = false
said_lacks said.Lacking = true

-- a line of all that is told says one of these
abbrev pub any_refuses : List Said → Bool
any_refuses told = list_any said_refuses told

abbrev pub any_lacks : List Said → Bool
any_lacks told = list_any said_lacks told
