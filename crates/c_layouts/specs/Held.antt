-- What is laid out of blocks that are held, and of what became of them.
use Rattle.std.specs.Prelude.{◌≡◌, ℕ, ◌-◌, ◌^◌, set, replicate, Option, Some, None}
use Rattle.session.specs.Blocks.{BlocksSeen}
use Rattle.holdings.specs.declared.holding.Hold.{Hold}
use Rattle.holdings.specs.declared.holding.Hold.TheVariants as hold
use Rattle.holdings.specs.declared.run.Run.{Run}
use Rattle.holdings.specs.declared.run.Settled.{Settled}
use Rattle.holdings.specs.declared.run.Settled.TheVariants as settled
use Rattle.c_layouts.specs.Blocks.{AreBlocksLaidOut}
use Rattle.c_layouts.specs.declared.held_info.HeldInfo.{HeldInfo}
use Rattle.c_layouts.specs.declared.held_info.RunInfo.{RunInfo}

-- the same blocks, as C has them
abbrev pub run_info : Run → RunInfo
run_info run = record { tree = run.tree; first = run.first; last = run.last }

-- no blocks: the tree has the greatest number
abbrev pub no_run : RunInfo
no_run = record { tree = 2 ^ 64 - 1; first = 0; last = 0 }

-- the piece that gave way, if one did
abbrev pub dropped_info : Option Run → RunInfo
dropped_info None = no_run
dropped_info (Some run) = run_info run

-- the blocks of a message, of which nothing is held
pub record IsUnheld (v : BlocksSeen) (out : HeldInfo) : Type 0 where
  pub blocks : AreBlocksLaidOut v out.blocks
  pub dropped : out.dropped ≡ replicate 17 no_run

-- with another status of entry m
abbrev pub with_status : HeldInfo → ℕ → ℕ → HeldInfo
with_status out m status = record out {
  blocks = record out.blocks { statuses = set out.blocks.statuses m status };
}

-- with what became of entry m, whose block was to be held
abbrev pub with_hold : HeldInfo → ℕ → Hold → HeldInfo
with_hold out m (hold.Held dropped) =
    record (with_status out m 11) { dropped = set out.dropped m (dropped_info dropped) }
with_hold out m hold.Known = out
with_hold out m hold.NoMemory = with_status out m 2

-- the blocks that were settled: 0 if they are proved, 10 if they are false
abbrev pub HasSettled : Settled → ℕ → RunInfo → Type 0
HasSettled (settled.Proved r) status run = (status ≡ 0) × (run ≡ run_info r)
HasSettled (settled.False r) status run = (status ≡ 10) × (run ≡ run_info r)
