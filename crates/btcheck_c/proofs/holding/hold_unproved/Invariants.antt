use Rattle.c_layouts.specs.Held.{IsUnheld}
use Rattle.c_layouts.specs.declared.held_info.HeldInfo.{HeldInfo}
use Rattle.btcheck_c.specs.Held.{EntriesHeld}
use Rattle.btcheck_c.proofs.holding.hold_unproved.Given as goal

-- the entries so far are held
abbrev pub invariant-entries : goal.invariant-entries
invariant-entries l = (laid : HeldInfo) × (IsUnheld l.blocks laid
    × EntriesHeld l.session l.tree l.blocks l.bytes l.entry l.fn.held.holdings laid l.held.holdings l.out)
