-- What a slot owns: nothing, or the memory of a box with this value.
use base.Fml.{Fml, ftrue}
use base.Stored.{Coded}
use denote.RawPtr.{Ptr}
use Rattle.std.specs.Prelude.{Option, Some, None}
use Rattle.std.specs.Coded.{coded_option}
use Rattle.std.specs.Box.Ownership.{box_owns}
use Rattle.std.specs.Global.{Global}
use Rattle.std_heap.specs.contracts.GlobalAllocator.TheImpl.{ghosts}
use Rattle.btcheck_c.specs.contracts.thing.Thing.{the_row}

-- what lies at the pointer of a slot: nothing that is owned, whatever the pointer is; or the boxed
-- thing, with the right to free it
abbrev pub slot_owns : Global → Ptr → Option the_row.Denot → Fml
slot_owns alloc p None = ftrue
slot_owns alloc p (Some x) = box_owns (ghosts.dealloc_token alloc) the_row p x

abbrev pub thing_code : Coded (Option the_row.Denot)
thing_code = coded_option the_row.coded
