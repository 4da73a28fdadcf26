-- What a slot owns is nothing, or a boxed thing, which may go to another thread; and any thread may
-- give the block of a box back.
use mir.Raw.{raw}
use base.Shift.{Keyless}
use denote.Memory.{lone}
use denote.RawPtr.{Ptr}
use denote.Struct.Struct.{exits_of}
use denote.Struct.Owning.{shape, fields, to}
use denote.Param.Send.{IsSend, AllSend, owning_send, struct_send, sendable}
use Rattle.std.proofs.Crossing as heap
use Rattle.std.specs.Global.{Global}
use Rattle.std.specs.Prelude.{Option, Some, None}
use Rattle.std_alloc.proofs.SendSync.{quiet, lies}
use Rattle.std_heap.proofs.Global.TheSendSync as handle
use Rattle.btcheck_c.specs.Owning.{slot_owns}
use Rattle.btcheck_c.specs.contracts.thing.Thing as Thing
use Rattle.btcheck_c.proofs.Moving.{thing}
use Rattle.btcheck_c.specs.contracts.slot.Slot.{the_row, the_type}

owned : (alloc : Global) (p : Ptr) (held : Option Thing.the_row.Denot) → Keyless (slot_owns alloc p held)
owned alloc p None = tt
owned alloc p (Some x) = (lies Thing.the_row thing p x, heap.frees.frees alloc (raw (lone Thing.the_row.mir)) p)

pub send : IsSend the_row
send =
    let all : AllSend (fields the_type) = (search sendable, (handle.the_field_send, tt)) in
    owning_send the_type all (λ d. owned d.alloc d.at d.held)
    (λ k. quiet (to the_type) (exits_of k (fields the_type)) ((struct_send (shape the_type) all).leaving k))
