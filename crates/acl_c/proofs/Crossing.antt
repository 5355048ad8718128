-- What a handle of a table leads to may go to another thread: it is plain data that is counted by threads, and so is
-- what frees its blocks.
use base.Shift.{Keyless}
use mir.Raw.{raw}
use denote.Memory.{lone}
use denote.RawPtr.{Ptr}
use denote.Builtin.{RawPtr}
use denote.Struct.Struct.{exits_of}
use denote.Struct.Owning.{shape, fields, to}
use denote.Param.Send.{IsSend, AllSend, owning_send, struct_send, sendable}
use Rattle.std.specs.Prelude.{Option, Some, None}
use Rattle.std.specs.Global.{Global}
use Rattle.std.proofs.Crossing as heap
use Rattle.std.proofs.Crossing.{crosses}
use Rattle.std_alloc.proofs.SendSync.{lies, quiet}
use Rattle.acl_c.specs.TableHandle.{table_slot_owns}
use Rattle.acl_c.specs.contracts.shared.Shared as shared
use Rattle.acl_c.specs.contracts.table_handle.TableHandle as table_handle
use Rattle.acl_c.specs.contracts.table_slot.TableSlot as table_slot

-- a pointer may go to another thread
pointer_send : IsSend RawPtr
pointer_send = search sendable

-- a shared table, with the rows of a handle's walks
pub shared_send : IsSend shared.the_row
shared_send = search (sendable, crosses) depth 40

-- what a slot owns beside its fields
inside : (alloc : Global) (at : Ptr) (inside : Option shared.the_row.Denot) → Keyless (table_slot_owns alloc at inside)
inside alloc at None = tt
inside alloc at (Some x) =
    (lies shared.the_row shared_send at x, heap.frees.frees alloc (raw (lone shared.the_row.mir)) at)

-- a slot that leads to a table, or to nothing
pub table_slot_send : IsSend table_slot.the_row
table_slot_send =
    let O = table_slot.the_type in let all : AllSend (fields O) = (pointer_send, (search sendable depth 20, tt)) in
    owning_send O all (λ d. inside d.alloc d.at d.inside)
    (λ k. quiet (to O) (exits_of k (fields O)) ((struct_send (shape O) all).leaving k))

-- what C holds of a table
pub table_handle_send : IsSend table_handle.the_row
table_handle_send = search (sendable, table_slot_send)
