-- What a handle of a table owns.
use Rattle.std.specs.Prelude.{Option, Some, None}
use base.Fml.{Fml, ftrue}
use base.Stored.{Coded}
use denote.RawPtr.{Ptr}
use Rattle.std.specs.Box.Ownership.{box_owns}
use Rattle.std.specs.Global.{Global}
use Rattle.std_heap.specs.contracts.GlobalAllocator.TheImpl.{ghosts}
use Rattle.core.specs.contracts.option.Option as option
use Rattle.acl_c.specs.contracts.shared.Shared.{the_row}

-- what a pointer owns that leads to a table on the heap, or to nothing
abbrev pub table_slot_owns : Global → Ptr → Option the_row.Denot → Fml
table_slot_owns alloc at None = ftrue
table_slot_owns alloc at (Some inside) = box_owns (ghosts.dealloc_token alloc) the_row at inside

-- how memory holds that a pointer leads to a table, or to nothing
abbrev pub shared_coded : Coded (Option the_row.Denot)
shared_coded = (option.the_row the_row).coded
