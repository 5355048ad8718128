-- What a handle that C holds owns.
use Rattle.std.specs.Prelude.{◌≡◌, ◌↔◌, ℕ, Option, Some, None}
use base.Fml.{Fml, ftrue}
use base.Stored.{Coded}
use denote.RawPtr.{Ptr}
use Rattle.std.specs.Box.Ownership.{box_owns}
use Rattle.std.specs.Global.{Global}
use Rattle.std_heap.specs.contracts.GlobalAllocator.TheImpl.{ghosts}
use Rattle.core.specs.contracts.option.Option as option
use Rattle.acl_c.specs.contracts.context.Context.{the_row}

-- what a pointer owns that leads to a context on the heap, or to nothing
abbrev pub slot_owns : Global → Ptr → Option the_row.Denot → Fml
slot_owns alloc at None = ftrue
slot_owns alloc at (Some inside) = box_owns (ghosts.dealloc_token alloc) the_row at inside

-- how memory holds that a pointer leads to a context, or to nothing
abbrev pub context_coded : Coded (Option the_row.Denot)
context_coded = (option.the_row the_row).coded

-- a handle that is marked by 0 leads to nothing, and any other to something
abbrev pub IsKept : {A : Type 0} → ℕ → Option A → Type 0
IsKept held inside = held ≡ 0 ↔ inside ≡ None
