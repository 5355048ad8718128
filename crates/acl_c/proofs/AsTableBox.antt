-- A slot of a table that is full, and the parts of its box, own what a box at the same types owns.
use mir.Syntax.{impl, tnil, dnil}
use mathlib.Core.List.{[]}
use denote.Signature.{Slot, plain}
use Rattle.std_alloc.proofs.BoxSteps.Form.{Bx}
use Rattle.std_heap.specs.contracts.Global as Heap
use Rattle.std_heap.specs.contracts.GlobalAllocator.TheImpl.{ghosts, dict}
use Rattle.std_heap.proofs.Global.TheLaws as heap
use Rattle.acl_c.specs.contracts.shared.Shared as held
use Rattle.acl_c.proofs.shared.Shared.TheLaws as held_laws
use Rattle.acl_c.specs.contracts.box_parts.Parts as parts
use Rattle.acl_c.specs.contracts.table_slot.TableSlot as slot

-- a box of a table with the allocator of the system
abbrev pub E : Bx
E = record {
  row = held.the_row;
  laws = held_laws.the_row_laws;
  al = record { row = Heap.the_row; laws = heap.the_row_laws; g = ghosts; d = dict; drops = impl [] tnil dnil };
}

-- the parameters of the functions of a slot
abbrev pub FromParts : Slot 0
FromParts = plain (λ _. parts.the_row held.the_row Heap.the_row ghosts)

-- the parameter that is the slot itself
abbrev pub FromSlot : Slot 0
FromSlot = plain (λ _. slot.the_row)

-- the parameter that is its allocator
abbrev pub FromAlloc : Slot 0
FromAlloc = plain (λ _. Heap.the_row)
