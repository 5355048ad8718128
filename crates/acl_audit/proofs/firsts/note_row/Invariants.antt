-- the table so far, with the entries that are left, is that with the whole row
use Rattle.std.proofs.Common.{◌≡◌, length, drop}
use Rattle.acl_audit.specs.Firsts.{row_noted}
use Rattle.acl_audit.proofs.firsts.note_row.Given as goal

abbrev pub invariant-loop-category : goal.invariant-loop-category
invariant-loop-category l =
    (length l.table ≡ length l.fn.table)
    × (row_noted l.table l.number l.category (drop l.category l.row) ≡ row_noted l.fn.table l.number 0 l.row)
