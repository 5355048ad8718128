use Rattle.std.proofs.Common.{◌≡◌, ◌++◌, take, true}
use Rattle.std.specs.List.{flat_map, list_all}
use Rattle.table_image.specs.Spelling.{all_spelled, is_row}
use Rattle.table_image.proofs.saving.put_rows.Given as goal

-- those so far are written, and are rows
abbrev pub invariant-loop-row : goal.invariant-loop-row
invariant-loop-row l = record {
  text : l.out.items ≡ l.initial.out.items ++ flat_map (all_spelled 8) (take l.row-index l.rows);
  typed : list_all is_row (take l.row-index l.rows) ≡ true;
}
