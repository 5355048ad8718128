use Rattle.std.proofs.Common.{◌≡◌, ◌++◌, take}
use Rattle.table_image.specs.Spelling.{all_spelled}
use Rattle.table_image.proofs.saving.put_lens.Given as goal

-- those so far are written
abbrev pub invariant-loop-len : goal.invariant-loop-len
invariant-loop-len l = l.out.items ≡ l.initial.out.items ++ all_spelled 4 (take l.len-index l.lens)
