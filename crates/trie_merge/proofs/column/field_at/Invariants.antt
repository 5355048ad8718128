use Rattle.std.proofs.Common.{◌≡◌, ◌+◌, ◌<◌, drop}
use Rattle.field_defs.specs.Layout.{key_len_of}
use Rattle.trie_merge.proofs.column.field_at.Given as goal
use Rattle.group_states.specs.Entry.{field_at}

abbrev pub invariant-loop-field : goal.invariant-loop-field
invariant-loop-field l =
    (l.left < key_len_of (drop l.field l.defs))
    × (field_at l.defs l.place
    ≡ record (field_at (drop l.field l.defs) l.left)
    { field = (field_at (drop l.field l.defs) l.left).field + l.field })
