use Rattle.std.proofs.Common.{◌≡◌, take}
use Rattle.field_defs.specs.Layout.{key_of, key_len_of}
use Rattle.field_defs.proofs.layout.copy_fields.Given as goal

-- the keys of the fields so far have been written
abbrev pub invariant-loop-def : goal.invariant-loop-def
invariant-loop-def l =
    (l.at ≡ key_len_of (take l.def-index l.defs)) × (take l.at l.into ≡ key_of (take l.def-index l.defs) l.buffer)
