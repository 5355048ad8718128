use Rattle.std.proofs.Common.{◌≡◌, length, drop}
use Rattle.field_defs.specs.Layout.{key_len_of}
use Rattle.rule_set.specs.Winner.{rule_match}
use Rattle.rule_set.proofs.plain.matches_key.Given as goal

-- the fields so far match, and the rest of the key is that of the other fields
abbrev pub invariant-loop-def : goal.invariant-loop-def
invariant-loop-def l =
    (length l.rest ≡ key_len_of (drop (length l.yielded) l.defs))
    × (rule_match l.defs l.values l.key ≡ rule_match (drop (length l.yielded) l.defs)
    (drop (length l.yielded) l.values) l.rest)
