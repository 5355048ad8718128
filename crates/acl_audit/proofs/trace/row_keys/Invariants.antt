-- the keys of the rows so far
use Rattle.std.proofs.Common.{◌≡◌, length, replicate}
use Rattle.std.specs.List.{flat_map, range_with_len}
use Rattle.acl_audit.specs.Traced.{traced}
use Rattle.acl_audit.proofs.trace.row_keys.Given as goal

abbrev pub invariant-loop-row : goal.invariant-loop-row
invariant-loop-row l =
    l.keys.items ≡ flat_map (λ row. traced l.links l.places (length l.links) row (replicate l.key_len 0))
    (range_with_len 0 l.row)
