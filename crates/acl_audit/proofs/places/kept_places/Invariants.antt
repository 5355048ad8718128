-- the kept places below the one at hand
use Rattle.std.proofs.Common.{◌≡◌, filter}
use Rattle.std.specs.List.{range_with_len}
use Rattle.table_sizes.specs.Groups.{is_kept}
use Rattle.acl_audit.proofs.places.kept_places.Given as goal

abbrev pub invariant-loop-place : goal.invariant-loop-place
invariant-loop-place l = l.places.items ≡ filter (is_kept l.kept) (range_with_len 0 l.place)
