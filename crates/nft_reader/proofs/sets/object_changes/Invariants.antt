-- The sets that the objects so far change.
use Rattle.std.proofs.Common.{[]}
use Rattle.json.specs.Value.{value_view}
use Rattle.list_lemmas.proofs.Loops.{Joined}
use Rattle.nft_reader.specs.Sets.{changes_in}
use Rattle.nft_reader.proofs.sets.object_changes.Given as goal

-- there are those of each object so far
abbrev pub invariant-loop-object : goal.invariant-loop-object
invariant-loop-object l =
    Joined (λ object. changes_in (value_view object)) l.objects l.object-index [] l.changes.items
