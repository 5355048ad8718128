-- The sets of the objects so far.
use Rattle.std.proofs.Common.{◌≡◌, ◌++◌, map, drop}
use Rattle.json.specs.Value.{value_view}
use Rattle.nft_reader.specs.Sets.{set_of, sets_in}
use Rattle.nft_reader.proofs.sets.sets_in.Given as goal

-- with those of the objects that are left they are the sets of all
abbrev pub invariant-loop-object : goal.invariant-loop-object
invariant-loop-object l =
    map set_of l.found.items ++ sets_in l.changes (map value_view (drop l.object-index l.objects))
    ≡ sets_in l.changes (map value_view l.objects)
