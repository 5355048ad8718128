-- the places of the tries so far
use Rattle.std.proofs.Common.{◌≡◌, ℕ, length, map, take}
use Rattle.arrayvec.specs.ArrayVec.{ArrayVec}
use Rattle.table_sizes.specs.Groups.{kept_places}
use Rattle.flat_table.proofs.table.places_of.Given as goal

abbrev pub invariant-loop-kept : goal.invariant-loop-kept
invariant-loop-kept l =
    (map (λ (trie : ArrayVec ℕ). trie.items) l.tries.items ≡ map (kept_places l.key_len) (take l.kept-index l.kept)) ×
    (length l.tries.items ≡ l.kept-index)
