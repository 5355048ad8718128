-- The least keys of all states of a place and of the rows, in their order.
use Rattle.std.specs.Prelude.{ℕ, List, [], ◌∷◌, map, replicate, slice_index_or, slice_set}
use Rattle.acl_audit.specs.declared.links.Link.{Link}

-- the key of the state before with the byte at the place
abbrev pub keyed : ℕ → List (List ℕ) → ℕ → Link → List ℕ
keyed key_len keys place link =
    slice_set (slice_index_or keys link.before (replicate key_len 0)) place link.byte

-- the keys that the links of each of some places make of keys before them
abbrev pub keys_after : ℕ → List (List ℕ) → List ℕ → List (List Link) → List (List ℕ)
keys_after key_len keys [] levels = keys
keys_after key_len keys (place ∷ places) [] = keys
keys_after key_len keys (place ∷ places) (links ∷ levels) =
    keys_after key_len (map (keyed key_len keys place) links) places levels
