-- What holds of every table.
use Rattle.std.specs.Prelude.{◌≡◌, ℕ, List, map, None}
use Rattle.arrayvec.specs.ArrayVec.{ArrayVec}
use Rattle.table_sizes.specs.Groups.{kept_places}
use Rattle.flat_table.specs.Table.{TableView}
use Rattle.flat_table.specs.Sound.{sound_fault}

-- the parts are sound, and beside them stand for each trie its root and the places of its kept
-- groups
pub record IsTable (table : TableView) (roots : List ℕ) (places : List (ArrayVec ℕ)) : Type 0 where
  pub sound : sound_fault table ≡ None
  pub begun : roots ≡ table.roots
  pub read : map (λ (trie : ArrayVec ℕ). trie.items) places
      ≡ map (kept_places table.key_len) table.kept
