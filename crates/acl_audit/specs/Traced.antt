-- The key that is read off the links, from a row back to the first byte.
use Rattle.std.specs.Prelude.{ℕ, ◌+◌, ◌<◌, List, [], length, slice_index_or, slice_set}
use Rattle.std.specs.Prelude.{map, replicate}
use Rattle.std.specs.List.{range_with_len, flat_map}
use Rattle.std.proofs.Common.{zero, suc}
use Rattle.field_defs.specs.Layout.{key_len_of}
use Rattle.rule_set.specs.Rule.{RuleSetView}
use Rattle.table_sizes.specs.Groups.{kept_places}
use Rattle.group_states.specs.Levels.{LevelsView}
use Rattle.acl_audit.specs.declared.links.Link.{Link}
use Rattle.acl_audit.specs.Links.{no_link, links_of}

-- the link to the state or row of that number
abbrev pub link_at : List (List Link) → ℕ → ℕ → Link
link_at levels depth number = slice_index_or (slice_index_or levels depth []) number no_link

-- the key with the bytes at the first kept places that lead to the state or row of that number
abbrev pub traced : List (List Link) → List ℕ → ℕ → ℕ → List ℕ → List ℕ
traced levels places zero number key = key
traced levels places (suc depth) number key =
    traced levels places depth (link_at levels depth number).before
    (slice_set key (slice_index_or places depth 0) (link_at levels depth number).byte)

-- Each link leads back to a link of the place before it.
pub record AreChained (levels : List (List Link)) : Type 0 where
  pub before : (depth number : ℕ) → depth + 1 < length levels →
      number < length (slice_index_or levels (depth + 1) []) →
      (link_at levels (depth + 1) number).before < length (slice_index_or levels depth [])

-- the keys of the rows, one after the other
unfoldable pub keys_traced : List (List Link) → List ℕ → ℕ → ℕ → List ℕ
keys_traced levels places key_len count =
    flat_map (λ row. traced levels places (length levels) row (replicate key_len 0))
    (range_with_len 0 count)

-- the least key of the row of that number in the merged states of all rules
abbrev pub key_of_row : RuleSetView → LevelsView → ℕ → List ℕ
key_of_row set levels row =
    traced (map links_of levels.levels) (kept_places (key_len_of set.layout) levels.kept)
    (length (map links_of levels.levels)) row (replicate (key_len_of set.layout) 0)
