-- Keys that stand apart, each behind a pointer of its own.
use Rattle.std.specs.Prelude.{◌≡◌, ℕ, ◌*◌, ◌==◌, nat_lt, List, flat_map, length, Bool, false}
use Rattle.std.specs.Prelude.{Option, None, Some, IfSome}
use Rattle.std.specs.Prelude.{if◌then◌else◌}
use Rattle.std.specs.List.{list_all, sum_by}
use Rattle.table_sizes.specs.Sizes.{max_keys}
use Rattle.rule_set.specs.Rule.{RuleSetView}
use Rattle.flat_table.specs.Table.{TableView}
use Rattle.flat_table.specs.Walk.{key_transitions}
use Rattle.flat_table.specs.Batch.{key_verdicts, batch_verdicts, batch_transitions}
use Rattle.table_fill.specs.Serves.{Serves}
use Rattle.acl_context.specs.Batch.{verdicts_by_rules}
use Rattle.acl_c.specs.declared.keys.Key.{Key}
use Rattle.acl_c.specs.Codes.{ok, bad_length, too_many_keys, not_built}
use Rattle.acl_c.specs.Batch.{batch_code}

-- the bytes of the keys, one key after the other, as `aclc_classify` is given them
abbrev pub packed : List Key → List ℕ
packed keys = flat_map (λ key. key.bytes.now) keys

-- each key has so many bytes
abbrev pub are_of_len : ℕ → List Key → Bool
are_of_len key_len keys = list_all (λ key. length key.bytes.now == key_len) keys

-- what a classification by a table answers: that of the packed keys, if each has the length of one
abbrev pub keys_code : Option TableView → ℕ → List Key → ℕ → ℕ → ℕ → ℕ
keys_code None lanes keys categories walk room = not_built
keys_code (Some table) lanes keys categories walk room =
    if nat_lt max_keys (length keys) then too_many_keys
    else (if are_of_len table.key_len keys
    then batch_code table.key_len lanes (length keys * table.key_len) categories walk room
    else bad_length)

-- the verdicts of each key by the table
abbrev pub each_verdicts : TableView → ℕ → List Key → List ℕ
each_verdicts table categories keys = flat_map
    (λ key. key_verdicts table categories key.bytes.now) keys

-- how many transitions the walks of all keys take
abbrev pub each_transitions : TableView → List Key → ℕ
each_transitions table keys = sum_by (λ key. key_transitions table key.bytes.now) keys

-- What a classification makes of the verdicts and the transitions before it, and what it answers.
-- They are those of the packed keys, and so the verdicts of each.
pub record ClassifiesKeys (table : Option TableView) (lanes : ℕ) (keys : List Key)
    (categories walk : ℕ) (before after : List ℕ) (counted_before counted code : ℕ) :
    Type 0 where
  pub answer : code ≡ keys_code table lanes keys categories walk (length before)
  pub verdicts : code ≡ ok → IfSome table
      (λ table. after ≡ batch_verdicts table categories (packed keys))
  pub each : code ≡ ok → IfSome table (λ table. after ≡ each_verdicts table categories keys)
  pub served : (set : RuleSetView) → code ≡ ok → IfSome table
      (λ table. Serves set table → after ≡ verdicts_by_rules set categories (packed keys))
  pub transitions : code ≡ ok → IfSome table
      (λ table. counted ≡ batch_transitions table (packed keys))
  pub kept : (code == ok) ≡ false → (after ≡ before) × (counted ≡ counted_before)
