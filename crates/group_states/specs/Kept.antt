-- The input groups of a key that a trie keeps. An input group in which each rule of the trie lets
-- every number through decides nothing, so it is left out.
use Rattle.std.specs.Prelude.{ℕ, ◌+◌, ◌-◌, ◌^◌, ◌==◌, List, [], ◌∷◌, filter, nat_lt, Bool}
use Rattle.std.specs.Prelude.{true, not, ◌&&◌, ◌||◌, if◌then◌else◌}
use Rattle.std.specs.List.{list_all, range_with_len, sum_by}
use Rattle.table_sizes.specs.Groups.{group_of}
use Rattle.field_defs.specs.declared.field.FieldDef.{FieldDef}
use Rattle.field_defs.specs.declared.field.FieldValue.{FieldValue}
use Rattle.field_defs.specs.FieldBounds.{is_wild}
use Rattle.field_defs.specs.Layout.{key_len_of}
use Rattle.rule_set.specs.Rule.{RuleSetView}
use Rattle.group_states.specs.RuleRest.{values_of}

-- the value of the field that has the place is wild
abbrev pub is_wild_at : List FieldDef → List FieldValue → ℕ → Bool
is_wild_at (def ∷ defs) (value ∷ values) place =
    if nat_lt place def.size then is_wild value def.size else is_wild_at defs values
    (place - def.size)
is_wild_at [] values place = true
is_wild_at (def ∷ defs) [] place = true

-- every rule of the group of rules is wild in the field that has the place
unfoldable pub is_wild_place : RuleSetView → List ℕ → ℕ → Bool
is_wild_place set group place =
    list_all (λ number. is_wild_at set.layout (values_of set number) place) group

-- the places of a key
abbrev pub key_places : RuleSetView → List ℕ
key_places set = range_with_len 0 (key_len_of set.layout)

-- each place of the input group is wild in every rule
unfoldable pub is_idle : RuleSetView → List ℕ → ℕ → Bool
is_idle set group input =
    list_all (λ place. not (group_of place == input) || is_wild_place set group place)
    (key_places set)

-- an input group is kept where it isn't idle, and input group 0 also where all are idle
unfoldable pub is_kept : RuleSetView → List ℕ → ℕ → Bool
is_kept set group input =
    not (is_idle set group input)
    || (input == 0 && list_all (is_wild_place set group) (key_places set))

-- the places of the kept input groups, ascending
unfoldable pub kept_places : RuleSetView → List ℕ → List ℕ
kept_places set group = filter (λ place. is_kept set group (group_of place)) (key_places set)

-- the kept input groups as the bits of a number, bit g for input group g
unfoldable pub kept_bits : RuleSetView → List ℕ → ℕ
kept_bits set group = sum_by (λ input. 2 ^ input)
    (filter (is_kept set group) (range_with_len 0 (1 + group_of (key_len_of set.layout - 1))))
