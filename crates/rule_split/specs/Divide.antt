-- How one group of rules becomes two. Rules that are wild in a field let every number of it
-- through, and beside rules that bound the field they make a trie grow: states of the one kind meet
-- states of the other. So a group is divided at the field that has many of each kind. DPDK's
-- `lib/acl`, `acl_bld.c`, asks in the same way how wild the rules are in each field; the rule is
-- ours.
use Rattle.std.specs.Prelude.{ℕ, ◌+◌, ◌/◌, ◌==◌, List, [], ◌∷◌, length, map, filter, take, drop}
use Rattle.std.specs.Prelude.{min, slice_index_or, Bool, not, if◌then◌else◌}
use Rattle.std.specs.List.{position_or_len, range_with_len}
use Rattle.field_defs.specs.declared.field.FieldValue.TheVariants.{Mask}
use Rattle.field_defs.specs.FieldBounds.{is_wild}
use Rattle.field_defs.specs.LayoutFault.{def_at}
use Rattle.rule_set.specs.Rule.{RuleSetView}
use Rattle.rule_set.specs.Groups.{greatest}
use Rattle.group_states.specs.RuleRest.{values_of}

-- the rule at that place of the set is wild in the field at that place of the layout
abbrev pub is_wild_in : RuleSetView → ℕ → ℕ → Bool
is_wild_in set field number =
    is_wild (slice_index_or (values_of set number) field (Mask 0 0)) (def_at set.layout field).size

-- the rules of the group that are wild in the field
unfoldable pub wild_rules : RuleSetView → List ℕ → ℕ → List ℕ
wild_rules set group field = filter (is_wild_in set field) group

-- those that aren't
unfoldable pub bound_rules : RuleSetView → List ℕ → ℕ → List ℕ
bound_rules set group field = filter (λ number. not (is_wild_in set field number)) group

-- how many rules are in the smaller one of the two
abbrev pub smaller_side : RuleSetView → List ℕ → ℕ → ℕ
smaller_side set group field =
    min (length (wild_rules set group field)) (length (bound_rules set group field))

-- that number for each field
unfoldable pub smaller_sides : RuleSetView → List ℕ → List ℕ
smaller_sides set group = map (smaller_side set group) (range_with_len 0 (length set.layout))

-- the place of the greatest of some numbers, the first of equal ones
abbrev pub greatest_place : List ℕ → ℕ
greatest_place numbers = position_or_len (λ number. number == greatest numbers) numbers

-- the field that divides the group: the smaller side is greatest there
abbrev pub divider : RuleSetView → List ℕ → ℕ
divider set group = greatest_place (smaller_sides set group)

-- how many rules the first half of a group has: of an odd number one more than the second
abbrev pub half_of : List ℕ → ℕ
half_of group = (length group + 1) / 2

-- The two groups that a group becomes: the rules that aren't wild in the divider and then those
-- that are, and two halves where no field divides the group.
unfoldable pub divided : RuleSetView → List ℕ → List (List ℕ)
divided set group =
    if greatest (smaller_sides set group) == 0
    then take (half_of group) group ∷ drop (half_of group) group ∷ []
    else bound_rules set group (divider set group) ∷ wild_rules set group (divider set group) ∷ []
