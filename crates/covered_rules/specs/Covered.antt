-- Which rules of a set another one covers: it has a greater rank, takes part in all of their
-- categories, and lets through all that they let through. They can't win, so no table needs them.
-- (The rule is ours. DPDK's `lib/acl` builds all rules.)
use Rattle.std.specs.Prelude.{◌≡◌, ℕ, ◌+◌, ◌*◌, ◌==◌, List, [], ◌∷◌, ◌++◌, length, take, filter}
use Rattle.std.specs.Prelude.{slice_get, Bool, true, false, ◌&&◌, nat_le, bit_and, if◌then◌else◌}
use Rattle.std.specs.List.{list_any, filter_map}
use Rattle.std.specs.Option.{option_map_or}
use Rattle.std.proofs.Common.{zero, suc}
use Rattle.field_defs.specs.declared.field.FieldDef.{FieldDef}
use Rattle.field_defs.specs.declared.field.FieldValue.{FieldValue}
use Rattle.field_defs.specs.declared.field.FieldValue.TheVariants.{Mask, Range, Bitmask}
use Rattle.field_defs.specs.FieldBounds.{is_wild}
use Rattle.field_defs.specs.FieldMatch.{field_match}
use Rattle.field_defs.specs.Layout.{key_len_of}
use Rattle.covered_rules.specs.declared.covered.TheConstants.{MOST_WIDE}
use Rattle.rule_set.specs.Rank.{comes_below}
use Rattle.rule_set.specs.Rule.{RuleView, RuleSetView}

-- The first value lets through what the second does: a mask of no more bits than a mask that it
-- lets through, a range around a range, or a bitmask of some bits of one that it lets through.
abbrev pub covers_value : FieldValue → FieldValue → ℕ → Bool
covers_value (Mask value bits) (Mask other more) size =
    nat_le bits more && field_match (Mask value bits) size other
covers_value (Range low high) (Range from to) size = nat_le low from && nat_le to high
covers_value (Bitmask value mask) (Bitmask other more) size =
    bit_and mask more == mask && field_match (Bitmask value mask) size other
covers_value _ _ size = false

-- so for each field
abbrev pub covers_values : List FieldDef → List FieldValue → List FieldValue → Bool
covers_values [] [] [] = true
covers_values (def ∷ defs) (value ∷ values) (other ∷ others) =
    covers_value value other def.size && covers_values defs values others
covers_values [] [] (other ∷ others) = false
covers_values [] (value ∷ values) others = false
covers_values (def ∷ defs) [] others = false
covers_values (def ∷ defs) (value ∷ values) [] = false

-- each bit of the second mask is one of the first
abbrev pub has_bits : ℕ → ℕ → Bool
has_bits mask other = bit_and mask other == other

-- The first rule has all categories of the second, and lets through all that it lets through.
abbrev pub covers_rule : List FieldDef → RuleView → RuleView → Bool
covers_rule layout rule other =
    has_bits rule.tag.category_mask other.tag.category_mask
    && covers_values layout rule.fields other.fields

-- the rule at the first place covers the one at the second, which comes below it
abbrev pub covers : List FieldDef → List RuleView → ℕ → ℕ → Bool
covers layout rules place other =
    comes_below rules place other
    && option_map_or (λ rule. option_map_or (covers_rule layout rule) (slice_get rules other) false)
    (slice_get rules place) false

-- how many bytes of the key have wild fields
abbrev pub wild_bytes : List FieldDef → List FieldValue → ℕ
wild_bytes [] values = 0
wild_bytes (def ∷ defs) [] = 0
wild_bytes (def ∷ defs) (value ∷ values) =
    (if is_wild value def.size then def.size else 0) + wild_bytes defs values

-- wild fields have at least three fifths of the key
abbrev pub is_wide : List FieldDef → List FieldValue → Bool
is_wide layout values = nat_le (3 * key_len_of layout) (5 * wild_bytes layout values)

-- so has the rule at the place
abbrev pub is_wide_at : List FieldDef → List RuleView → ℕ → Bool
is_wide_at layout rules place =
    option_map_or (λ rule. is_wide layout rule.fields) (slice_get rules place) false

-- the first 1,024 wide ones of the places
abbrev pub wide_ones : List FieldDef → List RuleView → List ℕ → List ℕ
wide_ones layout rules places = take MOST_WIDE (filter (is_wide_at layout rules) places)

-- one of the places covers the place
abbrev pub is_covered : List FieldDef → List RuleView → List ℕ → ℕ → Bool
is_covered layout rules places place = list_any (λ other. covers layout rules other place) places

-- of so many rules the places of those that no wide one before them covers
unfoldable pub uncovered_of : List FieldDef → List RuleView → ℕ → List ℕ
uncovered_of layout rules zero = []
uncovered_of layout rules (suc place) =
    let kept = uncovered_of layout rules place in
    if is_covered layout rules (wide_ones layout rules kept) place then kept else kept ++ place ∷ []

-- of all rules
unfoldable pub uncovered : List FieldDef → List RuleView → List ℕ
uncovered layout rules = uncovered_of layout rules (length rules)

-- the rules at the places, in order
abbrev pub rules_at : List RuleView → List ℕ → List RuleView
rules_at rules places = filter_map (slice_get rules) places

-- the set of the uncovered rules of a set
abbrev pub uncovered_set : RuleSetView → RuleSetView
uncovered_set set = record set { rules = rules_at set.rules (uncovered set.layout set.rules) }

-- what is kept of so many rules: the places that stay, and the first wide ones of them
pub record IsKept (set : RuleSetView) (count : ℕ) (places wide : List ℕ) : Type 0 where
  pub places_are : places ≡ uncovered_of set.layout set.rules count
  pub wide_are : wide ≡ wide_ones set.layout set.rules places
