-- Examples of groups and of their winners' ranks, each checked by evaluation, over one field of one
-- byte.
use Rattle.std.specs.Prelude.{◌≡◌, ℕ, ℤ, pos, List, [], ◌∷◌, refl}
use Rattle.field_defs.specs.declared.field.FieldKind.TheVariants as kinds
use Rattle.field_defs.specs.declared.field.FieldDef.{FieldDef}
use Rattle.field_defs.specs.declared.field.FieldValue.TheVariants.{Range}
use Rattle.rule_set.specs.Rule.{RuleView}
use Rattle.rule_set.specs.Among.{best_among}
use Rattle.rule_set.specs.Winner.{winner}
use Rattle.rule_set.specs.Groups.{rank_or_none, greatest}
use Rattle.rule_set.specs.GroupLaws.{winners_ranks}

abbrev one_byte : List FieldDef
one_byte = record { kind = kinds.Range; size = 1; field_index = 0; input_index = 0; offset = 0 } ∷
    []

-- a rule of category 0 for the bytes from low to high
abbrev ranged : ℕ → ℕ → ℤ → RuleView
ranged low high priority =
    record {
      tag = record { category_mask = 1; priority = priority; userdata = 1 };
      fields = Range low high ∷ [];
    }

-- rules of ranks 3, 4, 1 and 2
abbrev rules : List RuleView
rules = ranged 0 99 (pos 5) ∷ ranged 50 99 (pos 8) ∷ ranged 0 255 (pos 1) ∷ ranged 50 199 (pos 5)
    ∷ []

-- the ranks of the winners of two groups for the byte: rules 0 and 3, and rules 1 and 2
abbrev ranks_for : ℕ → List ℕ
ranks_for byte = winners_ranks one_byte rules ((0 ∷ 3 ∷ []) ∷ (1 ∷ 2 ∷ []) ∷ []) (byte ∷ []) 0

-- a group without a winner has 0
byte_20 : ranks_for 20 ≡ 3 ∷ 1 ∷ []
unfolding best_among
byte_20 = refl

byte_70 : ranks_for 70 ≡ 3 ∷ 4 ∷ []
unfolding best_among
byte_70 = refl

byte_200 : ranks_for 200 ≡ 0 ∷ 1 ∷ []
unfolding best_among
byte_200 = refl

-- the greatest is the rank of the winner of all
greatest_decides : greatest (ranks_for 20) ∷ greatest (ranks_for 70) ∷ greatest (ranks_for 200) ∷ []
    ≡ rank_or_none rules (winner one_byte rules (20 ∷ []) 0)
    ∷ rank_or_none rules (winner one_byte rules (70 ∷ []) 0)
    ∷ rank_or_none rules (winner one_byte rules (200 ∷ []) 0)
    ∷ []
unfolding best_among
greatest_decides = refl

-- the greatest rank over groups of a set for the byte, and the rank of the winner of all
abbrev both_ranks : List RuleView → List (List ℕ) → ℕ → List ℕ
both_ranks set groups byte =
    greatest (winners_ranks one_byte set groups (byte ∷ []) 0)
    ∷ rank_or_none set (winner one_byte set (byte ∷ []) 0)
    ∷ []

-- two rules of equal priority for all bytes, of ranks 2 and 1
abbrev equal_rules : List RuleView
equal_rules = ranged 0 255 (pos 5) ∷ ranged 0 255 (pos 5) ∷ []

-- in order the first of them wins
in_order : both_ranks equal_rules ((0 ∷ 1 ∷ []) ∷ []) 0 ≡ 2 ∷ 2 ∷ []
unfolding best_among
in_order = refl

-- not `ascending`: of equal priorities rule 1 wins, which stands first in the group alone
not_ascending : both_ranks equal_rules ((1 ∷ 0 ∷ []) ∷ []) 0 ≡ 1 ∷ 2 ∷ []
unfolding best_among
not_ascending = refl

-- not `once`: rule 1, which wins, is in no group
not_once : both_ranks rules ((0 ∷ 3 ∷ []) ∷ (2 ∷ []) ∷ []) 70 ≡ 3 ∷ 4 ∷ []
unfolding best_among
not_once = refl
