-- What a comparison tells, and when it is refused.
use Rattle.std.specs.Prelude.{ℕ, ◌*◌, ◌≡◌, Bool, ◌&&◌, ◌||◌, Option, Some, None}
use Rattle.std.specs.Option.{is_none}
use Rattle.rule_set.specs.Rule.{RuleSetView}
use Rattle.acl_audit.specs.declared.compare.Compared.{Compared}
use Rattle.acl_audit.specs.declared.compare.Compared.TheVariants.{Same, Differ}
use Rattle.acl_audit.specs.Difference.{Difference, difference_from}
use Rattle.acl_audit.specs.Half.{half_len, half_of, exceeds}

-- the difference that is told, or none
abbrev pub told_difference : Compared → Option Difference
told_difference Same = None
told_difference (Differ key category) = Some (record { key = key.items; category = category })

-- What is told of a half is the difference of any two sets of which the rules are that half.
pub record TellsHalf (set : RuleSetView) (half : ℕ) (compared : Compared) : Type 0 where
  pub told : (one two : RuleSetView) → one.layout ≡ two.layout → set ≡ half_of one two half →
      told_difference compared ≡ difference_from one two (half_len * half)

-- the table of a half that is needed has more words than the budget: that of the categories below
-- 8, or where these are alike for every key that of the categories from 8 on
abbrev pub is_too_large : RuleSetView → RuleSetView → ℕ → Bool
is_too_large one two budget =
    exceeds (half_of one two 0) budget
    || (is_none (difference_from one two 0) && exceeds (half_of one two 1) budget)
