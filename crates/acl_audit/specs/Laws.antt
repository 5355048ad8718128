-- Laws of least keys and of differences, over the definitions alone.
use Rattle.std.specs.Prelude.{◌≡◌, ◌≢◌, ℕ, ◌+◌, ◌*◌, ◌<◌, ◌↔◌, List, [], length, Bool, All, Some, None}
use Rattle.std.specs.List.{find}
use Rattle.field_defs.specs.Layout.{key_len_of}
use Rattle.rule_set.specs.Limits.{max_categories}
use Rattle.rule_set.specs.Rule.{RuleSetView}
use Rattle.group_states.specs.Found.{prefixes}
use Rattle.acl_audit.specs.Difference.{verdict_of, Difference, difference}
use Rattle.acl_audit.specs.Half.{half_len, half_of}
use Rattle.acl_audit.specs.Least.{least_from}

-- The least key that passes a test is the first of all keys, in ascending order, that does.
abbrev pub TheLeastIsTheFirstOfAllKeys : Type 0
TheLeastIsTheFirstOfAllKeys =
    (test : List ℕ → Bool) (key_len : ℕ) → least_from test key_len [] ≡ find test (prefixes key_len)

-- A key of the layout of a set.
pub record IsKey (set : RuleSetView) (key : List ℕ) : Type 0 where
  pub bytes : All (λ byte. byte < 256) key
  pub long : length key ≡ key_len_of set.layout

-- The verdicts of two sets are equal for every key in each category.
abbrev pub AreAlike : RuleSetView → RuleSetView → Type 0
AreAlike one two =
    (key : List ℕ) (category : ℕ) → IsKey one key → category < max_categories →
    verdict_of one key category ≡ verdict_of two key category

-- The verdicts of two sets are unlike at a key and a category.
pub record AreUnlikeAt (one two : RuleSetView) (at : Difference) : Type 0 where
  pub key : IsKey one at.key
  pub category : at.category < max_categories
  pub unlike : verdict_of one at.key at.category ≢ verdict_of two at.key at.category

-- There is no difference exactly where the verdicts are equal for every key in each category, and
-- at a difference they are unlike.
pub record DifferencesTellUnlikeSets : Type 0 where
  pub none : (one two : RuleSetView) → (difference one two ≡ None ↔ AreAlike one two)
  pub some : (one two : RuleSetView) (at : Difference) → difference one two ≡ Some at →
      AreUnlikeAt one two at

-- The verdicts of a half of two sets of one layout are those of the sets: of the first in its
-- categories below 8, and of the second in those from 8 on.
pub record HalvesHaveTheVerdictsOfBoth : Type 0 where
  pub first : (one two : RuleSetView) (half category : ℕ) (key : List ℕ) →
      category < half_len →
      verdict_of (half_of one two half) key category
      ≡ verdict_of one key (half_len * half + category)
  pub second : (one two : RuleSetView) (half category : ℕ) (key : List ℕ) →
      one.layout ≡ two.layout → category < half_len →
      verdict_of (half_of one two half) key (half_len + category)
      ≡ verdict_of two key (half_len * half + category)
