-- Where two rule sets of one layout decide unlike: the least key, keys being compared byte by byte
-- from the first byte on, and the least category there. Verdicts: DPDK Programmer's Guide, "Packet
-- Classification and Access Control". All bytes are tried here, one place after the other; merged
-- states and halves aren't known.
use Rattle.std.specs.Prelude.{ℕ, ◌==◌, List, [], ◌∷◌, Bool, not, Option, Some, None}
use Rattle.std.specs.List.{find, list_any, range_with_len}
use Rattle.std.specs.Option.{option_map}
use Rattle.field_defs.specs.Faults.{first_of}
use Rattle.field_defs.specs.Layout.{key_len_of}
use Rattle.rule_set.specs.Rule.{RuleSetView}
use Rattle.rule_set.specs.Winner.{verdict}
use Rattle.acl_audit.specs.Least.{least_from}

-- the verdict of the set for the key in the category
abbrev pub verdict_of : RuleSetView → List ℕ → ℕ → ℕ
verdict_of set key category = verdict set.layout set.rules key category

-- the verdicts of two sets for the key are unlike in the category. A winner of userdata 0 and no
-- winner have equal verdicts.
abbrev pub is_unlike : RuleSetView → RuleSetView → List ℕ → ℕ → Bool
is_unlike one two key category = not (verdict_of one key category == verdict_of two key category)

-- eight categories, from one on
unfoldable pub eight_from : ℕ → List ℕ
eight_from first = range_with_len first 8

-- A key and a category.
pub record Difference : Type 0 where
  pub key : List ℕ
  pub category : ℕ

-- the key, if there is one, and the first of eight categories that passes the test there
abbrev pub with_category : (List ℕ → ℕ → Bool) → ℕ → Option (List ℕ) → Option Difference
with_category test first None = None
with_category test first (Some key) =
    option_map (λ category. record { key = key; category = category })
    (find (test key) (eight_from first))

-- the least key of so many bytes for which some of eight categories, from one on, passes the test,
-- and the first such category there, or none
unfoldable pub least_passing : (List ℕ → ℕ → Bool) → ℕ → ℕ → Option Difference
least_passing test key_len first =
    with_category test first (least_from (λ key. list_any (test key) (eight_from first)) key_len [])

-- where the verdicts are unlike in some of eight categories, from one on
abbrev pub difference_from : RuleSetView → RuleSetView → ℕ → Option Difference
difference_from one two first = least_passing (is_unlike one two) (key_len_of one.layout) first

-- where the verdicts are unlike: categories below 8 come first, and then those from 8 on
unfoldable pub difference : RuleSetView → RuleSetView → Option Difference
difference one two = first_of (difference_from one two 0 ∷ difference_from one two 8 ∷ [])
