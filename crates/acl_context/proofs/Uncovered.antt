-- The uncovered rules decide as all do.
use Rattle.std.proofs.Common.{◌≡◌, ◌↔◌, ℕ, map, Option, Some, None, refl}
use Rattle.std.specs.Prelude.{flat_map}
use Rattle.std.specs.List.{range_with_len}
use Rattle.std.specs.Option.{option_map}
use Rattle.field_defs.specs.Layout.{key_len_of}
use Rattle.rule_set.specs.Rule.{RuleSetView}
use Rattle.flat_table.specs.Batch.{keys_of_len}
use Rattle.covered_rules.specs.Covered.{uncovered_set}
use Rattle.covered_rules.specs.Laws.{UncoveredRulesDecideAlike}
use Rattle.acl_context.specs.Batch.{key_of_batch, DecidesAs}

-- a number that is made of another is there exactly where that one is
made_of_none : (f : ℕ → ℕ) (one made : Option ℕ) → made ≡ option_map f one → (one ≡ None ↔ made ≡ None)
made_of_none f None made is = (λ none. is, λ none. refl)
made_of_none f (Some x) made is = (λ none. absurd cc, λ none. absurd cc)

-- the uncovered rules of a set decide as the set
pub decides : UncoveredRulesDecideAlike → (set : RuleSetView) → DecidesAs (uncovered_set set) set
decides law set = record {
  verdicts = λ count keys i.
      flat_map (λ k. map (λ category. law.verdicts set (key_of_batch set.layout keys k) category i)
      (range_with_len 0 count))
      (range_with_len 0 (keys_of_len (key_len_of set.layout) keys));
  none = λ key category. made_of_none _ _ _ (law.wins set key category);
}
