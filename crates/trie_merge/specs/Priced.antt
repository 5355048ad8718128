-- What is known of the words of what a place leads to, before that is merged itself. A price is how
-- many words it takes at least.
use Rattle.std.specs.Prelude.{◌≡◌, ℕ, ◌+◌, ◌*◌, ◌<◌, ◌≤◌, List, length, take, Bool, true, Option}
use Rattle.std.specs.Prelude.{None, All}
use Rattle.std.specs.List.Sorted.{IsStrictlyIncreasing}
use Rattle.rule_set.specs.Rule.{RuleSetView}
use Rattle.state_parts.specs.declared.target.Target.{Target}
use Rattle.state_parts.specs.Target.{count}
use Rattle.table_sizes.specs.Sizes.{row_len}
use Rattle.group_states.specs.Entry.{ColumnView}
use Rattle.trie_merge.specs.Cuts.{CanAsk, CutsFor}
use Rattle.trie_merge.specs.Shared.{RuleTree, IsIn, AreIn}
use Rattle.trie_merge.specs.Words.{price, least_cost}
use Rattle.trie_merge.specs.declared.cuts.Cuts.{Cuts}
use Rattle.trie_merge.specs.declared.merge.Place.{Place}

-- The number is one of a part, or of a row.
abbrev pub IsNumber : Target → ℕ → Type 0
IsNumber target number = (0 < number) × (number ≤ count target)

-- So is each of them.
abbrev pub AreNumbers : Target → List ℕ → Type 0
AreNumbers target numbers = All (λ number. IsNumber target number) numbers

-- What a place leads to can be priced: no place follows the last one, all entries can be asked at
-- the place that follows, and the known cuts are those of the parts there.
pub record CanPrice (place : Place) (target : Target) (known : List Cuts) : Type 0 where
  pub last : place.is_last ≡ true → place.next ≡ None
  pub ask : CanAsk place.next target
  pub cuts : CutsFor place.next target known

-- The number is priced: whatever list it stands for takes so many words at least. The cuts that are
-- known now are still those of the parts.
pub record IsPriced (next : Option ColumnView) (is_last : Bool) (target : Target) (number : ℕ)
    (known : List Cuts) (words : ℕ) : Type 0 where
  pub cuts : CutsFor next target known
  pub least : (set : RuleSetView) (tree : RuleTree) (list : List ℕ) →
      IsStrictlyIncreasing tree.rules → IsIn set target tree list number →
      words ≤ price next is_last list
  pub some : 0 < words
  pub most : words ≤ 256
  pub row : is_last ≡ true → words ≡ row_len

-- The numbers that weren't seen before are priced: whatever lists all of them stand for, the lists
-- not seen before take so many words at least. Each number takes one word or more, and a row all of
-- its own.
pub record ArePriced (place : Place) (target : Target) (numbers : List ℕ) (seen : ℕ)
    (known : List Cuts) (words : ℕ) : Type 0 where
  pub cuts : CutsFor place.next target known
  pub least : (set : RuleSetView) (tree : RuleTree) (lists : List (List ℕ)) →
      IsStrictlyIncreasing tree.rules → AreIn set target tree lists numbers →
      least_cost place.next place.is_last (take seen lists) + words
      ≤ least_cost place.next place.is_last lists
  pub some : length numbers ≤ seen + words
  pub rows : place.is_last ≡ true → row_len * length numbers ≤ row_len * seen + words
  pub most : words ≤ 65536
