-- Rows of ranks, and the rows of rules that they stand for, also where the rules of a group come in another order.
use Rattle.std.proofs.Common.{◌≡◌, ℕ, ◌+◌, ◌<◌, ◌≤◌, ◌/◌, ◌%◌, ◌^◌, ◌==◌, List, [], ◌∷◌, length, map, get_or}
use Rattle.std.proofs.Common.{max, Bool, cond, Option, refl, sym, ◌∙◌, ap, arith, All}
use Rattle.std.specs.List.{AllByRecursion, filter_map}
use Rattle.std.specs.List.Sorted.{IsStrictlyIncreasing, IsPermutation}
use Rattle.std.specs.Option.{option_map_or}
use Rattle.std.proofs.lemmas.List.{ext_get_or}
use Rattle.std.proofs.lemmas.List.Sorted.{list_any-IsPermutation}
use Rattle.std.proofs.lemmas.Option.{slice_get-get_or}
use Rattle.rule_set.specs.Rule.{RuleView, RuleSetView}
use Rattle.rule_set.specs.Rank.{rank_of}
use Rattle.rule_set.specs.Fault.{categories}
use Rattle.rule_set.specs.Winner.{is_in_category}
use Rattle.rule_set.specs.Among.{passes_at, best_among}
use Rattle.rule_set.specs.Laws.{RanksOrderRules, TheBestHasTheGreatestRank}
use Rattle.state_parts.specs.declared.rows.Ranked.{Ranked}
use Rattle.state_parts.specs.declared.target.Target.{Target}
use Rattle.state_parts.specs.Rows.{row_of_rule, row_of_entry, join_rows, best_row}
use Rattle.state_parts.specs.Tree.{leaves}
use Rattle.state_parts.proofs.Offered.{get-join-any}
use Rattle.list_lemmas.proofs.Each.{all_weaker}
use Rattle.group_states.specs.Entry.{ColumnView, number_in, is_entry_cut}
use Rattle.group_states.specs.Lists.{row_list}
use Rattle.group_states.specs.Row.{winner_of, row_of}
use Rattle.list_lemmas.proofs.Among.{SameElements, any_same, same_maps, same_filter_maps}
use Rattle.list_lemmas.proofs.Greatest.{greatest, greatest_constant, greatest_agree, greatest_same}
use Rattle.list_lemmas.proofs.Greatest.{greatest_best, all-map_range, get_or-numbers, place_of}
use Rattle.trie_merge.specs.Cuts.{IsCutAt, Knows}
use Rattle.trie_merge.specs.Names.{no_rule, ranked_at, ranked_of}
use Rattle.trie_merge.specs.Shared.{RuleTree}
use Rattle.trie_merge.specs.Started.{IsStarted}
use Rattle.trie_merge.specs.declared.cuts.Cuts.{Cuts}

-- ---- the row of some entries has the greatest rank of each category

-- as long as the longer one
length_joined : (one other : List ℕ) → length (join_rows one other) ≡ max (length one) (length other)
length_joined [] other = omega arith
length_joined (x ∷ xs) [] = omega arith
length_joined (x ∷ xs) (y ∷ ys) = omega (arith, length_joined xs ys)

module _ (ranked : List Ranked) where
  -- the rank of a rule in a category
  abbrev rank_in : ℕ → ℕ → ℕ
  rank_in category number = get_or (row_of_rule (get_or ranked number (record { mask = 0; rank = 0 }))) category 0

  -- in each category the best row of entries has the greatest rank of their rules
  best_at : (category : ℕ) (entries : List ℕ)
      → get_or (best_row ranked entries) category 0 ≡ greatest (rank_in category) (map number_in entries)
  unfolding row_of_entry
  best_at category [] = refl
  best_at category (e ∷ es) =
      get-join-any (row_of_entry ranked e) (best_row ranked es) category
      ∙ ap (max (rank_in category (number_in e))) (best_at category es)

  -- there are sixteen, or none where there is no entry
  length_best : (entries : List ℕ) → length (best_row ranked entries) ≡ greatest (λ _. 16) (map number_in entries)
  unfolding row_of_entry row_of_rule
  length_best [] = refl
  length_best (e ∷ es) =
      length_joined (row_of_entry ranked e) (best_row ranked es) ∙ ap (max 16) (length_best es)

-- ---- what rows say of a category: the rule that wins plus 1, or 0

-- a rule takes part in a category
abbrev takes_part : ℕ → RuleView → Bool
takes_part category rule = is_in_category rule.tag category

module _ (set : RuleSetView) where
  -- the rule that wins plus 1, or 0
  abbrev said_of : ℕ → List ℕ → ℕ
  said_of category numbers = option_map_or (λ number. number + 1) (winner_of set category numbers) 0

  -- its rank
  abbrev pub rank_said : ℕ → ℕ
  rank_said said = place_of (rank_of set.rules) said

  -- a rule has its rank in the categories that it takes part in
  rank_is : (category number : ℕ) → category < 16 → number < length set.rules
      → rank_in (ranked_of set) category number
      ≡ cond (passes_at (takes_part category) set.rules number) (rank_of set.rules number) 0
  unfolding row_of_rule ranked_of
  rank_is category number below within =
      ap (λ rule. get_or (row_of_rule rule) category 0)
      (get_or-numbers (ranked_at set) (length set.rules) number (record { mask = 0; rank = 0 }) within)
      ∙ get_or-numbers (λ c. cond ((ranked_at set number).mask / 2 ^ c % 2 == 1) (ranked_at set number).rank 0)
      16 category 0 below
      ∙ sym (rw (slice_get-get_or set.rules number no_rule within) refl)

  module _ (order : RanksOrderRules) (law : TheBestHasTheGreatestRank) where
    -- the greatest rank is that of the winner
    said_is : (category : ℕ) (numbers : List ℕ) → category < 16 → IsStrictlyIncreasing numbers
        → All (λ number. number < length set.rules) numbers → (said_of category numbers ≤ length set.rules)
        × (greatest (rank_in (ranked_of set) category) numbers ≡ rank_said (said_of category numbers))
    unfolding best_among
    said_is category numbers below rise inside =
        let passes : ℕ → Bool = passes_at (takes_part category) set.rules in
        let its = greatest_best (rank_of set.rules) (length set.rules) (order.bounds set.rules)
        (order.distinct set.rules) passes numbers (winner_of set category numbers) inside (λ none. rw none refl)
        (λ number best. (law (takes_part category) set.rules numbers number rise).1
        (record { among = best.among; passes = best.passes; below = best.below })) in (
          its.0,
          greatest_agree (rank_in (ranked_of set) category) (λ n. cond (passes n) (rank_of set.rules n) 0) numbers
              (λ k d within. rank_is category (get_or numbers k d) below (inside k d within)) ∙ its.1,
        )

    -- a row of ranks has those of the row of rules, which are of the set
    pub row_says : (entries : List ℕ) → IsStrictlyIncreasing (map number_in entries)
        → All (λ number. number < length set.rules) (map number_in entries)
        → (best_row (ranked_of set) entries ≡ map rank_said (row_list set entries))
        × AllByRecursion (λ said. said ≤ length set.rules) (row_list set entries)
    unfolding row_list row_of categories
    row_says [] rise inside = (refl, tt)
    row_says (e ∷ es) rise inside =
        let numbers : List ℕ = map number_in (e ∷ es) in
        let long : length (best_row (ranked_of set) (e ∷ es)) ≡ 16 = length_best (ranked_of set) (e ∷ es)
        ∙ greatest_constant 16 (number_in e) (map number_in es) in (
          ext_get_or 0 (best_row (ranked_of set) (e ∷ es)) (map rank_said (row_list set (e ∷ es))) long
              (λ i below. (let small : i < 16 = omega (arith, below, long) in
              best_at (ranked_of set) i (e ∷ es) ∙ (said_is i numbers small rise inside).1
              ∙ sym (get_or-numbers (λ c. rank_said (said_of c numbers)) 16 i 0 small))),
          all-map_range (λ said. said ≤ length set.rules) (λ c. said_of c numbers) 0 16
              (λ c below. (said_is c numbers (omega (arith, below)) rise inside).0),
        )

-- ---- the rules of a group in another order: the same entries, the same row, the same cuts

-- the states of a group may begin with another order of its rules
pub started_in_order : (group order : List ℕ) (target : Target) (numbers : List ℕ) → IsPermutation group order
    → IsStarted order target numbers → IsStarted group target numbers
started_in_order group order target numbers moved start = record {
  pairs = start.pairs;
  number = start.number;
  parts = start.parts;
  one = start.one;
  within = start.within;
  order = start.order;
  same = λ rule. start.same rule ∙ sym (list_any-IsPermutation (λ r. r == rule) group order moved);
  all = start.all;
  entries = start.entries;
}

module _ (tree : RuleTree) (f : ℕ → Option ℕ) where
  -- the entries of the leaves
  abbrev here : List ℕ
  here = filter_map f (leaves tree.tree)

  -- and those of the rules
  abbrev there : List ℕ
  there = filter_map f tree.rules

  -- both lists have the same elements
  alike : SameElements here there
  alike = same_filter_maps f (leaves tree.tree) tree.rules tree.same

  -- both lists have one best row
  pub row_arranged : (ranked : List Ranked) → best_row ranked here ≡ best_row ranked there
  row_arranged ranked =
      let same = greatest_same (map number_in here) (map number_in there) (same_maps number_in here there alike) in
      ext_get_or 0 (best_row ranked here) (best_row ranked there)
      (length_best ranked here ∙ same (λ _. 16) ∙ sym (length_best ranked there))
      (λ category below. best_at ranked category here ∙ same (rank_in ranked category)
      ∙ sym (best_at ranked category there))

  -- cuts that tell the one list tell the other
  pub known_arranged : (column : ColumnView) (cuts : Cuts) → Knows column here cuts → Knows column there cuts
  known_arranged column cuts knows = record {
    bytes = knows.bytes;
    long = knows.long;
    listed = knows.listed;
    apart = knows.apart;
    cut = all_weaker (IsCutAt column here) (IsCutAt column there) knows.bytes (λ byte is. record {
      some = is.some;
      small = is.small;
      cut = sym (any_same here there alike (λ entry. is_entry_cut column entry byte)) ∙ is.cut;
    }) knows.cut;
  }
