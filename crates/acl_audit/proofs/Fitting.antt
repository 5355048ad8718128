-- What the merged states of all rules hold, so that they can be gone through.
use Rattle.std.proofs.Common.{◌≡◌, ℕ, suc, ◌+◌, ◌-◌, ◌*◌, ◌^◌, ◌<◌, ◌≤◌, ◌==◌, List, [], ◌∷◌, length, map}
use Rattle.std.proofs.Common.{get_or, filter, Bool, true, false, cond, Some, refl, sym, ◌∙◌, ap, subst, arith, All}
use Rattle.std.proofs.Common.{inl, inr, true≢false, nat_le, ◌&&◌}
use Rattle.std.specs.List.{AllByRecursion, Contains, range_with_len, sum_by, position_from}
use Rattle.std.specs.Str.{bytes_eq}
use Rattle.std.proofs.lemmas.Bool.{cases_Bool}
use Rattle.std.proofs.lemmas.List.{get_or_default}
use Rattle.std.proofs.lemmas.List.Elements.{All-weaker, All-contains_itself, All-from_recursion}
use Rattle.std.proofs.lemmas.List.FromFn.{length-range_with_len, length-map-range_with_len}
use Rattle.std.proofs.lemmas.List.Sums.{sum_by-cons, get_or-le-sum_by}
use Rattle.list_lemmas.proofs.Counts.{increasing_range}
use Rattle.list_lemmas.proofs.Maps.{filter_on_range}
use Rattle.list_lemmas.proofs.Positions.{filter-range-below}
use Rattle.list_lemmas.proofs.Sums.{bit_is}
use Rattle.field_defs.specs.Layout.{key_len_of}
use Rattle.field_defs.proofs.Offered.{short_keys}
use Rattle.rule_set.specs.Fault.{categories}
use Rattle.rule_set.specs.Laws.{TheWinnerIsAmongAllPlaces}
use Rattle.rule_set.specs.Rule.{RuleSetView}
use Rattle.rule_set.specs.Winner.{applies, is_greatest, winner}
use Rattle.table_sizes.specs.Sizes.{cost_of, max_words, row_len}
use Rattle.group_states.specs.declared.run.Run.{Run}
use Rattle.group_states.specs.Found.{prefixes}
use Rattle.table_sizes.specs.Groups.{group_of}
use Rattle.table_sizes.specs.Groups as bits
use Rattle.group_states.specs.Kept.{is_kept, kept_places, kept_bits}
use Rattle.group_states.specs.Laws.{IsGrouped}
use Rattle.group_states.specs.Levels.{IsGroup, levels_of}
use Rattle.group_states.specs.Row.{final_row, row_of, winner_of}
use Rattle.group_states.specs.State.{Held, state, is_live}
use Rattle.list_lemmas.proofs.Each.{all_weaker, all-map}
use Rattle.group_states.proofs.Offered.{All-found_in, prefixes_are, IsPrefix, whole_numbers}
use Rattle.acl_audit.specs.Least.{all_rules}
use Rattle.acl_audit.proofs.Telling.{rows_are}
use Rattle.acl_audit.proofs.Winning.{row_at, entry_for, entry_is, winner_matching}
use Rattle.list_lemmas.proofs.Loops.{below_count}

-- ---- the group of all rules

-- the rules of a set that has some are a group
pub all_are_group : (set : RuleSetView) → 0 < length set.rules → IsGroup set (all_rules set)
all_are_group set some =
    let n : ℕ = length set.rules in
    let all : List ℕ = range_with_len 0 n in
    record {
      some = omega (arith, some, length-range_with_len 0 n);
      ascending = increasing_range n;
      within = All-weaker (Contains all) (λ number. number < n) (below_count n) all (All-contains_itself all);
    }

-- ---- the kept places

module _ (set : RuleSetView) (group : List ℕ) where
  -- a place is kept in the word exactly if its group is kept
  bit_says : (place : ℕ) → place < key_len_of set.layout → bits.is_kept (kept_bits set group) place
      ≡ is_kept set group (group_of place)
  unfolding kept_bits
  bit_says place within =
      let n : ℕ = 1 + group_of (key_len_of set.layout - 1) in
      let bit = bit_is (is_kept set group) n (group_of place) (omega (arith, within)) in
      ap (λ b. b == 1) bit ∙ by (is_kept set group (group_of place))
    where
      by : (b : Bool) → (cond b 1 0 == 1) ≡ b
      by true = refl
      by false = refl

  -- the kept places of the merged states are those of the group
  pub places_are : bits.kept_places (key_len_of set.layout) (levels_of set group).kept ≡ kept_places set group
  unfolding kept_places levels_of
  places_are =
      filter_on_range (bits.is_kept (kept_bits set group)) (λ place. is_kept set group (group_of place)) 0
      (key_len_of set.layout) (λ k from below. bit_says k (omega (arith, below)))

  -- each kept place is one of a key
  pub places_below : All (λ place. place < key_len_of set.layout) (kept_places set group)
  unfolding kept_places
  places_below = λ k d below.
      (let low = filter-range-below (λ place. is_kept set group (group_of place)) 0 (key_len_of set.layout) k below in
      omega (
        arith,
        low,
        get_or_default (filter (λ place. is_kept set group (group_of place)) (range_with_len 0 (key_len_of set.layout)))
            k d 0 below,
      ))

  -- ---- how many states and rows there are

  -- a state takes at least one word
  some_cost : (runs : ℕ) → 1 ≤ cost_of runs
  some_cost runs = elim (cases_Bool (runs == 1)) [
    | inl one ↦ rw one (omega arith)
    | inr more ↦ elim (cases_Bool (nat_le runs 5)) [
      | inl few ↦ rw more (rw few (omega arith))
      | inr many ↦ rw more (rw many (omega arith))
    ]
  ]

  -- there are at most as many states as their words
  count_by_words : (states : List (List Run)) → length states
      ≤ sum_by (λ (runs : List Run). cost_of (length runs)) states
  count_by_words [] = omega arith
  count_by_words (runs ∷ states) =
      omega (
        arith,
        sum_by-cons (λ (rs : List Run). cost_of (length rs)) runs states,
        some_cost (length runs),
        count_by_words states,
      )

  -- the words of the merged states are those of all states and of the rows
  words_are : (levels_of set group).words
      ≡ sum_by (λ (states : List (List Run)). sum_by (λ (runs : List Run). cost_of (length runs)) states)
      (levels_of set group).levels + row_len * length (levels_of set group).rows
  unfolding levels_of
  words_are = refl

  -- each place has at most as many states as a number of 32 bits counts
  pub few_states : (levels_of set group).words ≤ max_words
      → All (λ (states : List (List Run)). length states ≤ 2 ^ 32) (levels_of set group).levels
  few_states within = λ k d below.
      omega (
        arith,
        within,
        words_are,
        count_by_words (get_or (levels_of set group).levels k d),
        get_or-le-sum_by
            (λ (states : List (List Run)). sum_by (λ (runs : List Run). cost_of (length runs)) states)
            (levels_of set group).levels k d below,
      )

  -- there are fewer rows than a number of 32 bits counts
  pub few_rows : (levels_of set group).words ≤ max_words → length (levels_of set group).rows < 2 ^ 32
  few_rows within = omega (arith, within, words_are)

-- ---- what the rows hold

-- the entry of what is found is at most the number of all that was looked at
position_low : {X : Type 0} (p : X → Bool) (n : ℕ) (xs : List X) → entry_for (position_from p n xs) ≤ n + length xs
position_low p n [] = omega arith
position_low p n (x ∷ xs) = by (p x) (position_low p (n + 1) xs)
  where
    by : (b : Bool) → entry_for (position_from p (n + 1) xs) ≤ n + 1 + length xs
        → entry_for (cond b (Some n) (position_from p (n + 1) xs)) ≤ n + suc (length xs)
    by true rest = omega arith
    by false rest = omega (arith, rest)

-- a final row that is live has an entry for each category
final_long : (set : RuleSetView) (s : List Held) → is_live (final_row set s) ≡ true → length (final_row set s) ≡ row_len
unfolding final_row row_of categories
final_long set [] live = absurd (true≢false (sym live))
final_long set (held ∷ s) live = length-map-range_with_len
    (λ c. entry_for (winner_of set c (map (λ (h : Held). h.number) (held ∷ s)))) 0 16

module _ (set : RuleSetView) (is : IsGrouped set (all_rules set)) (among : TheWinnerIsAmongAllPlaces) where
  -- an entry of a key's row is that of the winner of the key
  pub entry_is_winner : (key : List ℕ) → length key ≡ key_len_of set.layout → (category : ℕ) → category < row_len
      → get_or (final_row set (state set (all_rules set) key)) category 0
      ≡ entry_for (winner set.layout set.rules key category)
  entry_is_winner key long category within =
      entry_is set (state set (all_rules set) key) category within
      ∙ ap (λ numbers. entry_for (winner_of set category numbers)) (whole_numbers set (all_rules set) key long)
      ∙ ap entry_for (winner_matching set key (short_keys set.layout is.layout).0 among category)

  -- an entry of a key's row is at most the number of rules
  entry_low : (key : List ℕ) → length key ≡ key_len_of set.layout → (category : ℕ) → category < row_len
      → get_or (final_row set (state set (all_rules set) key)) category 0 ≤ length set.rules
  entry_low key long category within =
      let is_winner = entry_is_winner key long category within in
      let low = position_low (λ rule. applies set.layout key category rule && is_greatest
      (filter (applies set.layout key category) set.rules) rule) 0 set.rules in
      omega (arith, is_winner, low)

  -- A row as wide as there are categories, whose entries are numbers of rules plus 1, or 0.
  record IsWhole (row : List ℕ) : Type 0 where
    long : length row ≡ row_len
    low : All (λ entry. entry ≤ length set.rules) row

  -- each row of the merged states is such a row
  rows_whole : AllByRecursion IsWhole (levels_of set (all_rules set)).rows
  rows_whole =
      subst (AllByRecursion IsWhole) (sym (rows_are set is among))
      (all-map IsWhole (row_at set is among 0 0 (omega arith)) _
      (All-found_in
      (λ x y. bytes_eq (final_row set (state set (all_rules set) x)) (final_row set (state set (all_rules set) y)))
      (λ x. is_live (final_row set (state set (all_rules set) x)))
      (λ key. IsWhole (final_row set (state set (all_rules set) key)))
      (prefixes (key_len_of set.layout))
      (all_weaker (IsPrefix (key_len_of set.layout))
      (λ key. is_live (final_row set (state set (all_rules set) key)) ≡ true
      → IsWhole (final_row set (state set (all_rules set) key))) (prefixes (key_len_of set.layout))
      (λ key begins live.
      (let long = final_long set (state set (all_rules set) key) live in record {
        long = long;
        low = λ category d below. subst (λ n. n ≤ length set.rules)
            (get_or_default (final_row set (state set (all_rules set) key)) category 0 d below)
            (entry_low key begins.1 category (omega (arith, below, long)));
      })) (prefixes_are (key_len_of set.layout)))))

  -- each row has an entry for each category
  pub rows_long : All (λ row. length row ≡ row_len) (levels_of set (all_rules set)).rows
  rows_long = All-from_recursion (λ row. length row ≡ row_len) (levels_of set (all_rules set)).rows
      (all_weaker IsWhole (λ row. length row ≡ row_len) (levels_of set (all_rules set)).rows (λ row whole. whole.long)
      rows_whole)

  -- each entry of a row is at most the number of rules
  pub rows_low : All (All (λ entry. entry ≤ length set.rules)) (levels_of set (all_rules set)).rows
  rows_low = All-from_recursion (All (λ entry. entry ≤ length set.rules)) (levels_of set (all_rules set)).rows
      (all_weaker IsWhole (All (λ entry. entry ≤ length set.rules)) (levels_of set (all_rules set)).rows
      (λ row whole. whole.low) rows_whole)
