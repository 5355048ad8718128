-- A filled table answers as its rules do.
use Rattle.std.proofs.Common.{◌≡◌, ℕ, ◌+◌, ◌-◌, ◌*◌, ◌<◌, ◌≤◌, ◌==◌, cond, List, [], ◌∷◌, All, refl, sym, ap, ◌∙◌}
use Rattle.std.proofs.Common.{arith, inl, inr, map, length, get_or, slice_get, Some, zero, suc, false, None, Option}
use Rattle.std.proofs.Common.{fold, replicate, ◌/◌, true, ◌%◌, ◌↔◌, subst, sum_by, flat_map, Contains, le-ltb}
use Rattle.std.proofs.Common.{slice_index, slice_index_or, max}
use Rattle.std.specs.List.{range_with_len, AllByRecursion, list_all}
use Rattle.std.specs.Option.{option_map_or}
use Rattle.list_lemmas.proofs.Loops.{all_each, below_anywhere, list_all_map, list_all_flat_map, below_count}
use Rattle.list_lemmas.proofs.Loops.{same_some}
use Rattle.std.proofs.lemmas.Bool.{cases_eq}
use Rattle.list_lemmas.proofs.Maps.{map_where, flat_map_where, map_by_place}
use Rattle.std.proofs.lemmas.List.FromFn.{get_or-map-range_with_len, length-map-range_with_len, length-range_with_len}
use Rattle.rule_set.specs.Rule.{RuleView, RuleSetView}
use Rattle.rule_set.specs.Rank.{rank_of, ranks_of, comes_below}
use Rattle.rule_set.specs.Winner.{userdata_at, rule_match, is_in_category, winner}
use Rattle.group_states.specs.Levels.{LevelsView, levels_of}
use Rattle.table_sizes.specs.Sizes.{row_len}
use Rattle.flat_table.specs.Walk.{userdatas, moved, root_of, walk_row, bytes_of, joined}
use Rattle.table_fill.specs.Filled.{level_len, rule_word, winner_word, match_of, node_word, succ_word}
use Rattle.table_fill.specs.Filled.{words_of_levels}
use Rattle.table_fill.specs.Filled.{matches_of, words_of_tries, roots_of, table_of_tries, rows_of_tries, filled}
use Rattle.table_fill.specs.Tries.{HasNodes, HasWinners, winner_in, AreLevels, IsTrie}
use Rattle.std.proofs.lemmas.Bool.Decides.{nat_tests, eqb_tells}
use Rattle.std.proofs.lemmas.List.{length-map, get_or-map, take_all, get_or-replicate}
use Rattle.std.proofs.lemmas.Option.{get_or_from_slice_get, slice_get_within}
use Rattle.rule_set.specs.Fault.{categories}
use Rattle.rule_set.specs.Among.{best_among, priority_at, passes_at, winner_among}
use Rattle.group_states.specs.declared.run.Run.{Run}
use Rattle.group_states.specs.declared.run.Succ.{Succ}
use Rattle.group_states.specs.declared.run.Succ.TheVariants.{Dead, State, Row}
use Rattle.group_states.specs.Follow.{followed, IsAnswer, matching}
use Rattle.group_states.specs.Row.{row_of, winner_of}
use Rattle.group_states.specs.Laws.{AreBytes, IsGrouped}
use Rattle.flat_table.specs.Word.{indexes, index_of}
use Rattle.flat_table.specs.Table.{TableView, places_of}
use Rattle.flat_table.proofs.Offered.{row_is, bytes_len}
use Rattle.table_fill.proofs.Nodes.{match_parts, walk_follows}
use Rattle.list_lemmas.proofs.Positions.{HasPart}
use Rattle.table_fill.proofs.Sounds.{parts_of_words, rows_of_trie, StandsIn, no_trie, trie_stands, CanStand}
use Rattle.table_fill.proofs.Sounds.{length-roots}
use Rattle.std.proofs.lemmas.List.Elements.{All-from_recursion, recursion_from_All, All-contains, All-contains_itself}
use Rattle.std.proofs.lemmas.List.Elements.{All-weaker, filter_agree}
use Rattle.list_lemmas.proofs.Counts.{count_all, count_lt}
use Rattle.list_lemmas.proofs.Integers.{le_z_refl}
use Rattle.list_lemmas.proofs.Members.{in_range}
use Rattle.table_fill.specs.Serves.{is_ranked, Serves}
use Rattle.std.specs.List.Sorted.{IsStrictlyIncreasing}
use Rattle.std.proofs.lemmas.List.Sorted.{Contains-permutation}
use Rattle.field_defs.specs.declared.field.FieldDef.{FieldDef}
use Rattle.field_defs.specs.Layout.{key_len_of}
use Rattle.field_defs.proofs.Offered.{short_keys}
use Rattle.rule_set.proofs.Offered.{tests_in_turn, groups_decide, places_in, place_of_group}
use Rattle.rule_set.specs.Groups.{IsPartition, rank_or_none, greatest}
use Rattle.group_states.specs.RuleRest.{values_of}
use Rattle.group_states.specs.Kept.{kept_places, kept_bits}
use Rattle.list_lemmas.proofs.Each.{all-map, all_weaker, map-map}
use Rattle.group_states.proofs.Offered.{runs_lead, some_field}
use Rattle.list_lemmas.proofs.Folds.{greatest_attained, greatest_above, greatest_least}
use Rattle.list_lemmas.proofs.Sums.{sum_by-map}
use Rattle.table_fill.specs.Laws.{CanBeFilled, FilledTablesDecide}
use Rattle.table_fill.proofs.Merged.{places_are, whole_keys, trie_is}
use Rattle.table_sizes.specs.Groups as bits
use Rattle.flat_table.specs.Groups as table

-- ---- words of rows

-- the word of a rule, from its rank and its userdata
pub rule_word_is : (rules : List RuleView) (place : ℕ) (rule : RuleView) (rank userdata : ℕ) → slice_get rules place
    ≡ Some rule → rank ≡ rank_of rules place → userdata ≡ rule.tag.userdata →
    rank * userdatas + userdata ≡ rule_word rules place
rule_word_is rules place rule rank userdata there rank_eq data_eq =
    let its : userdata_at rules (Some place) ≡ rule.tag.userdata =
    ap (λ found. option_map_or (λ (r : RuleView). r.tag.userdata) found 0) there in
    λ i. rank_eq i * userdatas + (data_eq ∙ sym its) i

-- a winner's word is that of its rule
winner_same : (rules : List RuleView) (winner : ℕ) → winner ≤ length rules →
    winner_in (map (rule_word rules) (range_with_len 0 (length rules))) winner ≡ winner_word rules winner
winner_same rules winner within = elim (eqb_tells winner 0) [
  | inl none ↦ rw none.0 refl
  | inr some ↦ rw some.0
      (get_or-map-range_with_len (rule_word rules) 0 (length rules) (winner - 1) (winner - 1) 0
      (omega (arith, within, some.1)) (omega arith))
]

-- the rows are the same with the rules' words worked out first
pub tries_same : (rules : List RuleView) (tries : List LevelsView) → All (HasWinners (length rules)) tries →
    flat_map (λ (trie : LevelsView). map (map (winner_in (map (rule_word rules) (range_with_len 0 (length rules)))))
    trie.rows) tries ≡ flat_map (λ (trie : LevelsView). map (λ row. map (winner_word rules) row) trie.rows) tries
tries_same rules tries small =
    let words : ℕ → ℕ = winner_in (map (rule_word rules) (range_with_len 0 (length rules))) in
    flat_map_where _ _ tries
    (λ i t at. map_where (map words) (map (winner_word rules)) (get_or tries i t).rows
    (λ j row inside. map_where words (winner_word rules) (get_or (get_or tries i t).rows j row)
    (λ k winner within. winner_same rules _ (small i t at j row inside k winner within))))

-- all ranks
pub length-ranks : (rules : List RuleView) → length (ranks_of rules) ≡ length rules
unfolding ranks_of
length-ranks rules = length-map-range_with_len (rank_of rules) 0 (length rules)

-- the rank at a place is that of the rule there
pub rank_at : (rules : List RuleView) (place d : ℕ) → place < length rules → get_or (ranks_of rules) place d
    ≡ rank_of rules place
unfolding ranks_of
rank_at rules place d h = get_or-map-range_with_len (rank_of rules) 0 (length rules) place place d h (omega arith)

-- ---- the walk through a trie

-- a walk from a trie's root ends at the word of what its runs lead to
pub from_root : (words matches key : List ℕ) (place : ℕ) (levels : List (List (List Run))) (places : List ℕ) →
    0 < length (get_or levels 0 []) → AreLevels (length matches) levels → AreBytes key →
    HasPart 0 words place (words_of_levels place matches levels) → place + sum_by level_len levels ≤ indexes
    → length places
    ≡ length levels →
    fold (moved words) (node_word place (get_or (get_or levels 0 []) 0 [])) (map (λ p. get_or key p 0) places)
    ≡ succ_word matches (followed levels places key 0)
from_root words matches key place [] places some are bytes has fits long = absurd (omega (arith, some))
from_root words matches key place (states ∷ levels) [] some are bytes has fits long = absurd (omega (arith, long))
from_root words matches key place ([] ∷ levels) (p ∷ places) some are bytes has fits long = absurd (omega (arith, some))
from_root words matches key place ((runs ∷ states) ∷ levels) (p ∷ places) some are bytes has fits long =
    walk_follows words matches key place (runs ∷ states) levels p places 0 are
    (all_each (λ at. get_or key at 0 < 256) (λ at. below_anywhere 256 key at (omega arith) bytes) (p ∷ places)) has fits
    (omega (arith, long)) (omega arith)

-- the row of a walk is the index of the word that stands after all its bytes
pub walk_to : (tbl : TableView) (trie : ℕ) (key : List ℕ) → walk_row tbl trie key
    ≡ index_of (fold (moved tbl.words) (root_of tbl trie) (bytes_of tbl trie key))
walk_to tbl trie key =
    row_is tbl trie key
    ∙ ap (λ (bytes : List ℕ). index_of (fold (moved tbl.words) (root_of tbl trie) bytes))
    (take_all (length (places_of tbl trie)) (bytes_of tbl trie key) (omega (arith, bytes_len tbl trie key)))

-- ---- the word of a category

-- the word of the rule that wins, or 0
abbrev pub word_or_none : List RuleView → Option ℕ → ℕ
word_or_none rules found = option_map_or (rule_word rules) found 0

-- the word of a winner's number plus 1 is that of the winner, and 0 if there is none
winner_says : (rules : List RuleView) (found : Option ℕ) →
    winner_word rules (option_map_or (λ number. number + 1) found 0) ≡ word_or_none rules found
winner_says rules None = refl
winner_says rules (Some number) =
    let back : number + 1 - 1 ≡ number = omega arith in
    let more : (number + 1 == 0) ≡ false = grind (arith, nat_tests) in
    ap (λ b. cond b 0 (rule_word rules (number + 1 - 1))) more ∙ ap (rule_word rules) back

-- what a row has for a category
of_row : (set : RuleSetView) (numbers : List ℕ) (category : ℕ) → category < row_len →
    get_or (map (winner_word set.rules) (row_of set numbers)) category 0
    ≡ word_or_none set.rules (winner_of set category numbers)
unfolding row_of categories
of_row set numbers category within =
    let f : ℕ → ℕ = λ c. option_map_or (λ number. number + 1) (winner_of set c numbers) 0 in
    get_or-map (winner_word set.rules) (map f (range_with_len 0 row_len)) category 0 0
    (omega (arith, length-map-range_with_len f 0 row_len, within))
    ∙ ap (winner_word set.rules) (get_or-map-range_with_len f 0 row_len category category 0 within (omega arith))
    ∙ winner_says set.rules (winner_of set category numbers)

module _ (set : RuleSetView) (rows : List (List ℕ)) (row : ℕ) (trie : LevelsView) (numbers : List ℕ) (category : ℕ)
    (within : category < row_len)
    (zeros : get_or rows 0 [] ≡ replicate row_len 0) (has : HasPart [] rows row (rows_of_trie set.rules trie))
    (fits : row + length trie.rows ≤ indexes) where
  -- the row to which a walk leads has the word of the rule that wins in the category
  pub answered : (succ : Succ) → IsAnswer set trie.rows numbers succ →
      slice_index (slice_index_or rows (index_of (succ_word (matches_of row trie) succ)) []) category
      ≡ word_or_none set.rules (winner_of set category numbers)
  unfolding best_among
  answered Dead none =
      ap (λ n. get_or (get_or rows n []) category 0) (match_parts 0 (omega arith)).names
      ∙ ap (λ (r : List ℕ). get_or r category 0) zeros
      ∙ get_or-replicate row_len category 0 0 within
      ∙ sym (ap (word_or_none set.rules) (ap (winner_of set category) none))
  answered (State number) none = absurd none
  answered (Row number) is =
      let there = slice_get_within trie.rows number (row_of set numbers) is.1 in
      let its = get_or_from_slice_get trie.rows number (row_of set numbers) [] is.1 in
      let name : index_of (get_or (matches_of row trie) number 0) ≡ row + number =
      ap index_of (get_or-map-range_with_len match_of row (length trie.rows) number (row + number) 0 there refl)
      ∙ (match_parts (row + number) (omega (arith, there, fits))).names in
      ap (λ n. get_or (get_or rows n []) category 0) name
      ∙ ap (λ (r : List ℕ). get_or r category 0)
      (has number (omega (arith, there, length-map trie.rows (λ r. map (winner_word set.rules) r)))
      ∙ get_or-map (λ r. map (winner_word set.rules) r) trie.rows number [] [] there
      ∙ ap (map (winner_word set.rules)) its)
      ∙ of_row set numbers category within

-- ---- the rows of a filled table have the words of rules

-- userdata is below its bound
pub small_userdata : (rules : List RuleView) (place : ℕ) →
    All (λ (rule : RuleView). rule.tag.userdata < userdatas) rules → userdata_at rules (Some place) < userdatas
small_userdata rules place all =
    from rules place (recursion_from_All (λ (rule : RuleView). rule.tag.userdata < userdatas) rules all)
  where
    from : (rs : List RuleView) (k : ℕ) → AllByRecursion (λ (rule : RuleView). rule.tag.userdata < userdatas) rs →
        userdata_at rs (Some k) < userdatas
    from [] k all = omega arith
    from (r ∷ rs) zero all = all.0
    from (r ∷ rs) (suc k) all = from rs k all.1

-- a rule doesn't come below itself
not_below_itself : (rules : List RuleView) (place : ℕ) → comes_below rules place place ≡ false
not_below_itself rules place =
    rw (le_z_refl (priority_at rules place)) (le-ltb place place (omega arith))

-- so its rank is no greater than the number of rules
rank_within : (rules : List RuleView) (place : ℕ) → place < length rules → rank_of rules place ≤ length rules
rank_within rules place here =
    let all : List ℕ = range_with_len 0 (length rules) in
    let fewer = count_lt (comes_below rules place) (λ x. true) all place (λ x h. refl)
    (in_range 0 (length rules) place (omega arith) (omega arith)) (not_below_itself rules place) refl in
    omega (arith, fewer, count_all all, length-range_with_len 0 (length rules))

-- the word of a rule has its rank in the high half
ranked_rule : (rules : List RuleView) (place : ℕ) → place < length rules →
    userdata_at rules (Some place) < userdatas → is_ranked (length rules) (rule_word rules place) ≡ true
ranked_rule rules place here small =
    let high : rule_word rules place / userdatas ≡ rank_of rules place = omega (arith, small) in
    rw high (grind (arith, nat_tests, rank_within rules place here))

module _ (rules : List RuleView) (small : All (λ (rule : RuleView). rule.tag.userdata < userdatas) rules) where
  -- the word of a winner has a rank of the rules
  ranked_winner : (winner : ℕ) → winner ≤ length rules → is_ranked (length rules) (winner_word rules winner) ≡ true
  ranked_winner winner within =
      elim (eqb_tells winner 0) [
        | inl none ↦ rw none.0 refl
        | inr some ↦ rw some.0
            (ranked_rule rules (winner - 1) (omega (arith, within, some.1))
            (small_userdata rules (winner - 1) small))
      ]

  -- each word of the rows has a rank of the rules
  pub ranked_rows : (tries : List LevelsView) → All (HasWinners (length rules)) tries →
      list_all (list_all (is_ranked (length rules))) (flat_map (rows_of_trie rules) tries) ≡ true
  ranked_rows tries all =
      list_all_flat_map (list_all (is_ranked (length rules))) (rows_of_trie rules) tries
      (λ t trie in_tries. list_all_map (list_all (is_ranked (length rules))) (map (winner_word rules)) _
      (λ r row in_rows. list_all_map (is_ranked (length rules)) (winner_word rules) _
      (λ w winner in_row. ranked_winner _ (all t trie in_tries r row in_rows w winner in_row))))

-- ---- the winner of a group is the best of its rules that match

module _ (set : RuleSetView) (key : List ℕ) (some : 0 < key_len_of set.layout) where
  -- a rule's values match the key exactly if the rule at its place passes
  same_match : (number : ℕ) → rule_match set.layout (values_of set number) key
      ≡ passes_at (λ rule. rule_match set.layout rule.fields key) set.rules number
  same_match number = by (slice_get set.rules number)
    where
      by : (found : Option RuleView) → rule_match set.layout (option_map_or (λ (rule : RuleView). rule.fields) found [])
          key ≡ option_map_or (λ (rule : RuleView). rule_match set.layout rule.fields key) found false
      by None = some_field set.layout key some
      by (Some rule) = refl

  -- the winner of the rules of a group that match is that of the group
  pub group_winner : (group : List ℕ) (category : ℕ) → winner_of set category (matching set group key)
      ≡ winner_among set.layout set.rules group key category
  group_winner group category =
      ap (λ numbers. best_among (λ rule. is_in_category rule.tag category) set.rules numbers)
      (filter_agree (λ number. rule_match set.layout (values_of set number) key)
      (passes_at (λ rule. rule_match set.layout rule.fields key) set.rules) same_match group)
      ∙ sym (tests_in_turn (λ rule. rule_match set.layout rule.fields key) (λ rule. is_in_category rule.tag category)
      set.rules group)

-- ---- the winner's word is the greatest

-- a rank above 0 is that of a rule that was found
some_is : (o : Option ℕ) (rules : List RuleView) (m : ℕ) → 0 < m → rank_or_none rules o ≡ m → (place : ℕ)
    × (o ≡ Some place) × (rank_of rules place ≡ m)
some_is None rules m some is = absurd (omega (arith, some, is))
some_is (Some place) rules m some is = (place, refl, is)

module _ (layout : List FieldDef) (rules : List RuleView) (groups : List (List ℕ)) (key : List ℕ) (category : ℕ)
    (parts : IsPartition (length rules) groups)
    (small : All (λ (rule : RuleView). rule.tag.userdata < userdatas) rules) where
  -- the winner of a group, its rank and its word
  wins_in : List ℕ → Option ℕ
  wins_in group = winner_among layout rules group key category

  -- the rank of a group's winner, or 0
  rank_in : List ℕ → ℕ
  rank_in group = rank_or_none rules (winner_among layout rules group key category)

  -- the word of a group's winner, or 0
  word_in : List ℕ → ℕ
  word_in group = word_or_none rules (winner_among layout rules group key category)

  -- no group's word is above that of the winner of all
  no_higher : (p : ℕ) → winner layout rules key category ≡ Some p → greatest (map rank_in groups) ≡ rank_of rules p →
      (k : ℕ) → k < length groups → (o : Option ℕ) →
      winner_among layout rules (get_or groups k []) key category ≡ o → word_or_none rules o ≤ rule_word rules p
  unfolding rank_in wins_in
  no_higher p win top k within None is = omega arith
  no_higher p win top k within (Some q) is =
      let bound : rank_of rules q ≤ rank_of rules p =
      omega (arith, greatest_above rank_in [] 0 groups k within, ap (rank_or_none rules) is, top) in
      elim (cases_eq (rank_of rules q) (rank_of rules p)) [
        | inl same ↦
            let wins = groups_decide.wins layout rules groups key category q (get_or groups k []) parts
            (All-contains_itself groups k [] within) is (same ∙ sym top) in
            omega (arith, ap (rule_word rules) (same_some p q (sym win ∙ wins)))
        | inr apart ↦ omega (arith, bound, apart, small_userdata rules q small)
      ]

  -- the greatest word of all groups is that of the rule that wins
  pub greatest_word : (found : Option ℕ) → winner layout rules key category ≡ found →
      greatest (map (λ group. word_or_none rules (winner_among layout rules group key category)) groups)
      ≡ word_or_none rules found
  unfolding word_in rank_in wins_in
  greatest_word None win =
      let none = (groups_decide.none layout rules groups key category parts).0 win in
      omega (
        arith,
        greatest_least word_in [] 0 0 groups (omega arith)
            (λ k within. omega (arith, ap (word_or_none rules) (none k [] within))),
      )
  greatest_word (Some p) win =
      let top : greatest (map rank_in groups) ≡ rank_of rules p = groups_decide.rank layout rules groups key category
      parts ∙ ap (rank_or_none rules) win in
      let at = greatest_attained rank_in [] 0 groups (omega (arith, top)) in
      let its = some_is (wins_in (get_or groups at.0 [])) rules (rank_of rules p) (omega arith) (at.2 ∙ top) in
      let wins = groups_decide.wins layout rules groups key category its.0 (get_or groups at.0 []) parts
      (All-contains_itself groups at.0 [] at.1) its.1 (its.2 ∙ sym top) in
      let same : its.0 ≡ p = same_some its.0 p (sym wins ∙ win) in
      let reached : word_in (get_or groups at.0 []) ≡ rule_word rules p = ap (word_or_none rules) its.1
      ∙ ap (rule_word rules) same in
      omega (
        arith,
        reached,
        greatest_above word_in [] 0 groups at.0 at.1,
        greatest_least word_in [] 0 (rule_word rules p) groups (omega arith)
            (λ k within. no_higher p win top k within (wins_in (get_or groups k [])) refl),
      )

-- ---- the tries of the groups

module _ (set : RuleSetView) (groups : List (List ℕ)) (can : CanBeFilled set groups) where
  -- each group is one of the rules of the set
  group_is : (group : List ℕ) → Contains groups group → IsGrouped set group
  group_is group at = record {
    rules = can.rules;
    layout = can.layout;
    group = record {
      some = All-contains (λ g. 0 < length g) groups group can.partition.some at;
      ascending = All-contains IsStrictlyIncreasing groups group can.partition.ascending at;
      within = All-weaker (Contains group) (λ number. number < length set.rules)
          (λ place has. below_count (length set.rules) place
          (Contains-permutation (places_in groups) (range_with_len 0 (length set.rules)) place can.partition.once
          (place_of_group groups group place at has)))
          group (All-contains_itself group);
    };
  }

  -- the merged states of the groups are tries of the set
  pub tries_are : AllByRecursion (IsTrie set) (map (levels_of set) groups)
  tries_are = all-map (IsTrie set) (levels_of set) groups
      (recursion_from_All (λ group. IsTrie set (levels_of set group)) groups
      (λ k d within. trie_is set _ (group_is _ (All-contains_itself groups k d within))
      (whole_keys set.layout can.layout)))

  -- the table of these tries isn't too large
  pub can_stand : CanStand set (map (levels_of set) groups)
  can_stand = record {
    tries_are = tries_are;
    few = omega (arith, can.few, length-map groups (levels_of set));
    key = whole_keys set.layout can.layout;
    size = omega (
      arith,
      can.size,
      sum_by-map (λ (trie : LevelsView). trie.words) (levels_of set) groups,
      parts_of_words (map (levels_of set) groups)
          (all_weaker (IsTrie set) HasNodes (map (levels_of set) groups) (λ trie is. is.nodes) tries_are),
    );
  }

  -- ---- the word that a trie gives

  -- the merged states keep the bits of the group
  level_parts : (group : List ℕ) → ((levels_of set group).kept ≡ kept_bits set group)
  unfolding levels_of
  level_parts group = refl

  module _ (key : List ℕ) (category : ℕ) (bytes : AreBytes key) (long : length key ≡ key_len_of set.layout)
      (within : category < row_len) where
    -- the table of the groups
    abbrev tbl : TableView
    tbl = table_of_tries set (map (levels_of set) groups)

    -- the walk through a group's trie leads to the word of the group's winner
    word_of_trie : (t : ℕ) → t < length groups →
        slice_index (slice_index_or tbl.rows (walk_row tbl t key) []) category
        ≡ word_or_none set.rules (winner_among set.layout set.rules (get_or groups t []) key category)
    unfolding table_of_tries rows_of_tries
    word_of_trie t below =
        let ts : List LevelsView = map (levels_of set) groups in
        let group : List ℕ = get_or groups t [] in
        let is = group_is group (All-contains_itself groups t [] below) in
        let trie_eq : get_or ts t no_trie ≡ levels_of set group = get_or-map (levels_of set) groups t [] no_trie below
        in
        let rows : List (List ℕ) = rows_of_tries set.rules ts in
        let words : List ℕ = words_of_tries 0 1 ts in
        let can_size = can_stand.size in
        let stands = subst (StandsIn set.rules words rows (get_or (roots_of 0 ts) t 0)) trie_eq
        (trie_stands set.rules words rows 0 1 ts t (omega (arith, below, length-map groups (levels_of set)))
        (λ k inside. (let e : 0 + k ≡ k = omega arith in ap (λ n. get_or words n 0) e))
        (λ k inside. (let e : 1 + k ≡ suc k = omega arith in ap (λ n. get_or rows n []) e))
        (omega (arith, can_size)) (omega (arith, can_size))) in
        let trie : LevelsView = levels_of set group in
        let trie_has = trie_is set group is (whole_keys set.layout can.layout) in
        let places : List ℕ = kept_places set group in
        let matches : List ℕ = matches_of stands.row trie in
        let count : length matches ≡ length trie.rows = length-map-range_with_len match_of stands.row (length trie.rows)
        in
        let walked = from_root words matches key stands.place trie.levels places trie_has.nodes.some
        (subst (λ n. AreLevels n trie.levels) (sym count) trie_has.nodes.levels_lead) bytes stands.has stands.fits
        (ap length (sym (places_are set group)) ∙ ap (λ k. table.depth_of (key_len_of set.layout) k)
        (sym (level_parts group)) ∙ trie_has.depth) in
        let kept_is : get_or (map (λ (t : LevelsView). t.kept) ts) t 0 ≡ kept_bits set group =
        get_or-map (λ (t : LevelsView). t.kept) ts t no_trie 0 (omega (arith, below, length-map groups (levels_of set)))
        ∙ ap (λ (t : LevelsView). t.kept) trie_eq ∙ level_parts group in
        let bytes_are : bytes_of tbl t key ≡ map (λ p. get_or key p 0) places =
        ap (λ k. map (λ p. get_or key p 0) (bits.kept_places (key_len_of set.layout) k)) kept_is
        ∙ ap (map (λ p. get_or key p 0)) (places_are set group) in
        let to : walk_row tbl t key ≡ index_of (succ_word matches (followed trie.levels places key 0)) =
        walk_to tbl t key
        ∙ (λ i. index_of (fold (moved words) (stands.root_is i) (bytes_are i)))
        ∙ ap index_of walked in
        ap (λ n. slice_index (slice_index_or rows n []) category) to
        ∙ answered set rows stands.row trie (matching set group key) category within refl stands.has_rows
        stands.few (followed trie.levels places key 0) (runs_lead set group key is bytes long)
        ∙ ap (word_or_none set.rules) (group_winner set key (short_keys set.layout can.layout).0 group category)

    -- the joined word is that of the winner
    joined_is : joined tbl key category ≡ word_or_none set.rules (winner set.layout set.rules key category)
    unfolding table_of_tries
    joined_is =
        let ts : List LevelsView = map (levels_of set) groups in
        let f : ℕ → ℕ = λ t. slice_index (slice_index_or tbl.rows (walk_row tbl t key) []) category in
        let g : List ℕ → ℕ = λ group. word_or_none set.rules (winner_among set.layout set.rules group key category) in
        let count : length (roots_of 0 ts) ≡ length groups = length-roots 0 ts ∙ length-map groups (levels_of set) in
        ap (fold max 0)
        (map-map (λ (row : List ℕ). slice_index row category) (λ t. slice_index_or tbl.rows (walk_row tbl t key) [])
        (range_with_len 0 (length (roots_of 0 ts)))
        ∙ ap (λ n. map f (range_with_len 0 n)) count
        ∙ map_by_place f g [] 0 groups (λ t below. ap f (omega arith) ∙ word_of_trie t below))
        ∙ greatest_word set.layout set.rules groups key category can.partition can.userdata
        (winner set.layout set.rules key category) refl

  -- the verdict and the mark of none, from the joined word
  verdict_of : (found : Option ℕ) → word_or_none set.rules found % userdatas ≡ userdata_at set.rules found
  verdict_of None = refl
  verdict_of (Some place) = omega (arith, small_userdata set.rules place can.userdata)

  -- the word is 0 exactly if there is no winner
  none_of : (found : Option ℕ) → (word_or_none set.rules found ≡ 0 ↔ found ≡ None)
  none_of None = (λ zero_word. refl, λ none. refl)
  none_of (Some place) = (λ zero_word. absurd (omega (arith, zero_word)), λ none. absurd (cc))

  -- the table answers as the rules do
  pub decide : Serves set (filled set groups)
  unfolding filled table_of_tries rows_of_tries
  decide = record {
    key_len = refl;
    verdicts = λ key category bytes long within.
        ap (λ word. word % userdatas) (joined_is key category bytes long within)
        ∙ verdict_of (winner set.layout set.rules key category);
    none = λ key category bytes long within.
        subst (λ word. (word ≡ 0 ↔ winner set.layout set.rules key category ≡ None))
        (sym (joined_is key category bytes long within)) (none_of (winner set.layout set.rules key category));
    rules = refl;
    ranked = ranked_rows set.rules can.userdata (map (levels_of set) groups)
        (All-from_recursion (HasWinners (length set.rules)) (map (levels_of set) groups)
        (all_weaker (IsTrie set) (HasWinners (length set.rules)) (map (levels_of set) groups)
        (λ trie is. is.winners) tries_are));
  }

-- a filled table answers for each key and category as its rules do
pub filled_tables_decide : FilledTablesDecide
filled_tables_decide = decide
