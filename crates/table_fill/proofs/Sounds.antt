-- Filled tables are sound.
use Rattle.std.proofs.Common.{◌≡◌, ℕ, zero, suc, ◌+◌, ◌*◌, ◌<◌, ◌≤◌, ◌==◌, Bool, true, false, cond, not, ◌&&◌, List, []}
use Rattle.std.proofs.Common.{◌∷◌, ◌++◌, nat_le, nat_lt, refl, sym, ap, ◌∙◌, arith, inl, inr, map, length, take, drop}
use Rattle.std.proofs.Common.{get_or, sum, length-append, Some, None, ◌-◌, flat_map, sum_by, zip, option_map, le-leb}
use Rattle.std.proofs.Common.{eq-eqb, lt-ltb, All}
use Rattle.std.specs.List.{AllByRecursion, position_from, range_with_len}
use Rattle.std.specs.Option.{option_or}
use Rattle.std.proofs.lemmas.Bool.{cases_lt}
use Rattle.std.proofs.lemmas.Bool.Decides.{nat_tests}
use Rattle.std.proofs.lemmas.List.Elements.{All-from_recursion, recursion_from_All, All-append, All-map, All-replicate}
use Rattle.std.proofs.lemmas.List.Elements.{All-same, All-weaker}
use Rattle.list_lemmas.proofs.Maps.{map_where, All-flat_map}
use Rattle.list_lemmas.proofs.Each.{map-map}
use Rattle.rule_set.specs.Rule.{RuleView, RuleSetView}
use Rattle.std.proofs.lemmas.List.Sums.{get_or-le-sum_by, sum_by-cons, sum_by-append, sum-map}
use Rattle.table_fill.specs.Filled.{root_at, match_of, node_word, node_words, succ_word, level_len, words_into}
use Rattle.table_fill.specs.Filled.{targets_of, words_of_levels, nodes_len, matches_of, words_of_tries, roots_of}
use Rattle.table_fill.specs.Filled.{level_lens_of, rows_of_tries, winner_word, table_of_tries}
use Rattle.table_fill.specs.Tries.{HasNodes, IsThere, AreRuns, AreLevels, IsTrie, row_count}
use Rattle.std.proofs.lemmas.List.{length-map, take_at, drop_at}
use Rattle.std.proofs.lemmas.List.FromFn.{get_or-map-range_with_len}
use Rattle.list_lemmas.proofs.Positions.{HasPart, has_front, has_rest}
use Rattle.group_states.specs.declared.run.Run.{Run}
use Rattle.group_states.specs.declared.run.Succ.{Succ}
use Rattle.group_states.specs.declared.run.Succ.TheVariants.{Dead, State, Row}
use Rattle.group_states.specs.Found.{all_bytes}
use Rattle.group_states.specs.Follow.{run_to}
use Rattle.table_sizes.specs.Sizes.{cost_of, few_runs, max_tries, max_words, row_len}
use Rattle.group_states.specs.Levels.{LevelsView}
use Rattle.flat_table.specs.declared.level.Level.{Level}
use Rattle.flat_table.specs.Word.{indexes, index_of, is_match, is_unbounded}
use Rattle.flat_table.specs.Table.{TableView, levels_from, portions, depths_of, trie_levels}
use Rattle.flat_table.specs.Sound.{leads_into, is_sound_word, first_level, unsound_word, first_some}
use Rattle.flat_table.specs.Sound.{begins_with_zeros, is_shaped, sound_fault, first_unsound_root, first_unsound_word}
use Rattle.flat_table.specs.Groups.{is_key_len, is_kept_word, depth_of}
use Rattle.field_defs.specs.Layout.{key_len_of}
use Rattle.list_lemmas.proofs.Loops.{list_all_map, length_parts, none_by, words_pass}
use Rattle.flat_table.proofs.Offered.{levels-take, levels-drop}
use Rattle.table_fill.proofs.Nodes.{words_here, words_after, has_after, match_parts, node_into, run_words, few_words}
use Rattle.table_fill.proofs.Nodes.{many_words, there_by, length-level, level_len-cons}
use Rattle.flat_table.specs.declared.sound.SoundFault.TheVariants as faults

-- ---- each word of a node is one of a successor

module _ (P : ℕ → Type 0) (rows : ℕ) (levels : List (List (List Run))) (targets : List ℕ)
    (dead : P (match_of 0)) (each : (succ : Succ) → IsThere rows levels succ → P (succ_word targets succ)) where
  -- what holds of the word of each successor holds of each word of a node
  of_node : (runs : List Run) → All (λ (run : Run). IsThere rows levels run.to) runs → All P (node_words targets runs)
  of_node runs there =
      let leads : Run → Type 0 = λ run. IsThere rows levels run.to in
      elim (cases_lt few_runs (length runs)) [
        | inl many ↦ All-same P (node_words targets runs) _ (many_words targets runs many)
            (All-map P (λ byte. succ_word targets (run_to runs byte)) all_bytes
            (λ k d within. each (run_to runs (get_or all_bytes k d))
            (there_by rows levels runs (get_or all_bytes k d) (recursion_from_All leads runs there))))
        | inr few ↦ All-same P (node_words targets runs) _ (few_words targets runs few)
            (All-append P (run_words targets runs) _
            (All-map P (λ (run : Run). succ_word targets run.to) runs
            (All-weaker leads (λ run. P (succ_word targets run.to)) (λ run. each run.to) runs there))
            (All-replicate P (cost_of (length runs) - length runs) (match_of 0) dead))
      ]

  -- and of each word of a level
  pub of_level : (states : List (List Run)) → All (AreRuns rows levels) states →
      All P (flat_map (node_words targets) states)
  of_level states are = All-flat_map P (node_words targets) states
      (All-weaker (AreRuns rows levels) (λ runs. All P (node_words targets runs)) (λ runs is. of_node runs is.there)
      states are)

-- ---- where words lead

-- a word into a node of the level
pub into_level : (lo len place : ℕ) (states : List (List Run)) (number : ℕ) → lo ≤ place →
    place + level_len states ≤ lo + len → lo + len ≤ indexes → number < length states →
    leads_into (record { from = lo; len = len }) (get_or (words_into place states) number 0) ≡ true
into_level lo len place [] number above fits small within = absurd (omega (arith, within))
into_level lo len place (runs ∷ states) zero above fits small within =
    let cost : ℕ = cost_of (length runs) in
    let some : 1 ≤ cost_of (length runs) = grind (arith, nat_tests) in
    let whole = level_len-cons runs states in
    let into = node_into place runs (omega (arith, some, whole, fits, small)) in
    let front : nat_le lo place ≡ true = le-leb lo place above in
    let back : nat_le (place + cost_of (length runs)) (lo + len) ≡ true = le-leb (place + cost_of (length runs))
    (lo + len) (omega (arith, whole, fits)) in
    (λ i. into.node i && nat_le lo (into.names i) && nat_le (into.names i + into.len_is i) (lo + len))
    ∙ (λ i. true && front i && back i)
into_level lo len place (runs ∷ states) (suc number) above fits small within =
    let some : 1 ≤ cost_of (length runs) = grind (arith, nat_tests) in
    into_level lo len (place + cost_of (length runs)) states number (omega (arith, above))
    (omega (arith, fits, level_len-cons runs states)) small (omega (arith, within))

-- the match of a row that is there is sound
match_sound : (rows row : ℕ) (next : Level) → row < rows → rows ≤ indexes → is_sound_word rows next (match_of row)
    ≡ true
match_sound rows row next within small =
    let is = match_parts row (omega (arith, within, small)) in
    ap (λ b. cond b (is_unbounded (match_of row) && nat_lt (index_of (match_of row)) rows)
    (leads_into next (match_of row))) is.matches
    ∙ (λ i. is.unbounded i && nat_lt (is.names i) rows) ∙ (λ i. true && lt-ltb row rows within i)

-- a word that leads into the next level is sound
node_sound : (rows word : ℕ) (next : Level) → leads_into next word ≡ true → is_sound_word rows next word ≡ true
node_sound rows word next leads =
    let no_match : is_match word ≡ false = grind (arith, nat_tests) in
    ap (λ b. cond b (is_unbounded word && nat_lt (index_of word) rows) (leads_into next word)) no_match ∙ leads

-- ---- the levels of a trie

module _ (rows : ℕ) (words : List ℕ) (row count : ℕ) (enough : row + count ≤ rows) (some : 0 < rows)
    (small : rows ≤ indexes) where
  -- the words for the rows
  abbrev row_words : List ℕ
  row_words = map match_of (range_with_len row count)

  -- the word of a successor that is there is sound
  succ_sound : (after : ℕ) (levels : List (List (List Run))) → after + sum_by level_len levels ≤ indexes →
      (succ : Succ) → IsThere count levels succ →
      is_sound_word rows (first_level (levels_from after (map level_len levels)))
      (succ_word (targets_of after row_words levels) succ) ≡ true
  succ_sound after levels fits Dead there = match_sound rows 0
      (first_level (levels_from after (map level_len levels))) some small
  succ_sound after [] fits (State n) there = absurd there
  succ_sound after [] fits (Row n) there =
      ap (is_sound_word rows (first_level [])) (get_or-map-range_with_len match_of row count n (row + n) 0 there refl)
      ∙ match_sound rows (row + n) (first_level []) (omega (arith, there, enough)) small
  succ_sound after (next ∷ levels) fits (State n) there =
      node_sound rows (get_or (words_into after next) n 0) (record { from = after; len = level_len next })
      (into_level after (level_len next) after next n (omega arith) (omega arith)
      (omega (arith, sum_by-cons level_len next levels, fits)) there)
  succ_sound after (next ∷ levels) fits (Row n) there = absurd there

  -- no word of a trie is unsound
  pub trie_sound : (place : ℕ) (levels : List (List (List Run))) → AreLevels count levels →
      HasPart 0 words place (words_of_levels place row_words levels) → place + sum_by level_len levels ≤ indexes →
      unsound_word rows words (levels_from place (map level_len levels)) ≡ None
  trie_sound place [] are has fits = refl
  trie_sound place (states ∷ levels) are has fits =
      let after : ℕ = place + level_len states in
      let targets : List ℕ = targets_of after row_words levels in
      let next : Level = first_level (levels_from after (map level_len levels)) in
      let rest_fits : after + sum_by level_len levels ≤ indexes =
      omega (arith, sum_by-cons level_len states levels, fits) in
      let all = of_level (λ word. is_sound_word rows next word ≡ true) count levels targets
      (match_sound rows 0 next some small) (succ_sound after levels rest_fits) states are.0 in
      let here = none_by (λ word. not (is_sound_word rows next word)) place (take (level_len states) (drop place words))
      (λ k within. ap not (words_pass (λ word. is_sound_word rows next word ≡ true) words place
      (words_here place row_words states levels) (level_len states)
      (has_front 0 words place (words_here place row_words states levels)
      (words_after place row_words states levels) has) (sym (length-level targets states)) all k within)) in
      let rest = trie_sound after levels are.1 (has_after words place row_words states levels has) rest_fits in
      λ i. option_or (here i) (rest i)

-- ---- the levels of all tries

-- the levels of each trie, from a place on
pub levels_each : ℕ → List LevelsView → List (List Level)
levels_each place [] = []
levels_each place (trie ∷ tries) = levels_from place (map level_len trie.levels) ∷ levels_each (place + nodes_len trie)
    tries

-- the levels, taken trie by trie, are those of each trie
pub portions_are : (place : ℕ) (tries : List LevelsView) →
    portions (map (λ (trie : LevelsView). length trie.levels) tries) (levels_from place (level_lens_of tries))
    ≡ levels_each place tries
unfolding levels_each
portions_are place [] = refl
portions_are place (trie ∷ tries) =
    let lens : List ℕ = map level_len trie.levels in
    let n : ℕ = length trie.levels in
    let all : List ℕ = lens ++ level_lens_of tries in
    let front : take n all ≡ lens = take_at lens (level_lens_of tries) n (length-map trie.levels level_len) in
    let back : drop n all ≡ level_lens_of tries =
    drop_at lens (level_lens_of tries) n (length-map trie.levels level_len) in
    let long : sum (take n all) ≡ nodes_len trie = ap sum front ∙ sum-map level_len trie.levels in
    (λ i. (levels-take n place all ∙ ap (levels_from place) front) i
    ∷ portions (map (λ (t : LevelsView). length t.levels) tries)
    ((levels-drop n place all ∙ (λ k. levels_from (place + long k) (back k))) i))
    ∙ ap (λ ls. levels_from place lens ∷ ls) (portions_are (place + nodes_len trie) tries)

-- ---- how many words, rows and levels there are

-- the levels of a trie have as many words as their nodes together
pub length-levels-words : (place : ℕ) (ms : List ℕ) (levels : List (List (List Run))) →
    length (words_of_levels place ms levels) ≡ sum_by level_len levels
length-levels-words place ms [] = refl
length-levels-words place ms (states ∷ levels) =
    let after : ℕ = place + level_len states in
    length-append (flat_map (node_words (targets_of after ms levels)) states) (words_of_levels after ms levels)
    ∙ (λ i. length-level (targets_of after ms levels) states i + length-levels-words after ms levels i)
    ∙ sym (sum_by-cons level_len states levels)

-- all tries have as many words as their nodes together
pub length-words : (place row : ℕ) (tries : List LevelsView) → length (words_of_tries place row tries)
    ≡ sum_by nodes_len tries
length-words place row [] = refl
length-words place row (trie ∷ tries) =
    length-append (words_of_levels place (matches_of row trie) trie.levels)
    (words_of_tries (place + nodes_len trie) (row + length trie.rows) tries)
    ∙ (λ i. length-levels-words place (matches_of row trie) trie.levels i + length-words (place + nodes_len trie)
    (row + length trie.rows) tries i)
    ∙ sym (sum_by-cons nodes_len trie tries)

-- there are as many roots as tries
pub length-roots : (place : ℕ) (tries : List LevelsView) → length (roots_of place tries) ≡ length tries
length-roots place [] = refl
length-roots place (trie ∷ tries) = ap suc (length-roots (place + nodes_len trie) tries)

-- there are as many lengths as levels of all tries
length-lens : (tries : List LevelsView) → length (level_lens_of tries)
    ≡ sum (map (λ (trie : LevelsView). length trie.levels) tries)
length-lens tries =
    length_parts (λ (trie : LevelsView). map level_len trie.levels) _ (λ trie. length-map trie.levels level_len) tries
    ∙ sym (sum-map (λ (trie : LevelsView). length trie.levels) tries)

-- the lengths of all levels add up to the words of all nodes
sum-lens : (tries : List LevelsView) → sum (level_lens_of tries) ≡ sum_by nodes_len tries
sum-lens [] = refl
sum-lens (trie ∷ tries) =
    sum_by-append (λ (n : ℕ). n) (map level_len trie.levels) (level_lens_of tries)
    ∙ (λ i. sum-map level_len trie.levels i + sum-lens tries i)
    ∙ sym (sum_by-cons nodes_len trie tries)

-- ---- roots and words

-- the root of a trie leads into its first level
root_leads : (place : ℕ) (levels : List (List (List Run))) → 0 < length (get_or levels 0 []) →
    place + sum_by level_len levels ≤ indexes →
    leads_into (first_level (levels_from place (map level_len levels)))
    (node_word place (get_or (get_or levels 0 []) 0 [])) ≡ true
root_leads place [] some fits = absurd (omega (arith, some))
root_leads place ([] ∷ levels) some fits = absurd (omega (arith, some))
root_leads place ((runs ∷ states) ∷ levels) some fits =
    into_level place (level_len (runs ∷ states)) place (runs ∷ states) 0 (omega arith) (omega arith)
    (omega (arith, fits, sum_by-cons level_len (runs ∷ states) levels)) (omega arith)

module _ (set : RuleSetView) (rows : ℕ) (words : List ℕ) (some : 0 < rows) (small : rows ≤ indexes) where
  -- each root leads into its first level, and all words are sound
  tries_lead : (number place row : ℕ) (tries : List LevelsView) → AllByRecursion (IsTrie set) tries →
      HasPart 0 words place (words_of_tries place row tries) → place + sum_by nodes_len tries ≤ indexes →
      row + sum_by row_count tries ≤ rows →
      (position_from (λ (trie : ℕ × List Level). not (leads_into (first_level trie.1) trie.0)) number
      (zip (roots_of place tries) (levels_each place tries)) ≡ None)
      × (first_some (map (unsound_word rows words) (levels_each place tries)) ≡ None)
  unfolding levels_each
  tries_lead number place row [] are has fits enough = (refl, refl)
  tries_lead number place row (trie ∷ tries) are has fits enough =
      let test : ℕ × List Level → Bool = λ trie. not (leads_into (first_level trie.1) trie.0) in
      let next : ℕ = place + nodes_len trie in
      let more = sum_by-cons nodes_len trie tries in
      let more_rows = sum_by-cons row_count trie tries in
      let mine : List ℕ = words_of_levels place (matches_of row trie) trie.levels in
      let after : List ℕ = words_of_tries next (row + length trie.rows) tries in
      let leads = root_leads place trie.levels are.0.nodes.some (omega (arith, more, fits)) in
      let here = trie_sound rows words row (length trie.rows) (omega (arith, more_rows, enough)) some small place
      trie.levels are.0.nodes.levels_lead (has_front 0 words place mine after has) (omega (arith, more, fits)) in
      let rest = tries_lead (number + 1) next (row + length trie.rows) tries are.1
      (has_rest 0 words place mine after has next
      (omega (arith, length-levels-words place (matches_of row trie) trie.levels)))
      (omega (arith, more, fits)) (omega (arith, more_rows, enough)) in (
        ap (λ b. cond (not b) (Some number)
            (position_from test (number + 1) (zip (roots_of next tries) (levels_each next tries)))) leads
            ∙ rest.0,
        λ i. option_or (here i) (rest.1 i),
      )

-- ---- where a trie stands

-- the rows of one trie
abbrev pub rows_of_trie : List RuleView → LevelsView → List (List ℕ)
rows_of_trie rules trie = map (λ row. map (winner_word rules) row) trie.rows

-- A trie's nodes stand among the words from a place on, and its rows among the rows from a number on.
pub record StandsIn (rules : List RuleView) (words : List ℕ) (rows : List (List ℕ)) (root : ℕ) (trie : LevelsView) :
    Type 0 where
  pub place : ℕ
  pub row : ℕ
  pub root_is : root ≡ root_at place trie
  pub has : HasPart 0 words place (words_of_levels place (matches_of row trie) trie.levels)
  pub has_rows : HasPart [] rows row (rows_of_trie rules trie)
  pub fits : place + nodes_len trie ≤ indexes
  pub few : row + length trie.rows ≤ indexes

-- a trie in the place of one that isn't there
pub no_trie : LevelsView
no_trie = record { kept = 0; group = []; levels = []; rows = []; words = 0 }

module _ (rules : List RuleView) (words : List ℕ) (rows : List (List ℕ)) where
  -- each trie stands among the words and the rows
  pub trie_stands : (place row : ℕ) (tries : List LevelsView) (t : ℕ) → t < length tries →
      HasPart 0 words place (words_of_tries place row tries) →
      HasPart [] rows row (flat_map (rows_of_trie rules) tries) → place + sum_by nodes_len tries ≤ indexes →
      row + sum_by row_count tries ≤ indexes →
      StandsIn rules words rows (get_or (roots_of place tries) t 0) (get_or tries t no_trie)
  trie_stands place row [] t within has has_rows fits few = absurd (omega (arith, within))
  trie_stands place row (trie ∷ tries) zero within has has_rows fits few = record {
    place = place;
    row = row;
    root_is = refl;
    has = has_front 0 words place (words_of_levels place (matches_of row trie) trie.levels)
        (words_of_tries (place + nodes_len trie) (row + length trie.rows) tries) has;
    has_rows = has_front [] rows row (rows_of_trie rules trie) (flat_map (rows_of_trie rules) tries) has_rows;
    fits = omega (arith, fits, sum_by-cons nodes_len trie tries);
    few = omega (arith, few, sum_by-cons row_count trie tries);
  }
  trie_stands place row (trie ∷ tries) (suc t) within has has_rows fits few =
      let matches : List ℕ = matches_of row trie in
      trie_stands (place + nodes_len trie) (row + length trie.rows) tries t (omega (arith, within))
      (has_rest 0 words place (words_of_levels place matches trie.levels)
      (words_of_tries (place + nodes_len trie) (row + length trie.rows) tries) has (place + nodes_len trie)
      (omega (arith, length-levels-words place matches trie.levels)))
      (has_rest [] rows row (rows_of_trie rules trie) (flat_map (rows_of_trie rules) tries) has_rows
      (row + length trie.rows) (omega (arith, length-map trie.rows (λ row. map (winner_word rules) row))))
      (omega (arith, fits, sum_by-cons nodes_len trie tries)) (omega (arith, few, sum_by-cons row_count trie tries))

-- ---- sums

-- the words of tries are those of their nodes and their rows
pub parts_of_words : (tries : List LevelsView) → AllByRecursion HasNodes tries →
    sum_by (λ (trie : LevelsView). trie.words) tries ≡ sum_by nodes_len tries + row_len * sum_by row_count tries
parts_of_words [] are = refl
parts_of_words (trie ∷ tries) are =
    omega (
      arith,
      sum_by-cons (λ (t : LevelsView). t.words) trie tries,
      sum_by-cons nodes_len trie tries,
      sum_by-cons row_count trie tries,
      are.0.words,
      parts_of_words tries are.1,
    )

-- the words of a level are no more than those of its trie
pub level_fits : (trie : LevelsView) (depth : ℕ) → HasNodes trie → trie.words ≤ max_words → depth < length trie.levels →
    level_len (get_or trie.levels depth []) ≤ max_words
level_fits trie depth has small below =
    omega (arith, has.words, small, get_or-le-sum_by level_len trie.levels depth [] below)

-- ---- the whole table

-- there is one row more than all tries have
pub length-rows_of : (rules : List RuleView) (tries : List LevelsView) → length (rows_of_tries rules tries)
    ≡ 1 + sum_by row_count tries
unfolding rows_of_tries
length-rows_of rules tries =
    omega (
      arith,
      length_parts (rows_of_trie rules) row_count (λ trie. length-map trie.rows (λ row. map (winner_word rules) row))
          tries,
    )

-- Tries whose table isn't too large.
pub record CanStand (set : RuleSetView) (tries : List LevelsView) : Type 0 where
  pub tries_are : AllByRecursion (IsTrie set) tries
  pub few : length tries ≤ max_tries
  pub key : is_key_len (key_len_of set.layout) ≡ true
  pub size : row_len + (sum_by nodes_len tries + row_len * sum_by row_count tries) ≤ max_words

module _ (set : RuleSetView) (tries : List LevelsView) (can : CanStand set tries) where
  -- each of them is a trie of the set
  trie_at : All (IsTrie set) tries
  trie_at = All-from_recursion (IsTrie set) tries can.tries_are

  -- the depth of each trie is the number of its levels
  depths_are : depths_of (table_of_tries set tries) ≡ map (λ (trie : LevelsView). length trie.levels) tries
  unfolding table_of_tries
  depths_are = map-map (depth_of (key_len_of set.layout)) (λ (trie : LevelsView). trie.kept) tries
      ∙ map_where _ _ tries (λ t d within. (trie_at t d within).depth)

  -- the parts of the table fit together
  shaped : is_shaped (table_of_tries set tries) ≡ true
  unfolding table_of_tries rows_of_tries
  shaped =
      let table : TableView = table_of_tries set tries in
      let words = length-words 0 1 tries in
      let rows = length-rows_of set.rules tries in
      let kept = list_all_map (is_kept_word (key_len_of set.layout)) (λ (trie : LevelsView). trie.kept) tries
      (λ t d within. (trie_at t d within).kept) in
      let roots = length-roots 0 tries in
      let s0 : (length (map (λ (trie : LevelsView). trie.kept) tries) == length (roots_of 0 tries))
      ≡ true = eq-eqb _ _ (omega (arith, length-map tries (λ (trie : LevelsView). trie.kept), roots)) in
      let s1 : nat_le (length (roots_of 0 tries)) max_tries ≡ true = le-leb _ _ (omega (arith, roots, can.few)) in
      let s4 : (length (level_lens_of tries) == sum (depths_of table))
      ≡ true = eq-eqb _ _ (length-lens tries ∙ ap sum (sym (depths_are))) in
      let s5 : (length (words_of_tries 0 1 tries) == sum (level_lens_of tries))
      ≡ true = eq-eqb _ _ (omega (arith, words, sum-lens tries)) in
      let s6 : begins_with_zeros (rows_of_tries set.rules tries) ≡ true = refl in
      let s7 : nat_le (length (words_of_tries 0 1 tries) + row_len * length (rows_of_tries set.rules tries)) max_words
      ≡ true = le-leb _ _ (omega (arith, words, rows, can.size)) in
      λ i. s0 i && s1 i && can.key i && kept i && s4 i && s5 i && s6 i && s7 i

  -- the levels of the table are those of the tries
  levels_are : trie_levels (table_of_tries set tries) ≡ levels_each 0 tries
  unfolding table_of_tries
  levels_are = ap (λ ds. portions ds (levels_from 0 (level_lens_of tries))) (depths_are)
      ∙ portions_are 0 tries

  -- the table is sound
  pub table_sound : sound_fault (table_of_tries set tries) ≡ None
  unfolding table_of_tries sound_fault
  table_sound =
      let table : TableView = table_of_tries set tries in
      let rows = length-rows_of set.rules tries in
      let lead = tries_lead set (length (rows_of_tries set.rules tries)) (words_of_tries 0 1 tries)
      (omega (arith, rows)) (omega (arith, rows, can.size)) 0 0 1 tries can.tries_are
      (λ k within. ap (λ n. get_or (words_of_tries 0 1 tries) n 0) (omega arith))
      (omega (arith, can.size)) (omega (arith, rows)) in
      let roots : first_unsound_root table ≡ None =
      ap (λ (ls : List (List Level)). position_from
      (λ (trie : ℕ × List Level). not (leads_into (first_level trie.1) trie.0)) 0 (zip (roots_of 0 tries) ls))
      levels_are ∙ lead.0 in
      let words : first_unsound_word table ≡ None =
      ap (λ (ls : List (List Level)). first_some
      (map (unsound_word (length (rows_of_tries set.rules tries)) (words_of_tries 0 1 tries)) ls)) levels_are
      ∙ lead.1 in
      ap (λ b. cond b
      (option_or (option_map faults.Root (first_unsound_root table))
      (option_map faults.Word (first_unsound_word table))) (Some faults.Shape)) shaped
      ∙ (λ i. option_or (option_map faults.Root (roots i)) (option_map faults.Word (words i)))
