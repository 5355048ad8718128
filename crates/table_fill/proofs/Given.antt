-- Steps of the loops that write words.
use Rattle.std.proofs.Common.{◌≡◌, ℕ, suc, ◌+◌, ◌-◌, ◌<◌, ◌≤◌, List, [], ◌∷◌, ◌++◌, refl, sym, ap, ◌∙◌, arith, map}
use Rattle.std.proofs.Common.{length, drop, get_or, replicate, length-append, subst, ◌*◌, All, None, flat_map, sum_by}
use Rattle.std.specs.List.{range_with_len, AllByRecursion}
use Rattle.std.proofs.lemmas.List.{append-nil, get_or-replicate, get_or-take, map-append, length-map}
use Rattle.std.proofs.Math.Seq.{get_or-append_right}
use Rattle.group_states.specs.declared.run.Run.{Run}
use Rattle.group_states.specs.declared.run.Succ.{Succ}
use Rattle.group_states.specs.declared.run.Succ.TheVariants.{Dead, State, Row}
use Rattle.group_states.specs.Found.{all_bytes}
use Rattle.group_states.specs.Follow.{run_to}
use Rattle.table_sizes.specs.Sizes.{cost_of, few_runs, max_tries, max_words, row_len}
use Rattle.table_fill.specs.Filled.{boundaries, inner_lasts, node_words, succ_word, level_len, words_into, targets_of}
use Rattle.table_fill.specs.Filled.{words_of_levels, filled, table_of_tries, rule_word, rows_of_tries}
use Rattle.table_fill.specs.Tries.{HoldBytes, IsThere, AreRuns, HasTarget, HasTargets, HasNodes, HasWinners, IsTrie}
use Rattle.table_fill.specs.Tries.{HaveRoom, groups_of_tries, AreOfGroups, winner_in}
use Rattle.list_lemmas.proofs.Maps.{map_on_range, copies_on_range}
use Rattle.list_lemmas.proofs.Positions.{range-append}
use Rattle.list_lemmas.proofs.Loops.{left_is, writes_more, Writes}
use Rattle.table_fill.proofs.Nodes.{length-inner, run_here, run_later, many_words, length-level}
use Rattle.std.proofs.lemmas.List.Sums.{get_or-le-sum_by}
use Rattle.std.proofs.lemmas.List.Elements.{All-from_recursion, recursion_from_All}
use Rattle.field_defs.specs.Lawful.{IsLayout}
use Rattle.rule_set.specs.Rule.{RuleView, RuleSetView}
use Rattle.rule_set.specs.RuleSet.{IsRuleSet}
use Rattle.group_states.specs.Levels.{LevelsView, levels_of}
use Rattle.list_lemmas.proofs.Each.{all_weaker}
use Rattle.list_lemmas.proofs.Elements.{map_back}
use Rattle.list_lemmas.proofs.Sums.{sum_by-map}
use Rattle.flat_table.specs.Sound.{sound_fault}
use Rattle.flat_table.specs.Walk.{userdatas}
use Rattle.table_fill.specs.Serves.{Serves}
use Rattle.table_fill.specs.Laws.{CanBeFilled}
use Rattle.table_fill.proofs.Sounds.{parts_of_words, CanStand, table_sound, length-words, length-rows_of}
use Rattle.table_fill.proofs.Deciding.{tries_same, tries_are, can_stand, decide}

-- ---- boundaries

-- a boundary after the last run is 255
pub boundary_past : (runs : List Run) (n : ℕ) → n < 4 → length runs ≤ n + 1 → 255 ≡ get_or (boundaries runs) n 0
boundary_past runs n few h =
    let past : length (inner_lasts runs) ≤ n = omega (arith, length-inner runs, h) in
    sym (get_or-take 4 (inner_lasts runs ++ replicate 4 255) n 0 few
    ∙ get_or-append_right (inner_lasts runs) (replicate 4 255) n 0 past
    ∙ get_or-replicate 4 (n - length (inner_lasts runs)) 255 0 (omega (arith, few)))

-- ---- a node of many runs

-- the words of the bytes from the first one on
abbrev pub words_from : List ℕ → ℕ → List Run → List ℕ
words_from targets first [] = []
words_from targets first (run ∷ runs) = replicate (run.last + 1 - first) (succ_word targets run.to)
    ++ words_from targets (run.last + 1) runs

-- what is left of runs that hold bytes
abbrev pub HoldRest : ℕ → List Run → Type 0
HoldRest first [] = Unit {0}
HoldRest first (run ∷ runs) = HoldBytes first (run ∷ runs)

-- those after the first run hold the bytes after its last one
pub hold_next : (first : ℕ) (run : Run) (runs : List Run) → HoldBytes first (run ∷ runs) → HoldRest (run.last + 1) runs
hold_next first run [] hold = tt
hold_next first run (next ∷ runs) hold = hold.2

-- the run of a turn holds the first byte of those that are left, and ends with a byte
pub run_holds : (runs : List Run) (k : ℕ) (d : Run) → k < length runs → (first last : ℕ) →
    last ≡ (get_or runs k d).last → HoldRest first (drop k runs) → (first ≤ last) × (last ≤ 255)
run_holds runs k d below first last is hold =
    subst (λ n. (first ≤ n) × (n ≤ 255)) (sym is)
    (holds (get_or runs k d) (drop (k + 1) runs) (subst (HoldRest first) (left_is runs k d below refl) hold))
  where
    holds : (run : Run) (rest : List Run) → HoldBytes first (run ∷ rest) → (first ≤ run.last) × (run.last ≤ 255)
    holds run [] hold = (hold.0, omega (arith, hold.1))
    holds run (next ∷ rest) hold = (hold.0, omega (arith, hold.1))

-- a run's words more are written
pub run_written : {runs : List Run} {k first last word : ℕ} {words after all : List ℕ} (targets : List ℕ) (d : Run) →
    k < length runs → last ≡ (get_or runs k d).last → word ≡ succ_word targets (get_or runs k d).to →
    after ≡ words ++ replicate (last + 1 - first) word → Writes (words_from targets first) runs k words all →
    HoldRest first (drop k runs) →
    Writes (words_from targets (last + 1)) runs (k + 1) after all × HoldRest (last + 1) (drop (k + 1) runs)
run_written {runs = runs} {k = k} {first = first} {last = last} {word = word} targets d below last_is word_is written
    so_far hold = (
      writes_more d (replicate (last + 1 - first) word) so_far below refl written
          (λ i. replicate (sym last_is i + 1 - first) (sym word_is i)
          ++ words_from targets (sym last_is i + 1) (drop (k + 1) runs)),
      subst (λ n. HoldRest (n + 1) (drop (k + 1) runs)) (sym last_is)
          (hold_next first (get_or runs k d) (drop (k + 1) runs)
          (subst (HoldRest first) (left_is runs k d below refl) hold)),
    )

module _ (targets : List ℕ) where
  -- the word of a byte's successor
  of_byte : List Run → ℕ → ℕ
  of_byte runs b = succ_word targets (run_to runs b)

  -- the words from a byte on are those of each byte's successor
  words_are : (first : ℕ) (runs : List Run) → HoldBytes first runs → words_from targets first runs
      ≡ map (λ b. succ_word targets (run_to runs b)) (range_with_len first (256 - first))
  unfolding of_byte
  words_are first [] hold = absurd hold
  words_are first (run ∷ []) hold =
      let count : run.last + 1 - first ≡ 256 - first = omega (arith, hold.1) in
      append-nil (replicate (run.last + 1 - first) (succ_word targets run.to))
      ∙ ap (λ n. replicate n (succ_word targets run.to)) count
      ∙ sym (copies_on_range (of_byte (run ∷ [])) (succ_word targets run.to) first (256 - first)
      (λ b from below. ap (succ_word targets) (run_here run [] b (omega (arith, below, hold.0, hold.1)))))
  words_are first (run ∷ next ∷ runs) hold =
      let n : ℕ = run.last + 1 - first in
      let m : ℕ = 256 - (run.last + 1) in
      let count : n + m ≡ 256 - first = omega (arith, hold.0, hold.1) in
      let at : first + n ≡ run.last + 1 = omega (arith, hold.0) in
      let f : ℕ → ℕ = of_byte (run ∷ next ∷ runs) in
      (λ i. sym (copies_on_range f (succ_word targets run.to) first n
      (λ b from below. ap (succ_word targets) (run_here run (next ∷ runs) b (omega (arith, below, hold.0))))) i
      ++ words_are (run.last + 1) (next ∷ runs) hold.2 i)
      ∙ ap (λ l. map f (range_with_len first n) ++ l)
      (sym (map_on_range f (of_byte (next ∷ runs)) (run.last + 1) m
      (λ b from below. ap (succ_word targets) (run_later run (next ∷ runs) b (omega (arith, from))))))
      ∙ ap (λ k. map f (range_with_len first n) ++ map f (range_with_len k m)) (sym at)
      ∙ sym (ap (map f) (range-append first n m) ∙ map-append f (range_with_len first n) (range_with_len (first + n) m))
      ∙ ap (λ k. map f (range_with_len first k)) count

  -- the words of a node of more than five runs are written byte by byte
  pub many_is : (runs : List Run) → few_runs < length runs → HoldBytes 0 runs → words_from targets 0 runs
      ≡ node_words targets runs
  unfolding all_bytes
  many_is runs many hold = words_are 0 runs hold ∙ sym (many_words targets runs many)

-- ---- levels

-- the runs of a state have a word for each of their successors
pub has_targets : (place rows : ℕ) (matches : List ℕ) (levels : List (List (List Run))) (runs : List Run) →
    length matches ≡ rows → AreRuns rows levels runs →
    HasTargets (length (targets_of place matches levels)) runs
has_targets place rows matches levels runs count are = record {
  bytes = are.bytes;
  targets = λ k d within. target levels (get_or runs k d).to (are.there k d within);
}
  where
    length-into : (at : ℕ) (states : List (List Run)) → length (words_into at states) ≡ length states
    length-into at [] = refl
    length-into at (runs ∷ states) = ap suc (length-into (at + cost_of (length runs)) states)

    target : (ls : List (List (List Run))) (succ : Succ) → IsThere rows ls succ →
        HasTarget (length (targets_of place matches ls)) succ
    target ls Dead there = tt
    target [] (State n) there = absurd there
    target [] (Row n) there = omega (arith, there, count)
    target (states ∷ ls) (State n) there = omega (arith, there, length-into place states)
    target (states ∷ ls) (Row n) there = absurd there

-- a level more is written: what was left begins with it, and the words are longer by its words
pub level_written : (words after targets matches : List ℕ) (level : List (List Run)) (rest : List (List (List Run))) →
    targets ≡ targets_of (length words + level_len level) matches rest → after ≡ words
    ++ flat_map (node_words targets) level →
    (words_of_levels (length words) matches (level ∷ rest)
    ≡ flat_map (node_words targets) level ++ words_of_levels (length after) matches rest)
    × (length after ≡ length words + level_len level)
level_written words after targets matches level rest is e =
    let long : length after ≡ length words + level_len level = ap length e
    ∙ length-append words (flat_map (node_words targets) level)
    ∙ ap (λ n. length words + n) (length-level targets level) in
    (λ i. flat_map (node_words (sym is i)) level ++ words_of_levels (sym long i) matches rest, long)

-- ---- what filling is given, and what it comes to.

-- The tries are those of groups of the rules whose table can be filled.
pub record AreGiven (set : RuleSetView) (tries : List LevelsView) : Type 0 where
  pub can : CanBeFilled set (groups_of_tries tries)
  pub same : map (levels_of set) (groups_of_tries tries) ≡ tries
  pub room : HaveRoom tries
  pub winners : All (HasWinners (length set.rules)) tries
  pub stand : CanStand set tries

module _ {set : RuleSetView} {tries : List LevelsView} where
  -- tries of groups whose table can be filled are given
  pub given : IsRuleSet set → IsLayout set.layout → All (λ (rule : RuleView). rule.tag.userdata < userdatas) set.rules →
      AreOfGroups set tries → AreGiven set tries
  given rules layout userdata of =
      let is : LevelsView → Type 0 = λ trie. trie ≡ levels_of set trie.group in
      let same = map_back is (λ (trie : LevelsView). trie.group) (levels_of set) (λ trie e. sym e) tries
      (recursion_from_All is tries of.levels) in
      let sum : sum_by (λ group. (levels_of set group).words) (groups_of_tries tries)
      ≡ sum_by (λ (trie : LevelsView). trie.words) tries =
      sym (sum_by-map (λ (trie : LevelsView). trie.words) (levels_of set) (groups_of_tries tries))
      ∙ ap (sum_by (λ (trie : LevelsView). trie.words)) same in
      let can : CanBeFilled set (groups_of_tries tries) = record {
        rules = rules;
        layout = layout;
        userdata = userdata;
        partition = of.groups;
        few = omega (arith, length-map tries (λ (trie : LevelsView). trie.group), of.few);
        size = omega (arith, sum, of.size);
      } in
      let each = subst (AllByRecursion (IsTrie set)) same (tries_are set (groups_of_tries tries) can) in
      let nodes = All-from_recursion HasNodes tries
      (all_weaker (IsTrie set) HasNodes tries (λ trie is. is.nodes) each) in
      record {
        can = can;
        same = same;
        room = record {
          nodes = nodes;
          each = λ i t within. omega (
            arith,
            get_or-le-sum_by (λ (trie : LevelsView). trie.words) tries i t within,
            of.size,
          );
          size = omega (arith, of.size, parts_of_words tries (recursion_from_All HasNodes tries nodes));
        };
        winners = All-from_recursion (HasWinners (length set.rules)) tries
            (all_weaker (IsTrie set) (HasWinners (length set.rules)) tries (λ trie is. is.winners) each);
        stand = subst (CanStand set) same (can_stand set (groups_of_tries tries) can);
      }

  -- and from that the tries of groups can be filled
  pub given_by : CanBeFilled set (groups_of_tries tries) → length tries ≤ max_tries →
      All (λ (trie : LevelsView). trie ≡ levels_of set trie.group) tries →
      row_len + sum_by (λ (trie : LevelsView). trie.words) tries ≤ max_words → AreGiven set tries
  given_by can few levels size = given can.rules can.layout can.userdata
      record { few = few; groups = can.partition; levels = levels; size = size }

  -- the filled table is the one of the tries
  pub table_is : AreGiven set tries → table_of_tries set tries ≡ filled set (groups_of_tries tries)
  unfolding filled
  table_is is = ap (table_of_tries set) (sym is.same)

  -- the table of given tries answers as the rules do
  pub serves : AreGiven set tries → Serves set (table_of_tries set tries)
  serves is = subst (Serves set) (sym (table_is is)) (decide set (groups_of_tries tries) is.can)

  -- the table of given tries is sound
  pub sound : AreGiven set tries → sound_fault (table_of_tries set tries) ≡ None
  sound is = table_sound set tries is.stand

  -- its words are those of the tries
  pub size_is : AreGiven set tries → length (table_of_tries set tries).words + row_len * length
      (table_of_tries set tries).rows ≡ row_len + sum_by (λ (trie : LevelsView). trie.words) tries
  unfolding table_of_tries
  size_is is =
      omega (
        arith,
        length-words 0 1 tries,
        length-rows_of set.rules tries,
        parts_of_words tries (recursion_from_All HasNodes tries is.room.nodes),
      )

  -- the rows are made of the words for the rules
  pub rows_are : AreGiven set tries → (ws : List ℕ) →
      ws ≡ map (rule_word set.rules) (range_with_len 0 (length set.rules)) →
      replicate row_len 0 ∷ flat_map (λ (trie : LevelsView). map (map (winner_in ws)) trie.rows) tries
      ≡ rows_of_tries set.rules tries
  unfolding rows_of_tries
  rows_are is ws of_rules =
      ap (λ (ws : List ℕ). replicate row_len 0
      ∷ flat_map (λ (trie : LevelsView). map (map (winner_in ws)) trie.rows) tries) of_rules
      ∙ ap (λ (rest : List (List ℕ)). replicate row_len 0 ∷ rest) (tries_same set.rules tries is.winners)
