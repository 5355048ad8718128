-- Merging the states of a place, one after the other.
use Rattle.std.proofs.Common.{◌≡◌, ℕ, ◌+◌, ◌*◌, ◌<◌, ◌≤◌, List, [], ◌∷◌, ◌++◌, length, map, take, fold, Bool, true}
use Rattle.std.proofs.Common.{false, cond, Option, Some, None, refl, sym, ◌∙◌, ap, arith, length-append}
use Rattle.std.proofs.Math.ListN.{get_or-append}
use Rattle.std.proofs.lemmas.List.Elements.{All-from_recursion, recursion_from_All}
use Rattle.std.specs.Prelude.{All, nat_eq}
use Rattle.std.specs.List.Sorted.{IsStrictlyIncreasing}
use Rattle.std.proofs.lemmas.Bool.{ltb-true}
use Rattle.std.specs.List.{flat_map, sum_by}
use Rattle.std.specs.Str.{bytes_eq}
use Rattle.std.proofs.lemmas.List.{map-append, append_assoc, append-nil, length-map, map_push, nil_from_length}
use Rattle.std.proofs.Math.Logic.{⊎_elim}
use Rattle.std.proofs.Math.Seq.{take-append_seam}
use Rattle.std.proofs.lemmas.List.Concat.{flat_map-append}
use Rattle.std.proofs.lemmas.List.Sums.{fold-append, sum_by-append, sum_by_push}
use Rattle.std.proofs.lemmas.Bool.Decides.{nat_tests}
use Rattle.list_lemmas.proofs.Elements.{length-AllZip}
use Rattle.table_sizes.specs.Sizes.{cost_of, row_len}
use Rattle.rule_set.specs.Laws.{RanksOrderRules, TheBestHasTheGreatestRank}
use Rattle.rule_set.specs.Rule.{RuleSetView}
use Rattle.state_parts.specs.declared.pieces.Piece.{Piece}
use Rattle.state_parts.specs.declared.target.Target.{Target}
use Rattle.state_parts.specs.declared.target.Target.TheVariants.{Parts, Rows}
use Rattle.state_parts.specs.Pieces.{number_at}
use Rattle.state_parts.specs.Target.{count, Grows}
use Rattle.state_parts.proofs.Offered.{count_grows}
use Rattle.list_lemmas.proofs.Tests.{bytes_eq_refl}
use Rattle.list_lemmas.proofs.Each.{all_weaker, all-map}
use Rattle.group_states.proofs.Offered.{each_of_bytes, is_new, all_found, none_new_once_found}
use Rattle.group_states.proofs.Offered.{bytes_below, same_runs, found_grows, length-all_bytes}
use Rattle.group_states.specs.Entry.{ColumnView}
use Rattle.group_states.specs.Found.{found_in, all_bytes}
use Rattle.group_states.specs.Levels.{runs_of}
use Rattle.group_states.specs.Lists.{lists_with, successor, level_found, state_runs}
use Rattle.group_states.specs.State.{is_live}
use Rattle.group_states.specs.declared.run.Run.{Run}
use Rattle.trie_merge.specs.declared.cuts.Cuts.{Cuts}
use Rattle.trie_merge.specs.declared.merge.Budget.{Budget}
use Rattle.trie_merge.specs.declared.merge.Place.{Place}
use Rattle.trie_merge.specs.declared.merge.Progress.{Progress}
use Rattle.trie_merge.specs.declared.merge.Merged.{Merged}
use Rattle.trie_merge.specs.Merged.{numbers_of, target_of, total, runs_in, runs_by, IsFirst, StateMerged, IsReady}
use Rattle.trie_merge.specs.Merged.{AddsState, CanMergeAll, CanAdd}
use Rattle.trie_merge.specs.Priced.{IsNumber, AreNumbers}
use Rattle.list_lemmas.proofs.Passing.{sum_by_const, AllZip-none, AllZip-last, AllZip-split}
use Rattle.trie_merge.proofs.Leads.{none_led, led_on}
use Rattle.trie_merge.proofs.Successors.{succ_stays, fold_long}
use Rattle.trie_merge.proofs.Zipped.{finds_alike, succ_alike, are_grown, for_grows, state_leads}
use Rattle.trie_merge.specs.Cuts.{CanAsk, CanGoOn, CutsFor}
use Rattle.trie_merge.specs.Led.{AllLed}
use Rattle.trie_merge.specs.Numbers.{is_some_number, succ_of}
use Rattle.trie_merge.specs.Shared.{RuleTree, IsState, IsIn, AreIn, IsFor, ArePlaced}
use Rattle.trie_merge.specs.Words.{states_words, cost_ahead, price, least_cost, least_words, IsMergedWithin}

-- a list takes a word at least, and no more than 256
pub cost_some : (count : ℕ) → (0 < cost_of count) × (cost_of count ≤ 256)
cost_some count = (grind (arith, nat_tests), grind (arith, nat_tests))

-- with a place after, it is the words of the states there
pub least_cost_known : (next : ColumnView) (is_last : Bool) (lists : List (List ℕ)) →
    least_cost (Some next) is_last lists ≡ sum_by (cost_ahead next) lists
unfolding least_cost
least_cost_known next is_last lists = refl

-- without a place after, each list takes as much as any other
pub least_cost_flat : (is_last : Bool) (lists : List (List ℕ)) →
    least_cost None is_last lists ≡ (cond is_last row_len 1) * length lists
unfolding least_cost
least_cost_flat is_last lists = sum_by_const (cond is_last row_len 1) lists

module _ (set : RuleSetView) (place : Place) where
  -- the lists that states lead to
  abbrev found_from : List (List ℕ) → List (List ℕ)
  found_from states = level_found set place.column place.is_last states

  -- the runs of states among the lists found
  abbrev runs_among : List (List ℕ) → List (List ℕ) → List (List Run)
  runs_among found states = map (state_runs set place.column place.is_last found) states

  -- what the bytes make of a state
  abbrev pub led_to : List ℕ → List (List ℕ)
  led_to state = map (successor set place.column place.is_last state) all_bytes

  -- more states' finds come after the others'
  pub found_both : (states more : List (List ℕ))
      → found_from (states ++ more) ≡ fold lists_with (found_from states) (flat_map led_to more)
  unfolding level_found found_in
  found_both states more =
      ap (fold lists_with []) (flat_map-append led_to states more)
      ∙ fold-append lists_with [] (flat_map led_to states) (flat_map led_to more)

-- ---- the states so far

-- What the lists of the states so far lead to is found, their runs stand whatever is found after, and the words that
-- are found ahead are no more than it takes.
pub record ListsSoFar (set : RuleSetView) (place : Place) (tree : RuleTree) (now : Progress)
    (lists : List (List ℕ)) : Type 0 where
  pub finds : AreIn set (target_of now.merged) tree (found_from set place lists) (numbers_of now.merged)
  pub its_runs : (more : List (List ℕ))
      → runs_in now.merged ≡ runs_among set place (found_from set place lists ++ more) lists
  pub priced : now.least ≤ least_cost place.next place.is_last (found_from set place lists)

-- So it is for each set, group and tree that the states are those of.
pub record SoFar (place : Place) (before : ℕ) (pairs : List (ℕ × ℕ)) (old : Target) (done : List ℕ) (now : Progress) :
    Type 0 where
  pub led : AllLed place.column pairs old (target_of now.merged) now.work.steps
  pub sum : now.merged.words ≡ before + states_words (runs_in now.merged)
  pub rows : place.is_last ≡ true → row_len * length (numbers_of now.merged) ≤ now.least
  pub lists : (set : RuleSetView) (group : List ℕ) (tree : RuleTree) (lists : List (List ℕ))
      → IsFor set place.is_last old → ArePlaced set group tree pairs lists done → ListsSoFar set place tree now lists

module _ {place : Place} {pairs : List (ℕ × ℕ)} {state : ℕ} {old new : Merged}
    (merged : StateMerged place pairs state old new) where
  -- the numbers that a state finds are there
  pub inside_grows : {steps : List (List Piece)} → AreNumbers (target_of old) (numbers_of old)
      → AllLed place.column pairs (target_of old) (target_of new) steps → AreNumbers (target_of new) (numbers_of new)
  inside_grows inside led =
      let was : ℕ → Type 0 = λ n. IsNumber (target_of old) n in
      let there : ℕ → Type 0 = λ n. IsNumber (target_of new) n in
      let number : ℕ → ℕ = number_at merged.pieces in
      All-from_recursion there (numbers_of new)
      (rw merged.finds
      (all_found nat_eq is_some_number there (numbers_of old) (map number all_bytes)
      (all_weaker was there (numbers_of old)
      (λ n is. (is.0, omega (arith, is.1, count_grows (target_of old) (target_of new) led.grows)))
      (recursion_from_All was (numbers_of old) inside))
      (all-map (λ n. is_some_number n ≡ true → there n) number all_bytes
      (all_weaker (λ byte. byte < 256) (λ byte. is_some_number (number byte) ≡ true → there (number byte)) all_bytes
      (λ byte below live. (ltb-true 0 (number byte) live, (merged.leads byte below).within)) bytes_below))))

  -- there are no more of them than one for each byte
  pub few_more : (length (numbers_of new) ≤ length (numbers_of old) + 256)
      × (length (numbers_of old) ≤ length (numbers_of new))
  few_more =
      let long = fold_long (numbers_of old) (map (number_at merged.pieces) all_bytes) in
      rw merged.finds
      (omega (arith, long.1, length-map all_bytes (number_at merged.pieces), length-all_bytes), long.0)

-- what can be asked stays so
pub still_ask : {column : ColumnView} {pairs : List (ℕ × ℕ)} {old new : Target} {steps : List (List Piece)}
    (next : Option ColumnView) → AllLed column pairs old new steps → CanAsk next old → CanGoOn next column pairs
    → CanAsk next new
still_ask None led ask on = tt
still_ask (Some next) led ask on = λ entry has. ⊎_elim (ask entry) (on entry) (led.entries entry has)

-- the cuts that are known stay those of the parts, where there are more of these
pub cuts_stay : (next : Option ColumnView) (old new : Target) (known : List Cuts) → Grows old new
    → CutsFor next old known → CutsFor next new known
cuts_stay None old new known grows cuts = tt
cuts_stay (Some next) (Parts pairs) (Parts now) known grows cuts = rw grows.1 (record {
  few = omega (arith, cuts.few, length-append pairs grows.0);
  each = λ k below. rw (get_or-append pairs grows.0 (0, 0) k (omega (arith, below, cuts.few))) (cuts.each k below);
})
cuts_stay (Some next) (Parts pairs) (Rows rows) known grows cuts = absurd grows
cuts_stay (Some next) (Rows rows) (Parts pairs) known grows cuts = absurd grows
cuts_stay (Some next) (Rows rows) (Rows now) known grows cuts = tt

-- before the first part no cuts are known
pub no_cuts_yet : (next : Option ColumnView) (target : Target) → CutsFor next target []
no_cuts_yet None target = tt
no_cuts_yet (Some next) (Parts pairs) = record { few = omega arith; each = λ k below. absurd (omega (arith, below)) }
no_cuts_yet (Some next) (Rows rows) = tt

-- before the first state nothing is merged
pub none_so_far : (place : Place) (before : ℕ) (pairs : List (ℕ × ℕ)) (target : Target) (progress : Progress)
    → IsFirst target before progress → SoFar place before pairs target [] progress
unfolding level_found found_in
none_so_far place before pairs target progress first = record {
  led = rw (first.steps, first.reached) (none_led place.column pairs target);
  sum = rw (first.runs, first.ends) (omega (arith, first.words));
  rows = λ last. omega (arith, first.found);
  lists = λ set group tree lists for placed.
      rw (AllZip-none (IsIn set (Parts pairs) tree) lists placed.each)
      (record {
        finds = rw (nil_from_length (numbers_of progress.merged) first.found) tt;
        its_runs = λ more. rw (first.runs, first.ends) refl;
        priced = omega (arith, first.least);
      });
}

module _ {place : Place} {before : ℕ} {pairs : List (ℕ × ℕ)} {old : Target} {done : List ℕ} {now : Progress}
    (so_far : SoFar place before pairs old done now) where
  module _ (order : RanksOrderRules) (law : TheBestHasTheGreatestRank) {new : Progress} {state : ℕ}
      (added : AddsState place pairs state now new) where
    module _ {set : RuleSetView} {group : List ℕ} {tree : RuleTree} {lists : List (List ℕ)} {list : List ℕ}
        (for : IsFor set place.is_last old) (placed : ArePlaced set group tree pairs lists done)
        (is : IsState pairs tree list state) where
      -- the lists before this one
      was : ListsSoFar set place tree now lists
      was = so_far.lists set group tree lists for placed

      -- the rules of the tree ascend
      ascending : IsStrictlyIncreasing tree.rules
      ascending = rw placed.rules placed.grouped.group.ascending

      -- the rules of the tree are rules of the set
      inside : All (λ rule. rule < length set.rules) tree.rules
      inside = rw placed.rules placed.grouped.group.within

      -- what a byte makes of the list, and its number
      abbrev next_list : ℕ → List ℕ
      next_list = successor set place.column place.is_last list

      -- the number to which a byte leads
      abbrev next_number : ℕ → ℕ
      next_number = number_at added.merged.pieces

      -- the lists that were found, with those to which this one leads
      abbrev after_lists : List (List ℕ)
      after_lists = fold lists_with (found_from set place lists) (led_to set place list)

      -- the number to which a byte leads stands for the list to which it leads
      byte_leads : (byte : ℕ) → byte < 256
          → IsIn set (target_of new.merged) tree (next_list byte) (next_number byte)
      byte_leads byte below =
          state_leads set place.column place.is_last byte
          (for_grows set place.is_last old (target_of new.merged) (led_on so_far.led added.led).grows for) is
          (added.merged.leads byte below)

      -- the numbers that were found then stand for these lists
      found_after : AreIn set (target_of new.merged) tree after_lists (numbers_of new.merged)
      found_after =
          rw added.merged.finds
          (finds_alike set order law tree ascending inside (target_of new.merged) next_list next_number all_bytes
          (found_from set place lists) (numbers_of now.merged)
          (all_weaker (λ byte. byte < 256) _ all_bytes byte_leads bytes_below)
          (are_grown set (target_of now.merged) (target_of new.merged) tree added.led.grows (found_from set place lists)
          (numbers_of now.merged) was.finds))

      -- the lists that were found before come first among these
      grown : (more : List (List ℕ)) × (after_lists ≡ found_from set place lists ++ more)
      grown = found_grows bytes_eq is_live (found_from set place lists) (led_to set place list)

      -- the runs of the list are those of its state
      runs_here : (more : List (List ℕ))
          → runs_of (λ byte. succ_of place.is_last (numbers_of new.merged) (next_number byte))
          ≡ state_runs set place.column place.is_last (after_lists ++ more) list
      runs_here more =
          let known : (byte : ℕ) → byte < 256 → is_new bytes_eq is_live after_lists (next_list byte) ≡ false =
          each_of_bytes (λ l. is_new bytes_eq is_live after_lists l ≡ false) next_list
          (none_new_once_found bytes_eq is_live bytes_eq_refl (found_from set place lists) (led_to set place list)) in
          same_runs _ _ (λ byte below.
          sym (succ_stays place.is_last (next_list byte) after_lists more (known byte below)
          ∙ succ_alike set order law tree ascending inside (target_of new.merged) place.is_last (next_list byte)
          (next_number byte) after_lists (numbers_of new.merged) (byte_leads byte below) found_after))

      -- the runs of the lists before it stay as they are
      runs_before : (more : List (List ℕ)) → runs_in now.merged ≡ runs_among set place (after_lists ++ more) lists
      runs_before more = rw (grown.1, append_assoc (found_from set place lists) grown.0 more)
          (was.its_runs (grown.0 ++ more))

      -- the lists with this one more
      one_more_list : ListsSoFar set place tree new (lists ++ list ∷ [])
      one_more_list =
          let all = found_both set place lists (list ∷ [])
          ∙ ap (fold lists_with (found_from set place lists)) (append-nil (led_to set place list)) in
          let long = length-AllZip (IsIn set (target_of now.merged) tree) (found_from set place lists)
          (numbers_of now.merged) was.finds in
          let taken : take (length (numbers_of now.merged)) after_lists ≡ found_from set place lists =
          rw (grown.1, long) (take-append_seam (found_from set place lists) grown.0) in
          record {
            finds = rw all found_after;
            its_runs = λ more.
                added.merged.its_runs ∙ (λ i. runs_before more i ++ runs_here more i ∷ [])
                ∙ rw all (sym (map_push (state_runs set place.column place.is_last (after_lists ++ more)) lists list));
            priced = omega (
              arith,
              was.priced,
              added.priced.least set tree after_lists ascending found_after,
              added.its_least,
              ap (least_cost place.next place.is_last) taken,
              ap (least_cost place.next place.is_last) all,
            );
          }

    -- one more state
    pub one_more_state : SoFar place before pairs old (done ++ state ∷ []) new
    one_more_state =
        let its : List Run = runs_by place new.merged added.merged.pieces in
        let more : states_words (runs_in new.merged) ≡ states_words (runs_in now.merged) + cost_of (length its) =
        rw added.merged.its_runs
        (sum_by_push (λ (rs : List Run). cost_of (length rs)) (runs_in now.merged) its) in
        record {
          led = led_on so_far.led added.led;
          sum = omega (arith, so_far.sum, more, added.merged.its_words);
          rows = λ last. omega (arith, so_far.rows last, added.priced.rows last, added.its_least);
          lists = λ set group tree lists for placed.
              (let ends = AllZip-last (IsIn set (Parts pairs) tree) lists done state placed.each in
              rw ends.2
              (one_more_list for
              (record { grouped = placed.grouped; rules = placed.rules; each = ends.3 }) ends.4));
        }

  -- all states
  pub all_merged : (cap : ℕ) → total now ≤ cap → (set : RuleSetView) (group : List ℕ)
      (tree : RuleTree) (lists : List (List ℕ)) → IsFor set place.is_last old
      → ArePlaced set group tree pairs lists done
      → IsMergedWithin set place.column place.is_last cap before lists (runs_in now.merged) now.merged.words
      × AreIn set (target_of now.merged) tree (found_from set place lists) (numbers_of now.merged)
  all_merged cap within set group tree lists for placed =
      let its = so_far.lists set group tree lists for placed in (
        record {
          its_runs = rw append-nil at (its.its_runs []);
          sum = so_far.sum;
          within = omega (arith, within);
          whole = λ end. omega (
            arith,
            within,
            so_far.rows end,
            length-AllZip (IsIn set (target_of now.merged) tree) (found_from set place lists)
                (numbers_of now.merged) its.finds,
          );
        },
        its.finds,
      )

  -- the states so far exceed the cap
  pub past_cap : (cap : ℕ) (more : List ℕ) → cap < total now → (set : RuleSetView)
      (group : List ℕ) (tree : RuleTree) (lists : List (List ℕ)) → IsFor set place.is_last old
      → ArePlaced set group tree pairs lists (done ++ more)
      → cap < least_words set place.column place.next place.is_last before lists
  unfolding least_cost
  past_cap cap more over set group tree lists for placed =
      let parts = AllZip-split (IsIn set (Parts pairs) tree) lists done more placed.each in
      let its = so_far.lists set group tree parts.0 for
      (record { grouped = placed.grouped; rules = placed.rules; each = parts.3 }) in
      let on = found_grows bytes_eq is_live (found_from set place parts.0) (flat_map (led_to set place) parts.1) in
      let f : List ℕ → List Run = state_runs set place.column place.is_last (found_from set place parts.0 ++ on.0) in
      let words : states_words (map f (parts.0 ++ parts.1))
      ≡ states_words (runs_in now.merged) + states_words (map f parts.1) =
      rw (map-append f parts.0 parts.1, its.its_runs on.0)
      (sum_by-append (λ (rs : List Run). cost_of (length rs)) (map f parts.0) (map f parts.1)) in
      rw (parts.2, found_both set place parts.0 parts.1, on.1)
      (omega (
        arith,
        over,
        so_far.sum,
        words,
        its.priced,
        sum_by-append (price place.next place.is_last) (found_from set place parts.0) on.0,
      ))

-- before the first state nothing is merged, and the first one can be
pub first_ready : (place : Place) (before : ℕ) (pairs : List (ℕ × ℕ)) (target : Target) (progress : Progress)
    → IsFirst target before progress → CanAsk place.next target → IsReady place pairs progress
first_ready place before pairs target progress first ask = record {
  led = (none_so_far place before pairs target progress first).led.led;
  pieces = rw (first.runs, first.ends) refl;
  inside = All-from_recursion (λ n. IsNumber (target_of progress.merged) n)
      (numbers_of progress.merged)
      (rw (nil_from_length (numbers_of progress.merged) first.found) tt);
  ask = rw first.reached ask;
  cuts = rw first.cuts (no_cuts_yet place.next (target_of progress.merged));
  few = omega (arith, first.found);
}

-- each state can be added, while the words are within the cap
pub can_add : {place : Place} {budget : Budget} {pairs : List (ℕ × ℕ)} {states : List ℕ} {target : Target}
    {progress : Progress} → CanMergeAll place budget pairs states target → IsReady place pairs progress
    → total progress ≤ budget.cap → {state : ℕ} → IsNumber (Parts pairs) state
    → CanAdd place pairs state progress
can_add can ready within number = record {
  number = number;
  can = can.can;
  ready = ready;
  within = omega (arith, within, can.cap);
}
