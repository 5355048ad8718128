-- Looking ahead at a group with the first states of each place.
use Rattle.std.proofs.Common.{◌≡◌, ℕ, zero, suc, ◌+◌, ◌<◌, ◌≤◌, List, [], ◌∷◌, ◌++◌, length, map, take, drop}
use Rattle.std.proofs.Common.{get_or, false, None, sym, ◌∙◌, ap, subst, inl, inr, arith}
use Rattle.std.proofs.Common.{append_assoc, add-one, ◌==◌, ◌-◌}
use Rattle.std.specs.List.{flat_map, sum_by}
use Rattle.std.specs.List.Sorted.{IsStrictlyIncreasing}
use Rattle.std.specs.Str.{bytes_eq}
use Rattle.std.proofs.lemmas.Bool.{ne_eqb, lt-ltb}
use Rattle.std.proofs.lemmas.List.{append-nil, drop_all, take_more, take-append-drop}
use Rattle.std.proofs.lemmas.List.Sums.{fold-append, sum_by-append}
use Rattle.rule_set.specs.Rule.{RuleSetView}
use Rattle.state_parts.specs.Target.{HasEntry}
use Rattle.state_parts.specs.declared.target.Target.{Target}
use Rattle.state_parts.specs.declared.target.Target.TheVariants.{Parts}
use Rattle.group_states.proofs.Offered.{packed_at, kept_places_first, packed_start, rest_is, found_grows}
use Rattle.group_states.specs.Entry.{ColumnView, CanStep, column_at}
use Rattle.group_states.specs.Laws.{IsGrouped}
use Rattle.group_states.specs.Levels.{levels_of}
use Rattle.group_states.specs.Lists.{level_found}
use Rattle.group_states.specs.State.{is_live}
use Rattle.group_states.specs.declared.run.Run.{Run}
use Rattle.list_lemmas.proofs.Passing.{AllZip-split}
use Rattle.trie_merge.proofs.Ahead.{words_are_ahead}
use Rattle.trie_merge.proofs.Merging.{found_both, led_to, least_cost_known}
use Rattle.trie_merge.proofs.Placing.{places, held, key, start_of, EntryOf, Placed, column, states, found}
use Rattle.trie_merge.proofs.Placing.{words_split, found_next, entry_can_ask, entry_after, parts_for}
use Rattle.trie_merge.proofs.Zipped.{for_grows}
use Rattle.trie_merge.specs.Merged.{PlaceMerged, numbers_of, target_of}
use Rattle.trie_merge.specs.Places.{AreStates, next_of, place_of}
use Rattle.trie_merge.specs.Probed.{AreCounted, ArePastCap, CanWalk, IsProbed, lists_before, words_of_places}
use Rattle.trie_merge.specs.Shared.{RuleTree, IsIn, AreIn, ArePlaced}
use Rattle.trie_merge.specs.Words.{cost_ahead, states_words, least_words}
use Rattle.trie_merge.specs.declared.merge.Budget.{Budget}
use Rattle.trie_merge.specs.declared.merge.Merged.{Merged}
use Rattle.trie_merge.specs.declared.merge.Place.{Place}
use Rattle.trie_merge.specs.declared.merge.Reached.{Reached}

-- what the first states lead to is found first
found_first : (set : RuleSetView) (column : ColumnView) (states more : List (List ℕ)) → (on : List (List ℕ))
    × (level_found set column false (states ++ more) ≡ level_found set column false states ++ on)
found_first set column states more =
    let place : Place = record { column = column; is_last = false; next = None } in
    let on = found_grows bytes_eq is_live (level_found set column false states) (flat_map (led_to set place) more) in
    (on.0, found_both set place states more ∙ on.1)

module _ (set : RuleSetView) (group : List ℕ) (its : IsGrouped set group) where
  -- the kept places of the group
  abbrev kept : List ℕ
  kept = places set group

  -- what the kept place has of each rule
  abbrev at_place : ℕ → ColumnView
  at_place place = place_of set kept place

  -- the states before the next place are what is found at this one
  next_lists : (place : ℕ) → place < length kept
      → lists_before set group kept (place + 1)
      ≡ level_found set (at_place place) false (lists_before set group kept place)
  unfolding lists_before
  next_lists place below =
      rw (take_more kept place 0 below)
      (fold-append (λ lists p. level_found set (column_at set p) false lists) (map start_of group ∷ [])
      (take place kept) (get_or kept place 0 ∷ []))

  -- so they are the states of each place
  lists_are : (place : ℕ) → place < length kept
      → packed_at set group (get_or kept place 0) ≡ lists_before set group kept place
  unfolding lists_before
  lists_are zero below =
      let first = kept_places_first set group (key set group its) in
      packed_start set group (held set group its) its.group.some (get_or kept 0 0) first.within first.before
  lists_are (suc place) below =
      let more : place + 1 < length kept = omega (arith, below) in
      let here : place < length kept = omega (arith, below) in
      let next = rw (ne_eqb (place + 1) (length kept) (λ e. omega (arith, e, more))) at
      (found_next set group its place here more) in
      rw (← add-one place)
      (sym next ∙ ap (level_found set (at_place place) false) (lists_are place here) ∙ sym (next_lists place here))

  -- an entry of a place can be asked at it and at those after it
  walks : (left place entry : ℕ) → place + left + 1 ≡ length kept → EntryOf set group (get_or kept place 0) entry
      → CanWalk set (drop place kept) entry
  walks zero place entry end of =
      let below : place < length kept = omega (arith, end) in
      rw (rest_is set group (held set group its) its.group.some (key set group its) place below) (
        entry_can_ask set group its place entry below of,
        λ after comes. rw (drop_all (place + 1) kept (omega (arith, end))) tt,
      )
  walks (suc left) place entry end of =
      let below : place < length kept = omega (arith, end) in
      rw (rest_is set group (held set group its) its.group.some (key set group its) place below) (
        entry_can_ask set group its place entry below of,
        λ after comes. walks left (place + 1) after (omega (arith, end))
            (entry_after set group its place entry after below (omega (arith, end)) of comes),
      )

  -- the words of a place before the last one are known from its states
  ahead_split : (place : ℕ) → place + 1 < length kept → words_of_places set group (drop place kept)
      ≡ sum_by (cost_ahead (at_place place)) (lists_before set group kept place)
      + words_of_places set group (drop (place + 1) kept)
  ahead_split place more =
      let below : place < length kept = omega (arith, more) in
      let split = rw (ne_eqb (place + 1) (length kept) (λ e. omega (arith, e, more))) at
      (words_split set group its place below) in
      rw (← lists_are place below, words_are_ahead set (at_place place) (states set group its place)) split

  -- where places are merged, and two more are kept after this one, a look ahead can begin
  pub probed_first : {cap place words : ℕ} {levels : List (List (List Run))} {target : Target} {numbers : List ℕ}
      → Placed set group cap place levels target numbers words → place + 2 < length kept
      → IsProbed set group cap kept place target numbers words
  probed_first {place = place} {target = target} so_far later =
      let below : place < length kept = omega (arith, later) in
      let same : so_far.lists ≡ lists_before set group kept place = so_far.states below ∙ lists_are place below in
      record {
        lists = so_far.lists;
        more = [];
        tree = so_far.tree;
        rules = so_far.rules;
        states = append-nil so_far.lists ∙ same;
        sum = rw same (omega (arith, so_far.sum, ahead_split place (omega (arith, later))));
        within = so_far.within;
        each = so_far.each;
        inside = so_far.inside;
        parts = parts_for set target (rw (ne_eqb place (length kept) (λ e. omega (arith, e, below))) at so_far.kind);
        entries = λ entry has. walks (length kept - place - 1) place entry (omega (arith, below))
            (so_far.entries below entry has);
      }

  -- ---- a look ahead, at a place that two more are kept after

  module _ (budget : Budget) {place : ℕ} {target : Target} {numbers : List ℕ}
      (probed : IsProbed set group budget.cap kept place target numbers budget.before)
      (later : place + 2 < length kept) where
    -- the place is a kept one, and so is the next
    below : place < length kept
    below = omega (arith, later)

    -- the rules of the tree ascend
    ascending : IsStrictlyIncreasing probed.tree.rules
    ascending = rw probed.rules its.group.ascending

    -- the kept places from this one on are it and those after it
    rest_here : drop place kept ≡ get_or kept place 0 ∷ drop (place + 1) kept
    rest_here = rest_is set group (held set group its) its.group.some (key set group its) place below

    -- and those after it are the next one and those after that
    rest_next : drop (place + 1) kept ≡ get_or kept (place + 1) 0 ∷ drop (place + 1 + 1) kept
    rest_next =
        rest_is set group (held set group its) its.group.some (key set group its) (place + 1) (omega (arith, later))

    -- an entry can be asked at the place and at those after it
    walk_here : (entry : ℕ) → HasEntry target entry → CanWalk set (get_or kept place 0 ∷ drop (place + 1) kept) entry
    walk_here entry has = rw rest_here at (probed.entries entry has)

    -- what a byte makes of it can be asked at the next place
    step_next : (after : ℕ) → CanWalk set (drop (place + 1) kept) after → CanStep (at_place (place + 1)) after
    step_next after walk = (rw rest_next at walk).0

    -- an entry can be asked at the place
    pub step_here : (entry : ℕ) → HasEntry target entry → CanStep (at_place place) entry
    step_here entry has = (walk_here entry has).0

    -- the states can be merged
    pub probed_states : (reached : Reached) → reached.target ≡ target → reached.found.keys ≡ numbers
        → AreStates set kept place reached
    probed_states reached is found = rw (is, found) (record {
      parts = probed.parts;
      inside = probed.inside;
      step = step_here;
      go_on = λ pairs same. rw (lt-ltb (place + 2) (length kept) later)
          (λ after comes. step_next after ((walk_here comes.0 (rw same comes.1)).1 after comes.2));
    })

    -- the states that are merged, and the others
    halves : (front : List (List ℕ)) × (rest : List (List ℕ)) × (probed.lists ≡ front ++ rest)
        × AreIn set target probed.tree front (take budget.states numbers)
        × AreIn set target probed.tree rest (drop budget.states numbers)
    halves =
        AllZip-split (IsIn set target probed.tree) probed.lists (take budget.states numbers)
        (drop budget.states numbers)
        (rw (take-append-drop budget.states numbers) probed.each)

    -- their words
    abbrev ahead : List (List ℕ) → ℕ
    ahead lists = sum_by (cost_ahead (at_place place)) lists

    -- and those at the next place
    abbrev ahead_next : List (List ℕ) → ℕ
    ahead_next lists = sum_by (cost_ahead (at_place (place + 1))) lists

    -- what the states that are merged lead to
    abbrev found_here : List (List ℕ)
    found_here = level_found set (at_place place) false halves.0

    -- the words of the states are those of both
    both : ahead probed.lists ≡ ahead halves.0 + ahead halves.1
    both = ap ahead halves.2 ∙ sum_by-append (cost_ahead (at_place place)) halves.0 halves.1

    -- what is found comes first among the states of the next place
    next_here : (on : List (List ℕ)) × (found_here ++ on ≡ lists_before set group kept (place + 1))
    next_here =
        let on = found_first set (at_place place) halves.0 (halves.1 ++ probed.more) in (
          on.0,
          sym (next_lists place below
              ∙ ap (level_found set (at_place place) false)
              (sym probed.states ∙ (λ i. halves.2 i ++ probed.more) ∙ append_assoc halves.0 halves.1 probed.more)
              ∙ on.1),
        )

    -- it takes no more words than there are from the next place on
    least_next : ahead_next found_here + words_of_places set group (drop (place + 1 + 1) kept)
        ≤ words_of_places set group (drop (place + 1) kept)
    least_next =
        omega (
          arith,
          ahead_split (place + 1) (omega (arith, later)),
          ap ahead_next next_here.1,
          sum_by-append (cost_ahead (at_place (place + 1))) found_here next_here.0,
        )

    -- the words of the others exceed the cap
    pub rest_over : ArePastCap (at_place place) target (drop budget.states numbers) budget
        → budget.cap < (levels_of set group).words
    unfolding levels_of
    rest_over past =
        omega (arith, past set probed.tree halves.1 ascending halves.4, both, probed.sum)

    module _ {words : ℕ} (counted : AreCounted (at_place place) target (drop budget.states numbers) budget words) where
      -- the words before the states that are merged
      counted_least : words ≤ budget.before + ahead halves.1
      counted_least = counted.least set probed.tree halves.1 ascending halves.4

      -- they stand in the tree
      placed : ArePlaced set group probed.tree probed.parts.0 halves.0 (take budget.states numbers)
      placed = record {
        grouped = its;
        rules = probed.rules;
        each = subst (λ t. AreIn set t probed.tree halves.0 (take budget.states numbers)) probed.parts.1 halves.3;
      }

      -- what is found of them can be looked at in turn
      pub probed_on : {new : Merged} → ((pairs : List (ℕ × ℕ)) → target ≡ Parts pairs
          → PlaceMerged set (at_place place) (place + 1 == length kept)
          (record { cap = budget.cap; before = words; states = budget.states }) pairs (take budget.states numbers) new)
          → IsProbed set group budget.cap kept (place + 1) (target_of new) (numbers_of new) new.words
      probed_on {new = new} merges =
          let merged = rw (ne_eqb (place + 1) (length kept) (λ e. omega (arith, e, later))) at
          (merges probed.parts.0 probed.parts.1) in
          let its_words = merged.each group probed.tree halves.0 placed in
          let known = ap states_words its_words.0.its_runs ∙ sym (words_are_ahead set (at_place place) halves.0) in
          record {
            lists = found_here;
            more = next_here.0;
            tree = probed.tree;
            rules = probed.rules;
            states = next_here.1;
            sum = omega (arith, its_words.0.sum, known, counted_least, both, probed.sum, least_next);
            within = its_words.0.within;
            each = its_words.1;
            inside = merged.inside;
            parts = parts_for set (target_of new)
                (for_grows set false merged.old (target_of new) merged.led.grows merged.kind);
            entries = λ after has. elim (merged.led.entries after has) [
              | inl was ↦ absurd (merged.none after was)
              | inr comes ↦ (walk_here comes.0 (rw probed.parts.1 comes.1)).1 after comes.2
            ];
          }

      -- or too many words
      pub probed_over : ((pairs : List (ℕ × ℕ)) → target ≡ Parts pairs → (g : List ℕ) (tree : RuleTree)
          (lists : List (List ℕ)) → ArePlaced set g tree pairs lists (take budget.states numbers)
          → budget.cap
          < least_words set (at_place place) (next_of set kept place) (place + 1 == length kept) words lists)
          → budget.cap < (levels_of set group).words
      unfolding levels_of
      probed_over over =
          let past = rw (
            ne_eqb (place + 1) (length kept) (λ e. omega (arith, e, later)),
            lt-ltb (place + 2) (length kept) later,
            least_cost_known (at_place (place + 1)) false found_here,
          ) at (over probed.parts.0 probed.parts.1 group probed.tree halves.0 placed) in
          omega (
            arith,
            past,
            words_are_ahead set (at_place place) halves.0,
            counted_least,
            both,
            probed.sum,
            least_next,
          )
