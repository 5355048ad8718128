-- Merging the kept places of a group, one after the other.
use Rattle.std.proofs.Common.{◌≡◌, ℕ, ◌+◌, ◌*◌, ◌<◌, ◌≤◌, ◌==◌, ◌&&◌, List, [], ◌∷◌, ◌++◌, length, map, drop}
use Rattle.std.proofs.Common.{get_or, replicate, Bool, true, false, Some, None, refl, sym, ◌∙◌, ap, subst}
use Rattle.std.proofs.Common.{inl, inr, arith, append_assoc}
use Rattle.std.specs.Prelude.{nat_lt}
use Rattle.std.specs.List.{AllByRecursion, list_any}
use Rattle.std.proofs.lemmas.Bool.{cases_lt, eq-eqb, ne_eqb, lt-ltb, le-ltb, ltb-true, cond_both}
use Rattle.std.proofs.lemmas.List.{drop_all, length-map, length-drop, length-replicate, append-nil, get_or-drop}
use Rattle.std.proofs.lemmas.List.Elements.{All-from_recursion}
use Rattle.std.proofs.lemmas.List.Sums.{sum_by-cons}
use Rattle.field_defs.specs.Layout.{key_len_of}
use Rattle.field_defs.proofs.Offered.{short_keys}
use Rattle.rule_set.specs.Rule.{RuleSetView}
use Rattle.node_expand.specs.declared.edge.Edge.TheVariants.{Free}
use Rattle.state_parts.specs.Rows.{rule_of}
use Rattle.state_parts.specs.RowsView.{RowsView}
use Rattle.state_parts.specs.Target.{HasEntry}
use Rattle.state_parts.specs.declared.target.Target.{Target}
use Rattle.state_parts.specs.declared.target.Target.TheVariants.{Parts, Rows}
use Rattle.table_sizes.specs.Sizes.{cost_of, row_len}
use Rattle.group_states.proofs.Offered.{Stands, packed_stands, IsHeld, IsEntryAt, packed_state, packed_state_start}
use Rattle.group_states.proofs.Offered.{packed_entries, entry_can_step, entries_next, zeros_on, zeros_small}
use Rattle.group_states.proofs.Offered.{number_in-entry_of, packed_at, kept_places_first, packed_start, place_inside}
use Rattle.group_states.proofs.Offered.{rest_is, level_here, gap_next, group_held}
use Rattle.group_states.specs.Entry.{ColumnView, CanStep, column_at, entry_of, entries_step, number_in, field_at}
use Rattle.group_states.specs.Kept.{is_wild_at, is_wild_place, kept_places}
use Rattle.group_states.specs.Laws.{IsGrouped}
use Rattle.group_states.specs.Levels.{states_at, level_runs, words_of, levels_of}
use Rattle.group_states.specs.Lists.{level_found, state_runs}
use Rattle.group_states.specs.Row.{rows_of}
use Rattle.group_states.specs.RuleRest.{values_of}
use Rattle.group_states.specs.State.{is_live}
use Rattle.group_states.specs.declared.run.Run.{Run}
use Rattle.trie_merge.proofs.Ahead.{words_are_ahead, step_number}
use Rattle.trie_merge.proofs.Merging.{cost_some, least_cost_flat, least_cost_known}
use Rattle.list_lemmas.proofs.Spans.{length-le-sum_by, list_all_at_member, all_at_member, from_mapped, map_undone}
use Rattle.list_lemmas.proofs.Spans.{all_of_mapped, map_as_filter_map}
use Rattle.trie_merge.proofs.Zipped.{for_grows, state_live}
use Rattle.trie_merge.specs.Cuts.{CanGoOn}
use Rattle.trie_merge.specs.Led.{ComesFrom, IsAfter}
use Rattle.trie_merge.specs.Gathered.{GathersGroup}
use Rattle.trie_merge.specs.Merged.{PlaceMerged, numbers_of, runs_in, target_of}
use Rattle.trie_merge.specs.Names.{ranked_of}
use Rattle.trie_merge.specs.Shared.{RuleTree, IsState, AreIn, ArePlaced, IsFor}
use Rattle.trie_merge.specs.Started.{IsStarted}
use Rattle.trie_merge.specs.Places.{next_of, place_of, AreStates}
use Rattle.trie_merge.specs.Priced.{AreNumbers}
use Rattle.trie_merge.specs.declared.build.Gathered.{Gathered}
use Rattle.trie_merge.specs.declared.merge.Merged.{Merged}
use Rattle.trie_merge.specs.Words.{states_words, least_cost, least_words}
use Rattle.trie_merge.specs.declared.merge.Reached.{Reached}

-- the entry of a rule before the first byte
abbrev pub start_of : ℕ → ℕ
start_of rule = entry_of rule Free

-- what is numbered is parts, or rows at the last place
pub parts_for : (set : RuleSetView) (t : Target) → IsFor set false t → (pairs : List (ℕ × ℕ)) × (t ≡ Parts pairs)
parts_for set (Parts pairs) kind = (pairs, refl)
parts_for set (Rows rows) kind = absurd cc

-- at the last place rows are numbered, with the ranks of the set
rows_for : (set : RuleSetView) (t : Target) → IsFor set true t
    → (rows : RowsView) × (t ≡ Rows rows) × (rows.ranked ≡ ranked_of set)
rows_for set (Parts pairs) kind = absurd cc
rows_for set (Rows rows) kind = (rows, refl, kind.1)

module _ (set : RuleSetView) (group : List ℕ) where
  -- the kept places of the group
  abbrev pub places : List ℕ
  places = kept_places set group

  -- the rule is one of the group
  abbrev IsMember : ℕ → Type 0
  IsMember rule = list_any (λ r. r == rule) group ≡ true

  -- The entry is what some bytes before the place leave of a rule of the group.
  pub record EntryOf (place entry : ℕ) : Type 0 where
    pub at : IsEntryAt set place entry
    pub member : IsMember (number_in entry)

  -- the runs and the words of the places from some on
  abbrev pub runs_from : List ℕ → List (List (List Run))
  runs_from ps = level_runs set (states_at set group) (rows_of set group) ps

  -- the words of the places from some on
  abbrev pub words_from : List ℕ → ℕ
  words_from ps = words_of (runs_from ps) (rows_of set group)

  -- The places before one are merged: their runs stand before those of the others, and the words are those so far. The
  -- numbers are those of what is found, which are the states that the place begins with, or the rows at the end.
  pub record Placed (cap place : ℕ) (levels : List (List (List Run))) (target : Target) (numbers : List ℕ) (words : ℕ) :
      Type 0 where
    pub lists : List (List ℕ)
    pub tree : RuleTree
    pub rules : tree.rules ≡ group
    pub runs : levels ++ runs_from (drop place places) ≡ runs_from places
    pub states : place < length places → lists ≡ packed_at set group (get_or places place 0)
    pub rows : length places ≤ place → lists ≡ rows_of set group
    pub sum : words + words_from (drop place places) ≡ words_from places
    pub within : words ≤ cap
    pub whole : length places ≤ place → words + row_len * length lists ≤ cap
    pub each : AreIn set target tree lists numbers
    pub inside : AreNumbers target numbers
    pub kind : IsFor set (place == length places) target
    pub entries : place < length places → (entry : ℕ) → HasEntry target entry → EntryOf (get_or places place 0) entry

  -- a place that is wild in all rules is so in each
  wild_alone : (rule place : ℕ) → IsMember rule → is_wild_place set group place ≡ true
      → is_wild_place set (rule ∷ []) place ≡ true
  unfolding is_wild_place
  wild_alone rule place member wild =
      ap (λ b. b && true)
      (list_all_at_member (λ n. is_wild_at set.layout (values_of set n) place) group rule wild member)

  module _ (its : IsGrouped set group) where
    -- each rule of the group is in the set, with lawful values
    abbrev pub held : AllByRecursion (IsHeld set) group
    held = group_held set group its.rules its.layout its.group.within

    -- a key has at least one byte
    abbrev pub key : 0 < key_len_of set.layout
    key = (short_keys set.layout its.layout).0

    -- a kept place is one of the key
    pub kept_inside : (place : ℕ) → place < length places → get_or places place 0 < key_len_of set.layout
    kept_inside place below = place_inside set group held its.group.some key place below

    -- an entry can be asked about bytes at its place
    pub entry_can_ask : (place entry : ℕ) → place < length places → EntryOf (get_or places place 0) entry
        → CanStep (place_of set places place) entry
    entry_can_ask place entry below of =
        let at = of.at in
        subst (CanStep (place_of set places place)) (sym at.is)
        (entry_can_step set (get_or places place 0) at.number at.held at.edge
        (subst (λ n. Stands (values_of set at.number) (field_at set.layout n) at.edge) at.long
        (packed_stands set.layout (values_of set at.number) at.key at.edge at.held.lawful at.bytes
        (omega (arith, at.long, kept_inside place below)) at.packed)))

    -- what a byte makes of an entry is one of the next place
    pub entry_after : (place entry after : ℕ) → place < length places → place + 1 < length places
        → EntryOf (get_or places place 0) entry → IsAfter (column_at set (get_or places place 0)) entry after
        → EntryOf (get_or places (place + 1) 0) after
    unfolding packed_state entries_step
    entry_after place entry after below more of (byte, small, steps) =
        let gap = gap_next set group held its.group.some key place below more in
        let at = of.at in
        let rule : ℕ = at.number in
        let member = subst IsMember (ap number_in at.is ∙ number_in-entry_of rule at.edge) of.member in
        let nexts = entries_next set (rule ∷ []) (at.held, tt) (get_or places place 0) (get_or places (place + 1) 0)
        (record {
          rises = gap.rises;
          within = gap.within;
          wild = λ between from until. wild_alone rule between member (gap.wild between from until);
        })
        at.key byte (at.bytes, at.long) small in
        record {
          at = (rw (at.packed, ← at.is, steps) at nexts).0;
          member = subst IsMember (sym (step_number (column_at set (get_or places place 0)) entry byte after steps))
              of.member;
        }

    -- ---- before the first byte

    -- the first kept place has an entry of each rule
    start_entry : (rule : ℕ) → IsMember rule → EntryOf (get_or places 0 0) (start_of rule)
    start_entry rule member =
        let first = kept_places_first set group key in
        let place : ℕ = get_or places 0 0 in
        let alone : AllByRecursion (IsHeld set) (rule ∷ []) = (all_at_member (IsHeld set) group rule held member, tt) in
        let same = zeros_on set (rule ∷ []) alone [] place tt (omega (arith, first.within))
        (λ gap below. (let e : length {A = ℕ} [] + gap ≡ gap = omega arith in
        rw e (wild_alone rule gap member (first.before gap below))))
        ∙ packed_state_start set (rule ∷ []) alone in
        record {
          at = (rw (same, length-replicate) at
              (packed_entries set (rule ∷ []) (replicate place 0) alone (zeros_small place))).0;
          member = subst IsMember (sym (number_in-entry_of rule Free)) member;
        }

    -- before the first place nothing is placed
    pub placed_start : (cap : ℕ) {target : Target} {numbers : List ℕ} → IsStarted group target numbers
        → Placed cap 0 [] target numbers 0
    placed_start cap start =
        let first = kept_places_first set group key in
        let entries : List ℕ = map start_of group in
        let undone : (rule : ℕ) → rule_of (start_of rule) ≡ rule = λ rule. number_in-entry_of rule Free in
        let tree : RuleTree = record {
          rules = group;
          tree = start.all.tree;
          same = λ rule. ap (list_any (λ r. r == rule))
              (start.all.rules ∙ map_undone start_of rule_of undone start.order) ∙ start.same rule;
        } in
        let state : IsState start.pairs tree entries start.number = record {
          entries = λ rule. Some (start_of rule);
          own = λ rule entry is. (let e : start_of rule ≡ entry = cc in ap number_in (sym e) ∙ undone rule);
          is = map_as_filter_map start_of group;
          stands = start.all.stands (λ rule. Some (start_of rule))
              (all_of_mapped (λ entry. Some (start_of (rule_of entry)) ≡ Some entry) start_of
              (λ rule. ap (λ n. Some (start_of n)) (undone rule)) start.order);
        } in
        let above : 0 < start.number =
        ltb-true 0 start.number
        (sym (state_live start.pairs tree entries start.number state) ∙ live group its.group.some) in
        rw (start.parts, start.one) (record {
          lists = entries ∷ [];
          tree = tree;
          rules = refl;
          runs = refl;
          states = λ _. sym (packed_start set group held its.group.some (get_or places 0 0) first.within first.before);
          rows = λ h. absurd (omega (arith, h, first.some));
          sum = omega arith;
          within = omega arith;
          whole = λ h. absurd (omega (arith, h, first.some));
          each = (state, tt);
          inside = All-from_recursion (λ n. (0 < n) × (n ≤ length start.pairs)) (start.number ∷ [])
              ((above, start.within), tt);
          kind = ne_eqb 0 (length places) (λ e. omega (arith, e, first.some));
          entries = λ below entry has.
              (let (rule, there, is) = from_mapped start_of start.order entry (start.entries entry has) in
              subst (EntryOf (get_or places 0 0)) is (start_entry rule (sym (start.same rule) ∙ there)));
        })
      where
        live : (rules : List ℕ) → 0 < length rules → is_live (map start_of rules) ≡ true
        live [] some = absurd (omega (arith, some))
        live (rule ∷ rules) some = refl

    -- ---- at a place

    module _ (place : ℕ) where
      -- what the place has of each rule, whether it is the last one, its states and what they lead to
      abbrev pub column : ColumnView
      column = place_of set places place

      -- the place is the last kept one
      abbrev pub is_last : Bool
      is_last = place + 1 == length places

      -- the entries that are found at the place
      abbrev pub states : List (List ℕ)
      states = packed_at set group (get_or places place 0)

      -- what these entries lead to
      abbrev pub found : List (List ℕ)
      found = level_found set column is_last states

      -- and their runs
      abbrev pub its_runs : List (List Run)
      its_runs = map (state_runs set column is_last found) states

      module _ (below : place < length places) where
        -- they come before those of the places after it
        runs_split : runs_from (drop place places) ≡ its_runs ∷ runs_from (drop (place + 1) places)
        runs_split =
            ap runs_from (rest_is set group held its.group.some key place below)
            ∙ (level_here set group held its.group.some key place below).runs

        -- the words of the places from one on are its own and those of the places after it
        pub words_split : words_from (drop place places) ≡ states_words its_runs + words_from (drop (place + 1) places)
        words_split =
            let rest : List (List (List Run)) = runs_from (drop (place + 1) places) in
            rw runs_split (omega (arith, sum_by-cons (λ (s : List (List Run)). states_words s) its_runs rest))

        -- what is found are the states of the next place, or the rows
        pub found_next : place + 1 < length places → found ≡ packed_at set group (get_or places (place + 1) 0)
        found_next more =
            let at : place + 1 + 0 ≡ place + 1 = omega arith in
            rw (get_or-drop (place + 1) places 0 0, at) at
            ((level_here set group held its.group.some key place below).next
            (omega (arith, more, length-drop (place + 1) places)))

        -- what the last place's entries lead to are the rows
        found_rows : length places ≤ place + 1 → found ≡ rows_of set group
        found_rows end =
            (level_here set group held its.group.some key place below).rows
            (omega (arith, end, length-drop (place + 1) places))

    -- what is found at a place takes no more words than there are after it
    least_rest : (place : ℕ) → place < length places →
        least_cost (next_of set places place) (is_last place) (found place) ≤ words_from (drop (place + 1) places)
    least_rest place below = elim (cases_lt (place + 1) (length places)) [
      | inr end ↦
          let last = eq-eqb (place + 1) (length places) (omega (arith, end, below)) in
          let none = le-ltb (place + 2) (length places) (omega (arith, end)) in
          rw (found_rows place below end, none, last, least_cost_flat true (rows_of set group)) (omega arith)
      | inl more ↦
          let on : ℕ = place + 1 in
          let next : List (List ℕ) = states on in
          let split = words_split on more in
          rw (found_next place below more, ne_eqb (place + 1) (length places) (λ e. omega (arith, e, more)))
          (elim (cases_lt (place + 2) (length places)) [
            | inl later ↦
                let after = rw (ne_eqb (place + 1 + 1) (length places) (λ e. omega (arith, e, later))) at split in
                let known = least_cost_known (column on) false next ∙ words_are_ahead set (column on) next in
                rw (lt-ltb (place + 2) (length places) later, known) (omega (arith, after))
            | inr end ↦
                let many = length-map next (state_runs set (column on) (is_last on) (found on)) in
                let each = length-le-sum_by (λ (runs : List Run). cost_of (length runs))
                (λ runs. (cost_some (length runs)).0) (its_runs on) in
                rw (le-ltb (place + 2) (length places) end, least_cost_flat false next)
                (omega (arith, split, many, each))
          ])
    ]

    module _ {cap place : ℕ} {levels : List (List (List Run))} {target : Target} {numbers : List ℕ} {words : ℕ}
        (so_far : Placed cap place levels target numbers words) (below : place < length places) where
      -- what is numbered are parts
      parts : (pairs : List (ℕ × ℕ)) × (target ≡ Parts pairs)
      parts = parts_for set target (rw (ne_eqb place (length places) (λ e. omega (arith, e, below))) at so_far.kind)

      -- what was placed so far stands in the tree
      placed : ArePlaced set group so_far.tree parts.0 so_far.lists numbers
      placed = record {
        grouped = its;
        rules = so_far.rules;
        each = rw parts.1 at so_far.each;
      }

      -- what a byte makes of their entries are entries of the next place
      next_entry : (pairs : List (ℕ × ℕ)) → target ≡ Parts pairs → place + 1 < length places → (after : ℕ)
          → ComesFrom (column place) pairs after → EntryOf (get_or places (place + 1) 0) after
      next_entry pairs is more after (entry, has, comes) =
          entry_after place entry after below more (so_far.entries below entry (rw is has)) comes

      -- the next place
      pub placed_on : {new : Merged}
          → ((pairs : List (ℕ × ℕ)) → target ≡ Parts pairs
          → PlaceMerged set (column place) (is_last place)
          (record { cap = cap; before = words; states = length numbers }) pairs numbers new)
          → Placed cap (place + 1) (levels ++ runs_in new ∷ []) (target_of new) (numbers_of new) new.words
      placed_on {new = new} merges =
          let merged = merges parts.0 parts.1 in
          let both = merged.each group so_far.tree so_far.lists placed in
          let within = rw (so_far.states below) at both.0 in
          let split = runs_split place below in
          record {
            lists = found place;
            tree = so_far.tree;
            rules = so_far.rules;
            runs = append_assoc levels (runs_in new ∷ []) (runs_from (drop (place + 1) places))
                ∙ cc (so_far.runs, within.its_runs);
            states = found_next place below;
            rows = found_rows place below;
            sum = omega (arith, so_far.sum, words_split place below, within.sum, ap states_words within.its_runs);
            within = within.within;
            whole = λ h. within.whole (eq-eqb (place + 1) (length places) (omega (arith, h, below)));
            each = rw (so_far.states below) at both.1;
            inside = merged.inside;
            kind = for_grows set (is_last place) merged.old (target_of new) merged.led.grows merged.kind;
            entries = λ more entry has. elim (merged.led.entries entry has) [
              | inl was ↦ absurd (merged.none entry was)
              | inr comes ↦ next_entry parts.0 parts.1 more entry comes
            ];
          }

      -- or too many words
      pub placed_over : ((pairs : List (ℕ × ℕ)) → target ≡ Parts pairs → (g : List ℕ) (tree : RuleTree)
          (lists : List (List ℕ)) → ArePlaced set g tree pairs lists numbers
          → cap < least_words set (column place) (next_of set places place) (is_last place) words lists)
          → cap < (levels_of set group).words
      unfolding levels_of
      placed_over over =
          let past = rw (so_far.states below) at (over parts.0 parts.1 group so_far.tree so_far.lists placed) in
          omega (arith, past, so_far.sum, words_split place below, least_rest place below)

    -- the states can be merged
    pub placed_states : {cap place : ℕ} {levels : List (List (List Run))} (reached : Reached) {words : ℕ}
        → Placed cap place levels reached.target reached.found.keys words → place < length places
        → AreStates set places place reached
    placed_states {place = place} reached so_far below = record {
      parts = parts so_far below;
      inside = so_far.inside;
      step = λ entry has. entry_can_ask place entry below (so_far.entries below entry has);
      go_on = λ pairs is. cond_both (nat_lt (place + 2) (length places)) (Some (column (place + 1))) None
          (λ next. CanGoOn next (column place) pairs)
          (λ later entry comes. (let more : place + 1 < length places = omega (arith, ltb-true _ _ later) in
          entry_can_ask (place + 1) entry more (next_entry so_far below pairs is more entry comes)))
          (λ end. tt);
    }

    -- after the last place all is merged
    pub placed_end : {cap place : ℕ} (gathered : Gathered)
        → Placed cap place gathered.levels.items gathered.reached.target gathered.reached.found.keys gathered.words
        → place ≡ length places → GathersGroup set group cap gathered
    unfolding level_runs levels_of
    placed_end {place = place} gathered so_far end =
        let none : drop place places ≡ [] = drop_all place places (omega (arith, end)) in
        let rows = so_far.rows (omega (arith, end)) in
        let target : Target = gathered.reached.target in
        record {
          runs = sym (append-nil gathered.levels.items) ∙ (rw none at so_far.runs);
          sum = omega (arith, rw none at so_far.sum);
          within = omega (arith, so_far.whole (omega (arith, end)), ap length rows);
          rows = record {
            tree = so_far.tree;
            rules = so_far.rules;
            rows = rows_for set target (rw (eq-eqb place (length places) end) at so_far.kind);
            each = rw rows at so_far.each;
            inside = so_far.inside;
          };
        }
