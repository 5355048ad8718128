-- The runs of the states of each kept place, by their entries.
use Rattle.std.proofs.Common.{◌≡◌, ℕ, zero, suc, ◌+◌, ◌-◌, ◌<◌, ◌≤◌, ◌==◌, List, [], ◌∷◌, length, map, drop}
use Rattle.std.proofs.Common.{get_or, Bool, true, false, cond, true≢false, sym, ◌∙◌, ap}
use Rattle.std.proofs.Common.{subst, inl, inr, arith}
use Rattle.std.specs.Prelude.{All}
use Rattle.std.specs.List.{AllByRecursion}
use Rattle.std.specs.Str.{bytes_eq}
use Rattle.std.proofs.lemmas.Bool.{cases_eq, eq-eqb, ne_eqb}
use Rattle.std.proofs.lemmas.List.{drop_more, length-map, length-drop}
use Rattle.std.proofs.lemmas.List.Elements.{recursion_from_All}
use Rattle.field_defs.specs.Layout.{key_len_of}
use Rattle.field_defs.specs.Lawful.{IsLayout}
use Rattle.rule_set.specs.Rule.{RuleSetView}
use Rattle.rule_set.specs.RuleSet.{IsRuleSet}
use Rattle.node_expand.specs.declared.edge.Edge.TheVariants.{Free}
use Rattle.rule_set.specs.Fault.{categories}
use Rattle.group_states.proofs.Categories.{length-categories}
use Rattle.group_states.proofs.Finds.{All-found_in}
use Rattle.group_states.proofs.Gaps.{Gaps, kept_places_first}
use Rattle.group_states.proofs.PackedState.{IsHeld, packed_state, packed_state_start, is_held}
use Rattle.list_lemmas.proofs.Each.{all_weaker, all-map}
use Rattle.group_states.proofs.Prefixes.{IsPrefix, prefixes_are}
use Rattle.group_states.proofs.Reached.{packed_at, packed_next, packed_past_all, runs_next, runs_last, rows_are, IsGap}
use Rattle.group_states.specs.Entry.{entry_of, column_at}
use Rattle.group_states.specs.Found.{found_with, found_in, prefixes}
use Rattle.group_states.specs.Kept.{is_wild_place, kept_places}
use Rattle.group_states.specs.Levels.{states_at, level_runs}
use Rattle.group_states.specs.Lists.{level_found, state_runs}
use Rattle.group_states.specs.Row.{row_of, final_row, rows_of}
use Rattle.group_states.specs.State.{Held, state, is_live}
use Rattle.group_states.specs.declared.run.Run.{Run}

-- the rules of a group are held
pub group_held : (set : RuleSetView) (group : List ℕ) → IsRuleSet set → IsLayout set.layout
    → All (λ number. number < length set.rules) group → AllByRecursion (IsHeld set) group
group_held set group held layout within =
    all_weaker (λ number. number < length set.rules) (IsHeld set) group (λ number h. is_held set number held layout h)
    (recursion_from_All (λ number. number < length set.rules) group within)

module _ (set : RuleSetView) (group : List ℕ) (held : AllByRecursion (IsHeld set) group) where
  -- at place 0 one list of entries is found, which is that before the first byte
  packed_at_zero : (entry : ℕ) (entries : List ℕ) → packed_state set group [] ≡ entry ∷ entries
      → packed_at set group 0 ≡ (entry ∷ entries) ∷ []
  unfolding packed_at found_in prefixes
  packed_at_zero entry entries is = ap (λ e. found_with bytes_eq is_live [] e) is

  -- before the first kept place there is one state, of all rules
  pub packed_start : 0 < length group → (place : ℕ) → place ≤ key_len_of set.layout
      → ((k : ℕ) → k < place → is_wild_place set group k ≡ true) →
      packed_at set group place ≡ map (λ number. entry_of number Free) group ∷ []
  packed_start some place within wild =
      let e : 0 + place ≡ place = omega arith in
      ap (packed_at set group) (sym e)
      ∙ packed_past_all set group held 0 place (omega arith)
      (λ gap below. ap (is_wild_place set group) (omega arith) ∙ wild gap below)
      ∙ at_zero group some (packed_state_start set group held)
    where
      at_zero : (g : List ℕ) → 0 < length g → packed_state set group [] ≡ map (λ number. entry_of number Free) g
          → packed_at set group 0 ≡ map (λ number. entry_of number Free) g ∷ []
      at_zero [] some is = absurd (omega arith)
      at_zero (n ∷ g) some is = packed_at_zero (entry_of n Free) (map (λ number. entry_of number Free) g) is

  -- the runs of the states of these kept places
  abbrev pub tail_runs : List ℕ → List (List (List Run))
  tail_runs places = level_runs set (states_at set group) (rows_of set group) places

  -- what is found at a place, and its runs
  pub record LevelIs (place : ℕ) (places : List ℕ) (is_last : Bool) : Type 0 where
    pub runs : tail_runs (place ∷ places)
        ≡ map (state_runs set (column_at set place) is_last
        (level_found set (column_at set place) is_last (packed_at set group place))) (packed_at set group place)
        ∷ tail_runs places
    pub next : 0 < length places
        → level_found set (column_at set place) is_last (packed_at set group place)
        ≡ packed_at set group (get_or places 0 0)
    pub rows : length places ≡ 0
        → level_found set (column_at set place) is_last (packed_at set group place) ≡ rows_of set group

  -- the runs of a kept place are those of what is found there, and lead to what is found next
  pub level_is : (place : ℕ) (places : List ℕ) → Gaps set group (place ∷ places)
      → LevelIs place places (length places == 0)
  unfolding level_runs
  level_is place [] gap =
      let found = rows_are set group held place gap in
      record {
        runs = ap (λ runs. runs ∷ [])
            (sym (runs_last set group held place gap)
            ∙ ap (λ f. map (state_runs set (column_at set place) true f) (packed_at set group place)) (sym found));
        next = λ h. absurd (omega arith);
        rows = λ _. found;
      }
  level_is place (next ∷ places) gaps =
      let found = packed_next set group held place next gaps.0 in
      let other : (length (next ∷ places) == 0) ≡ false = ne_eqb (length (next ∷ places)) 0 (λ e. omega arith) in
      subst (LevelIs place (next ∷ places)) (sym other)
      (record {
        runs = ap (λ runs. runs ∷ tail_runs (next ∷ places))
            (sym (runs_next set group held place next gaps.0)
            ∙ ap (λ f. map (state_runs set (column_at set place) false f) (packed_at set group place)) (sym found));
        next = λ _. found;
        rows = λ h. absurd (omega arith);
      })

module _ (set : RuleSetView) (group : List ℕ) (held : AllByRecursion (IsHeld set) group) (some : 0 < length group)
    (key : 0 < key_len_of set.layout) where
  -- the kept places of the group
  abbrev places : List ℕ
  places = kept_places set group

  -- kept places after the first few have wild places between them
  pub gaps_after : (ps : List ℕ) (n : ℕ) → Gaps set group ps → Gaps set group (drop n ps)
  gaps_after ps zero gaps = gaps
  gaps_after [] (suc n) gaps = tt
  gaps_after (p ∷ []) (suc n) gaps = by n
    where
      by : (m : ℕ) → Gaps set group (drop m [])
      by zero = tt
      by (suc m) = tt
  gaps_after (p ∷ q ∷ ps) (suc n) gaps = gaps_after (q ∷ ps) n gaps.1

  -- a kept place is a place of the key
  gap_within : (place : ℕ) (ps : List ℕ) → Gaps set group (place ∷ ps) → place < key_len_of set.layout
  gap_within place [] gap = gap.rises
  gap_within place (q ∷ ps) gaps = omega (arith, gaps.0.rises, gaps.0.within)

  module _ (place : ℕ) (below : place < length places) where
    -- the kept places from one on are that one and those after it
    pub rest_is : drop place places ≡ get_or places place 0 ∷ drop (place + 1) places
    rest_is = drop_more places place 0 below

    -- the kept places from this one on have wild places between them
    pub gaps_here : Gaps set group (get_or places place 0 ∷ drop (place + 1) places)
    gaps_here = subst (Gaps set group) rest_is (gaps_after places place (kept_places_first set group key).gaps)

    -- all places between this one and the next kept one are wild
    pub gap_next : place + 1 < length places → IsGap set group (get_or places place 0) (get_or places (place + 1) 0)
    gap_next more =
        let next : drop (place + 1) places ≡ get_or places (place + 1) 0 ∷ drop (place + 1 + 1) places =
        drop_more places (place + 1) 0 more in
        (subst (λ ps. Gaps set group (get_or places place 0 ∷ ps)) next gaps_here).0

    -- this place is one of the key
    pub place_inside : get_or places place 0 < key_len_of set.layout
    place_inside = gap_within (get_or places place 0) (drop (place + 1) places) gaps_here

    -- what is found at the kept place of that number, and its runs
    pub level_here : LevelIs set group held (get_or places place 0) (drop (place + 1) places)
        (place + 1 == length places)
    level_here =
        let long : length (drop (place + 1) places) ≡ length places - (place + 1) = length-drop (place + 1) places in
        subst (LevelIs set group held (get_or places place 0) (drop (place + 1) places))
        (same_tests (length (drop (place + 1) places)) 0 (place + 1) (length places)
        (λ e. omega (arith, long, e, below)) (λ e. omega (arith, long, e)))
        (level_is set group held (get_or places place 0) (drop (place + 1) places) gaps_here)
      where
        same_tests : (a b c d : ℕ) → (a ≡ b → c ≡ d) → (c ≡ d → a ≡ b) → (a == b) ≡ (c == d)
        same_tests a b c d there back = elim (cases_eq a b) [
          | inl e ↦ eq-eqb a b e ∙ sym (eq-eqb c d (there e))
          | inr ne ↦ ne_eqb a b ne ∙ sym (ne_eqb c d (λ e. ne (back e)))
        ]

-- every row has a number for each category
pub rows_long : (set : RuleSetView) (group : List ℕ) → AllByRecursion (λ row. length row ≡ 16) (rows_of set group)
unfolding rows_of final_row row_of
rows_long set group =
    All-found_in bytes_eq is_live (λ row. length row ≡ 16)
    (map (λ key. final_row set (state set group key)) (prefixes (key_len_of set.layout)))
    (all-map (λ row. is_live row ≡ true → length row ≡ 16) (λ key. final_row set (state set group key))
    (prefixes (key_len_of set.layout))
    (all_weaker (IsPrefix (key_len_of set.layout))
    (λ key. is_live (final_row set (state set group key)) ≡ true
    → length (final_row set (state set group key)) ≡ 16) (prefixes (key_len_of set.layout))
    (λ key is. by (is_live (state set group key)) (row_of set (map (λ (h : Held). h.number) (state set group key)))
    (length-map categories _ ∙ length-categories))
    (prefixes_are (key_len_of set.layout))))
  where
    by : (b : Bool) (row : List ℕ) → length row ≡ 16 → is_live (cond b row []) ≡ true → length (cond b row []) ≡ 16
    by true row long live = long
    by false row long live = absurd (true≢false (sym live))
