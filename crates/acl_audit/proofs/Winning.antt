-- Where a rule wins is what the rows say, and its least key is that of the first row that says so.
use Rattle.std.proofs.Common.{◌≡◌, ℕ, suc, ◌+◌, ◌<◌, ◌==◌, List, [], ◌∷◌, length, map}
use Rattle.std.proofs.Common.{get_or, slice_get, Bool, true, false, cond, ◌⊎◌, refl, sym, ◌∙◌, ap, arith, inl, inr}
use Rattle.std.proofs.Common.{Option, Some, None}
use Rattle.std.specs.List.{AllByRecursion, find}
use Rattle.std.specs.Option.{option_map_or}
use Rattle.std.specs.Str.{bytes_eq}
use Rattle.std.proofs.lemmas.Bool.{cases_Bool, cases_eq, eqb-true, eq-eqb}
use Rattle.std.proofs.lemmas.List.FromFn.{get_or-map-range_with_len}
use Rattle.std.proofs.lemmas.List.Elements.{filter_agree}
use Rattle.field_defs.specs.Layout.{key_len_of}
use Rattle.field_defs.proofs.Offered.{short_keys}
use Rattle.rule_set.specs.Among.{passes_at, best_among}
use Rattle.rule_set.specs.Fault.{categories}
use Rattle.rule_set.specs.Laws.{TheWinnerIsAmongAllPlaces}
use Rattle.rule_set.specs.Rule.{RuleView, RuleSetView}
use Rattle.rule_set.specs.Winner.{rule_match, is_in_category, winner}
use Rattle.rule_set.proofs.Offered.{tests_in_turn}
use Rattle.table_sizes.specs.Sizes.{row_len}
use Rattle.group_states.specs.Follow.{matching}
use Rattle.group_states.specs.Found.{prefixes}
use Rattle.group_states.specs.Laws.{IsGrouped}
use Rattle.group_states.specs.Row.{winner_of, row_of, final_row}
use Rattle.group_states.specs.RuleRest.{values_of}
use Rattle.group_states.specs.State.{Held, state, is_live}
use Rattle.list_lemmas.proofs.Tests.{bytes_eq_sound}
use Rattle.list_lemmas.proofs.Each.{all_weaker}
use Rattle.group_states.proofs.Offered.{whole_numbers, prefixes_are, IsPrefix, some_field}
use Rattle.acl_audit.specs.Firsts.{first_from}
use Rattle.acl_audit.specs.Least.{wins_at, least_key, all_rules}
use Rattle.acl_audit.proofs.Finding.{find_found}
use Rattle.acl_audit.proofs.Leading.{rows_found}
use Rattle.acl_audit.proofs.Least.{least_is_first}

-- ---- the winner of all rules by the matching ones

module _ (set : RuleSetView) (key : List ℕ) (some : 0 < key_len_of set.layout) where
  -- a rule's values match the key exactly if the rule at its place passes
  same_match : (number : ℕ) → rule_match set.layout (values_of set number) key
      ≡ passes_at (λ rule. rule_match set.layout rule.fields key) set.rules number
  same_match number = by (slice_get set.rules number)
    where
      by : (found : Option RuleView) → rule_match set.layout (option_map_or (λ (rule : RuleView). rule.fields) found [])
          key ≡ option_map_or (λ (rule : RuleView). rule_match set.layout rule.fields key) found false
      by None = some_field set.layout key some
      by (Some rule) = refl

  -- the winner of the rules that match is that of the set
  pub winner_matching : (among : TheWinnerIsAmongAllPlaces) (category : ℕ)
      → winner_of set category (matching set (all_rules set) key) ≡ winner set.layout set.rules key category
  winner_matching among category =
      ap (λ numbers. best_among (λ rule. is_in_category rule.tag category) set.rules numbers)
      (filter_agree (λ number. rule_match set.layout (values_of set number) key)
      (passes_at (λ rule. rule_match set.layout rule.fields key) set.rules) same_match (all_rules set))
      ∙ sym (tests_in_turn (λ rule. rule_match set.layout rule.fields key) (λ rule. is_in_category rule.tag category)
      set.rules (all_rules set))
      ∙ sym (among set.layout set.rules key category)

-- the number of a row's winner plus 1, or 0
abbrev pub entry_for : Option ℕ → ℕ
entry_for won = option_map_or (λ number. number + 1) won 0

-- no rule wins among none
none_of_none : (set : RuleSetView) (category : ℕ) → winner_of set category [] ≡ None
unfolding best_among
none_of_none set category = refl

-- the entry of a final row is that of the winner among the state's rules
pub entry_is : (set : RuleSetView) (s : List Held) (category : ℕ) → category < row_len
    → get_or (final_row set s) category 0 ≡ entry_for (winner_of set category (map (λ (held : Held). held.number) s))
unfolding final_row row_of categories
entry_is set [] category within = sym (ap entry_for (none_of_none set category))
entry_is set (held ∷ s) category within =
    get_or-map-range_with_len
    (λ c. entry_for (winner_of set c (map (λ (h : Held). h.number) (held ∷ s)))) 0 16 category category 0 within
    (omega arith)

-- a rule is the winner exactly if the winner's entry is its number plus 1
entry_names : (won : Option ℕ) (rule : ℕ) → option_map_or (λ place. place == rule) won false
    ≡ (entry_for won == rule + 1)
entry_names None rule = elim (cases_Bool (0 == rule + 1)) [
  | inl is ↦ absurd (omega (arith, eqb-true 0 (rule + 1) is))
  | inr differs ↦ sym differs
]
entry_names (Some place) rule = elim (cases_eq place rule) [
  | inl e ↦ eq-eqb place rule e ∙ sym (eq-eqb (place + 1) (rule + 1) (omega (arith, e)))
  | inr apart ↦ both_false (place == rule) (place + 1 == rule + 1)
      (λ is. apart (eqb-true place rule is))
      (λ is. apart (omega (arith, eqb-true (place + 1) (rule + 1) is)))
]
  where
    both_false : (a b : Bool) → (a ≡ true → ⊥) → (b ≡ true → ⊥) → a ≡ b
    both_false true b f g = absurd (f refl)
    both_false false true f g = absurd (g refl)
    both_false false false f g = refl

module _ (set : RuleSetView) (is : IsGrouped set (all_rules set)) (among : TheWinnerIsAmongAllPlaces)
    (rule category : ℕ) (within : category < row_len) where
  -- a row names the rule in the category
  abbrev pub names : List ℕ → Bool
  names row = get_or row category 0 == rule + 1

  -- the row of a key
  abbrev pub row_at : List ℕ → List ℕ
  row_at key = final_row set (state set (all_rules set) key)

  -- the rule wins at a key exactly if the key's row names it
  wins_by_row : (key : List ℕ) → length key ≡ key_len_of set.layout → wins_at set rule category key ≡ names (row_at key)
  wins_by_row key long =
      entry_names (winner set.layout set.rules key category) rule
      ∙ ap (λ won. entry_for won == rule + 1)
      (sym (winner_matching set key (short_keys set.layout is.layout).0 among category))
      ∙ ap (λ numbers. entry_for (winner_of set category numbers) == rule + 1)
      (sym (whole_numbers set (all_rules set) key long))
      ∙ ap (λ entry. entry == rule + 1) (sym (entry_is set (state set (all_rules set) key) category within))

  -- two tests that agree on some keys find the same key among them
  find_where : (p q : List ℕ → Bool) (keys : List (List ℕ)) → AllByRecursion (λ key. p key ≡ q key) keys
      → find p keys ≡ find q keys
  find_where p q [] same = refl
  find_where p q (key ∷ keys) same = λ i. cond (same.0 i) (Some key) (find_where p q keys same.1 i)

  -- a row that names a rule is live
  named_is_live : (row : List ℕ) → names row ≡ true → is_live row ≡ true
  named_is_live [] named = absurd (omega (arith, eqb-true (get_or {A = ℕ} [] category 0) (rule + 1) named))
  named_is_live (entry ∷ row) named = refl

  -- the least key is the first of those whose rows are found that names the rule
  pub least_by_rows : least_key set rule category
      ≡ find (λ key. names (row_at key)) (rows_found set (all_rules set) is (prefixes (key_len_of set.layout)))
  unfolding least_key
  least_by_rows =
      least_is_first (wins_at set rule category) (key_len_of set.layout)
      ∙ find_where (wins_at set rule category) (λ key. names (row_at key)) (prefixes (key_len_of set.layout))
      (all_weaker (IsPrefix (key_len_of set.layout)) (λ key. wins_at set rule category key ≡ names (row_at key))
      (prefixes (key_len_of set.layout)) (λ key begins. wins_by_row key begins.1)
      (prefixes_are (key_len_of set.layout)))
      ∙ find_found bytes_eq is_live row_at bytes_eq_sound names named_is_live (prefixes (key_len_of set.layout))

-- What the number of the first row says: there is none, or it is that of the key.
abbrev pub IsFirst : List (List ℕ) → ℕ → ℕ → Option (List ℕ) → Type 0
IsFirst keys before number found =
    ((number ≡ 0) × (found ≡ None))
    ⊎ ((k : ℕ) × (k < length keys) × (number ≡ before + k + 1) × (found ≡ Some (get_or keys k [])))

-- the number of the first row that names a rule is that of the first key whose row does
pub first_found : (row_at : List ℕ → List ℕ) (rule category before : ℕ) (keys : List (List ℕ))
    → IsFirst keys before (first_from before (map row_at keys) rule category)
    (find (λ key. get_or (row_at key) category 0 == rule + 1) keys)
first_found row_at rule category before [] = inl (refl, refl)
first_found row_at rule category before (key ∷ keys) =
    by (get_or (row_at key) category 0 == rule + 1) (first_found row_at rule category (before + 1) keys)
  where
    by : (b : Bool) → IsFirst keys (before + 1) (first_from (before + 1) (map row_at keys) rule category)
        (find (λ key. get_or (row_at key) category 0 == rule + 1) keys)
        → IsFirst (key ∷ keys) before
        (cond b (before + 1) (first_from (before + 1) (map row_at keys) rule category))
        (cond b (Some key) (find (λ key. get_or (row_at key) category 0 == rule + 1) keys))
    by true rest = inr (0, omega arith, omega arith, refl)
    by false (inl none) = inl none
    by false (inr (k, below, is, found)) = inr (suc k, omega (arith, below), omega (arith, is), found)
