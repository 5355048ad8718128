-- The first row of a half that answers unlike says the least key and category at which its two sets differ.
use Rattle.std.proofs.Common.{◌≡◌, ℕ, suc, ◌+◌, ◌-◌, ◌*◌, ◌<◌, ◌==◌, List, [], ◌∷◌, length, map, get_or}
use Rattle.std.proofs.Common.{cond}
use Rattle.std.proofs.Common.{Bool, true, false, not, true≢false, ◌⊎◌, Option, Some, None, refl, sym, ◌∙◌, ap}
use Rattle.std.proofs.Common.{subst}
use Rattle.std.proofs.Common.{inl, inr, arith, ◌↔◌, IfSome, IfOk, Result, Ok, Err}
use Rattle.std.specs.List.{AllByRecursion, find, list_any, range_with_len}
use Rattle.std.specs.Option.{option_map, is_some}
use Rattle.std.specs.Str.{bytes_eq}
use Rattle.std.proofs.lemmas.Bool.{eqb-true}
use Rattle.list_lemmas.proofs.First.{find_agree}
use Rattle.field_defs.specs.Faults.{first_of}
use Rattle.field_defs.specs.Layout.{key_len_of}
use Rattle.rule_set.specs.Laws.{TheWinnerIsAmongAllPlaces}
use Rattle.rule_set.specs.Rule.{RuleView, RuleSetView}
use Rattle.rule_set.specs.Winner.{winner, verdict, userdata_at}
use Rattle.table_sizes.specs.Sizes.{row_len}
use Rattle.group_states.specs.Found.{prefixes}
use Rattle.group_states.specs.Laws.{IsGrouped}
use Rattle.group_states.specs.Levels.{LevelsView, levels_of}
use Rattle.group_states.specs.Row.{final_row}
use Rattle.group_states.specs.State.{state, is_live}
use Rattle.list_lemmas.proofs.Tests.{bytes_eq_sound}
use Rattle.list_lemmas.proofs.Each.{all_weaker}
use Rattle.group_states.proofs.Offered.{prefixes_are, IsPrefix}
use Rattle.acl_audit.specs.declared.compare.Compared.{Compared}
use Rattle.acl_audit.specs.declared.compare.CompareFault.{CompareFault}
use Rattle.acl_audit.specs.declared.unlike.Unlike.{Unlike}
use Rattle.acl_audit.specs.Compared.{told_difference}
use Rattle.acl_audit.specs.Difference.{Difference, verdict_of, is_unlike, eight_from, with_category, least_passing}
use Rattle.acl_audit.specs.Difference.{difference_from, difference}
use Rattle.acl_audit.specs.Half.{half_len, half_of}
use Rattle.acl_audit.specs.Laws.{AreAlike, AreUnlikeAt}
use Rattle.acl_audit.specs.Least.{least_from, all_rules}
use Rattle.acl_audit.specs.Traced.{key_of_row}
use Rattle.acl_audit.specs.Unlike.{entry_userdata, is_unlike_in, unlike_category, unlike_or, first_unlike}
use Rattle.acl_audit.proofs.Differing.{any_by_find, differences_tell}
use Rattle.acl_audit.proofs.Finding.{find_found}
use Rattle.acl_audit.proofs.Fitting.{entry_is_winner}
use Rattle.acl_audit.proofs.Halving.{halves_have_verdicts}
use Rattle.acl_audit.proofs.Least.{least_is_first}
use Rattle.acl_audit.specs.Ways.{AreMerged}
use Rattle.acl_audit.proofs.Ready.{grouped, row_key_is}
use Rattle.acl_audit.proofs.Telling.{keys, rows_are, row_count, all_long}
use Rattle.acl_audit.proofs.Tracing.{all_at}
use Rattle.acl_audit.proofs.Winning.{entry_for}
use Rattle.list_lemmas.proofs.Searches.{any_is_some, find_shifted, find_on_range}

-- ---- tests that agree

-- two tests that agree on some keys find the same key among them
find_where : (p q : List ℕ → Bool) (ks : List (List ℕ)) → AllByRecursion (λ key. p key ≡ q key) ks
    → find p ks ≡ find q ks
find_where p q [] same = refl
find_where p q (key ∷ ks) same = λ i. cond (same.0 i) (Some key) (find_where p q ks same.1 i)

-- the category of a half as that of its sets
abbrev pub old_category : ℕ → Difference → Difference
old_category more at = record { key = at.key; category = more + at.category }

-- a test of eight categories from 0 on, said of eight others
least_shifted : (test old : List ℕ → ℕ → Bool) (len more : ℕ)
    → ((key : List ℕ) (n : ℕ) → n < 8 → old key (more + n) ≡ test key n)
    → least_passing old len more ≡ option_map (old_category more) (least_passing test len 0)
unfolding least_passing eight_from
least_shifted test old len more same =
    ap (with_category old more)
    (least_is_first (λ key. list_any (old key) (range_with_len more 8)) len
    ∙ find_agree (λ key. list_any (old key) (range_with_len more 8)) (λ key. list_any (test key) (range_with_len 0 8))
    (λ key. any_is_some (old key) (range_with_len more 8) ∙ ap is_some (shifted key)
    ∙ stays_some (find (test key) (range_with_len 0 8))
    ∙ sym (any_is_some (test key) (range_with_len 0 8))) (prefixes len)
    ∙ sym (least_is_first (λ key. list_any (test key) (range_with_len 0 8)) len))
    ∙ by (least_from (λ key. list_any (test key) (range_with_len 0 8)) len [])
  where
    shifted : (key : List ℕ) → find (old key) (range_with_len more 8)
        ≡ option_map (λ n. more + n) (find (test key) (range_with_len 0 8))
    shifted key =
        (let e : more ≡ more + 0 = omega arith in ap (λ n. find (old key) (range_with_len n 8)) e)
        ∙ find_shifted (old key) (test key) more 0 8 (λ n from below. same key n (omega (arith, below)))

    stays_some : (o : Option ℕ) → is_some (option_map (λ n. more + n) o) ≡ is_some o
    stays_some None = refl
    stays_some (Some n) = refl

    inside : (key : List ℕ) (o : Option ℕ)
        → option_map (λ c. record { key = key; category = c }) (option_map (λ n. more + n) o)
        ≡ option_map (old_category more) (option_map (λ c. record { key = key; category = c }) o)
    inside key None = refl
    inside key (Some n) = refl

    by : (found : Option (List ℕ)) → with_category old more found
        ≡ option_map (old_category more) (with_category test 0 found)
    by None = refl
    by (Some key) =
        ap (option_map (λ c. record { key = key; category = c })) (shifted key)
        ∙ inside key (find (test key) (range_with_len 0 8))

-- ---- what the rows of a half say

-- the verdicts of the two lists of a half are unlike in a category of the first
abbrev pub unlike_inside : RuleSetView → List ℕ → ℕ → Bool
unlike_inside set key category = not (verdict_of set key category == verdict_of set key (category + half_len))

-- the userdata of a winner's entry is that of the winner
userdata_is : (rules : List RuleView) (won : Option ℕ) → entry_userdata rules (entry_for won) ≡ userdata_at rules won
userdata_is rules None = refl
userdata_is rules (Some place) =
    let e : place + 1 - 1 ≡ place = omega arith in
    differs (place + 1 == 0) (λ is. omega (arith, eqb-true (place + 1) 0 is))
    ∙ ap (λ n. userdata_at rules (Some n)) e
  where
    differs : (b : Bool) → (b ≡ true → ⊥) → {x : ℕ} → cond b 0 x ≡ x
    differs true no_way = absurd (no_way refl)
    differs false no_way = refl

-- a row of no rules answers nothing
dead_row : (rules : List RuleView) → unlike_category rules [] ≡ None
unfolding eight_from
dead_row rules = refl

-- What the first unlike row says: there is none and no key, or it is that of the key.
abbrev IsFirstUnlike : List RuleView → (List ℕ → List ℕ) → List (List ℕ) → ℕ → Option Unlike → Option (List ℕ) → Type 0
IsFirstUnlike rules row_for keys before unlike found =
    ((unlike ≡ None) × (found ≡ None))
    ⊎ ((k : ℕ) × (c : ℕ) × (k < length keys) × (unlike ≡ Some (record { row = before + k; category = c }))
    × (found ≡ Some (get_or keys k [])) × (unlike_category rules (row_for (get_or keys k [])) ≡ Some c))

-- the first unlike row is that of the first key whose row is unlike
unlike_found : (rules : List RuleView) (row_for : List ℕ → List ℕ) (before : ℕ) (ks : List (List ℕ))
    → IsFirstUnlike rules row_for ks before (first_unlike rules before (map row_for ks))
    (find (λ key. is_some (unlike_category rules (row_for key))) ks)
unlike_found rules row_for before [] = inl (refl, refl)
unlike_found rules row_for before (key ∷ ks) =
    by (unlike_category rules (row_for key)) refl (unlike_found rules row_for (before + 1) ks)
  where
    by : (o : Option ℕ) → unlike_category rules (row_for key) ≡ o
        → IsFirstUnlike rules row_for ks (before + 1) (first_unlike rules (before + 1) (map row_for ks))
        (find (λ k. is_some (unlike_category rules (row_for k))) ks)
        → IsFirstUnlike rules row_for (key ∷ ks) before
        (unlike_or before o (first_unlike rules (before + 1) (map row_for ks)))
        (cond (is_some o) (Some key) (find (λ k. is_some (unlike_category rules (row_for k))) ks))
    by (Some c) is rest =
        let e : before ≡ before + 0 = omega arith in
        inr (0, c, omega arith, ap (λ n. Some (record { row = n; category = c })) e, refl, is)
    by None is (inl none) = inl none
    by None is (inr (k, c, below, unlike, found, at)) =
        let e : before + 1 + k ≡ before + suc k = omega arith in
        inr (suc k, c, omega (arith, below), unlike ∙ ap (λ n. Some (record { row = n; category = c })) e, found, at)

-- the difference that a row says
abbrev pub row_difference : RuleSetView → LevelsView → ℕ → Option Unlike → Option Difference
row_difference set levels more unlike =
    option_map (λ (u : Unlike). record { key = key_of_row set levels u.row; category = more + u.category }) unlike

module _ (set : RuleSetView) (is : IsGrouped set (all_rules set)) (among : TheWinnerIsAmongAllPlaces) where
  -- the verdict of a key is the userdata of the entry in its row
  verdict_by_row : (key : List ℕ) → length key ≡ key_len_of set.layout → (category : ℕ) → category < row_len
      → entry_userdata set.rules (get_or (final_row set (state set (all_rules set) key)) category 0)
      ≡ verdict_of set key category
  verdict_by_row key long category within =
      ap (entry_userdata set.rules) (entry_is_winner set is among key long category within)
      ∙ userdata_is set.rules (winner set.layout set.rules key category)

  -- the first unlike category of a key is that of its row
  category_by_row : (key : List ℕ) → length key ≡ key_len_of set.layout
      → unlike_category set.rules (final_row set (state set (all_rules set) key))
      ≡ find (unlike_inside set key) (eight_from 0)
  unfolding eight_from
  category_by_row key long =
      find_on_range (is_unlike_in set.rules (final_row set (state set (all_rules set) key))) (unlike_inside set key) 0 8
      (λ c from below. λ i. not (verdict_by_row key long c (omega (arith, below)) i
      == verdict_by_row key long (c + half_len) (omega (arith, below)) i))

  -- the row of a key answers unlike
  abbrev differs : List ℕ → Bool
  differs row = is_some (unlike_category set.rules row)

  -- a row that differs is live
  differing_is_live : (row : List ℕ) → differs row ≡ true → is_live row ≡ true
  differing_is_live [] named = absurd (true≢false (sym named ∙ ap is_some (dead_row set.rules)))
  differing_is_live (entry ∷ row) named = refl

  -- the least key at which the two lists differ is the first of those of the rows whose row does
  least_by_rows : least_from (λ key. list_any (unlike_inside set key) (eight_from 0)) (key_len_of set.layout) []
      ≡ find (λ key. is_some (unlike_category set.rules (final_row set (state set (all_rules set) key))))
      (keys set is among)
  least_by_rows =
      let test : List ℕ → Bool = λ key. list_any (unlike_inside set key) (eight_from 0) in
      let by_row : List ℕ → Bool =
      λ key. is_some (unlike_category set.rules (final_row set (state set (all_rules set) key))) in
      least_is_first test (key_len_of set.layout)
      ∙ find_where test by_row (prefixes (key_len_of set.layout))
      (all_weaker (IsPrefix (key_len_of set.layout)) (λ key. test key ≡ by_row key) (prefixes (key_len_of set.layout))
      (λ key begins. any_is_some (unlike_inside set key) (eight_from 0)
      ∙ ap is_some (sym (category_by_row key begins.1))) (prefixes_are (key_len_of set.layout)))
      ∙ find_found bytes_eq is_live (λ key. final_row set (state set (all_rules set) key)) bytes_eq_sound
      (λ row. is_some (unlike_category set.rules row)) differing_is_live (prefixes (key_len_of set.layout))

  -- so the first unlike row says the difference
  told_by_rows : (levels : LevelsView) → levels ≡ levels_of set (all_rules set)
      → ((row : ℕ) → row < length levels.rows → key_of_row set levels row ≡ get_or (keys set is among) row [])
      → least_passing (unlike_inside set) (key_len_of set.layout) 0
      ≡ row_difference set levels 0 (first_unlike set.rules 0 levels.rows)
  unfolding least_passing
  told_by_rows levels merged key_is =
      let rows_is : levels.rows ≡ map (λ key. final_row set (state set (all_rules set) key)) (keys set is among) =
      ap (λ (l : LevelsView). l.rows) merged ∙ rows_are set is among in
      ap (with_category (unlike_inside set) 0) least_by_rows
      ∙ by rows_is (first_unlike set.rules 0 levels.rows)
      (find (λ key. is_some (unlike_category set.rules (final_row set (state set (all_rules set) key))))
      (keys set is among))
      (subst (λ rows. IsFirstUnlike set.rules (λ key. final_row set (state set (all_rules set) key))
      (keys set is among) 0
      (first_unlike set.rules 0 rows)
      (find (λ key. is_some (unlike_category set.rules (final_row set (state set (all_rules set) key))))
      (keys set is among))) (sym rows_is)
      (unlike_found set.rules (λ key. final_row set (state set (all_rules set) key)) 0 (keys set is among)))
    where
      by : levels.rows ≡ map (λ key. final_row set (state set (all_rules set) key)) (keys set is among)
          → (unlike : Option Unlike) (found : Option (List ℕ))
          → IsFirstUnlike set.rules (λ key. final_row set (state set (all_rules set) key)) (keys set is among) 0 unlike
          found → with_category (unlike_inside set) 0 found ≡ row_difference set levels 0 unlike
      by rows_is unlike found (inl (no_row, no_key)) =
          ap (with_category (unlike_inside set) 0) no_key ∙ sym (ap (row_difference set levels 0) no_row)
      by rows_is unlike found (inr (k, c, below, row, key, at)) =
          let its : List ℕ = get_or (keys set is among) k [] in
          let long : length its ≡ key_len_of set.layout =
          all_at (λ key. length key ≡ key_len_of set.layout) (keys set is among) k [] (all_long set is among) below in
          let few : k < length levels.rows =
          omega (arith, below, ap (λ (l : LevelsView). length l.rows) merged, row_count set is among) in
          let e : 0 + k ≡ k = omega arith in
          ap (with_category (unlike_inside set) 0) key
          ∙ ap (option_map (λ c. record { key = its; category = c })) (sym (category_by_row its long) ∙ at)
          ∙ (let f : c ≡ 0 + c = omega arith in
          λ i. Some (record { key = sym (key_is k few) i; category = f i }))
          ∙ sym (ap (row_difference set levels 0) row
          ∙ (λ i. Some (record { key = key_of_row set levels (e i); category = 0 + c })))

-- ---- a half and its two sets

-- two sets are unlike in a category exactly if the two lists of the category's half are
unlike_of_both : (one two : RuleSetView) (half : ℕ) → one.layout ≡ two.layout → (key : List ℕ) (n : ℕ) → n < 8
    → is_unlike one two key (half_len * half + n) ≡ unlike_inside (half_of one two half) key n
unlike_of_both one two half layouts key n below =
    let e : half_len + n ≡ n + half_len = omega arith in
    λ i. not (sym (halves_have_verdicts.first one two half n key below) i
    == (sym (halves_have_verdicts.second one two half n key layouts below)
    ∙ ap (verdict_of (half_of one two half) key) e) i)

-- a half has the layout of its sets
same_layout : (one two : RuleSetView) (half : ℕ) → (half_of one two half).layout ≡ one.layout
unfolding half_of
same_layout one two half = refl

-- the difference of two sets by what their half says
pub difference_by_half : (one two : RuleSetView) (half : ℕ) → one.layout ≡ two.layout
    → difference_from one two (half_len * half)
    ≡ option_map (old_category (half_len * half))
    (least_passing (unlike_inside (half_of one two half)) (key_len_of (half_of one two half).layout) 0)
difference_by_half one two half layouts =
    least_shifted (unlike_inside (half_of one two half)) (is_unlike one two) (key_len_of one.layout) (half_len * half)
    (unlike_of_both one two half layouts)
    ∙ ap (λ l. option_map (old_category (half_len * half))
    (least_passing (unlike_inside (half_of one two half)) (key_len_of l) 0)) (sym (same_layout one two half))

-- the first unlike row of a half says the difference of the sets in its categories
pub half_told : (one two : RuleSetView) (half : ℕ) (set : RuleSetView) (levels : LevelsView) (unlike : Option Unlike)
    → one.layout ≡ two.layout → set ≡ half_of one two half → AreMerged set levels
    → unlike ≡ first_unlike set.rules 0 levels.rows
    → row_difference set levels (half_len * half) unlike ≡ difference_from one two (half_len * half)
half_told one two half set levels unlike layouts is its first =
    sym (difference_by_half one two half layouts
    ∙ ap (λ (s : RuleSetView). option_map (old_category (half_len * half))
    (least_passing (unlike_inside s) (key_len_of s.layout) 0)) (sym is)
    ∙ ap (option_map (old_category (half_len * half)))
    (told_by_rows set (grouped set levels its) its.among levels its.merged (row_key_is set levels its)
    ∙ ap (row_difference set levels 0) (sym first))
    ∙ by unlike)
  where
    by : (o : Option Unlike) → option_map (old_category (half_len * half)) (row_difference set levels 0 o)
        ≡ row_difference set levels (half_len * half) o
    by None = refl
    by (Some u) =
        (let e : half_len * half + (0 + u.category) ≡ half_len * half + u.category = omega arith in
        λ i. Some (record { key = key_of_row set levels u.row; category = e i }))

-- ---- a half without rules

-- nothing is found by a test that nothing passes
never_found : {X : Type 0} (p : X → Bool) → ((x : X) → p x ≡ false) → (xs : List X) → find p xs ≡ None
never_found p never [] = refl
never_found p never (x ∷ xs) = ap (λ b. cond b (Some x) (find p xs)) (never x) ∙ never_found p never xs

-- a list of length 0 has no rules
no_rules : (rules : List RuleView) → length rules ≡ 0 → rules ≡ []
no_rules [] none = refl
no_rules (rule ∷ rules) none = absurd (omega (arith, none))

-- a set without rules has verdict 0 for each key
no_verdict : (set : RuleSetView) → length set.rules ≡ 0 → (key : List ℕ) (category : ℕ)
    → verdict_of set key category ≡ 0
no_verdict set none key category = ap (λ rules. verdict set.layout rules key category) (no_rules set.rules none)

-- there is no least key that passes a test if no key does
never_passing : (test : List ℕ → ℕ → Bool) (len : ℕ) → ((key : List ℕ) (n : ℕ) → test key n ≡ false)
    → least_passing test len 0 ≡ None
unfolding least_passing
never_passing test len never =
    ap (with_category test 0)
    (least_is_first (λ key. list_any (test key) (eight_from 0)) len
    ∙ never_found (λ key. list_any (test key) (eight_from 0))
    (λ key. any_by_find (test key) (eight_from 0) (never_found (test key) (never key) (eight_from 0))) (prefixes len))

-- there is no difference in the categories of a half that has no rules
pub none_told : (one two : RuleSetView) (half : ℕ) (set : RuleSetView) → one.layout ≡ two.layout
    → set ≡ half_of one two half → length set.rules ≡ 0 → None ≡ difference_from one two (half_len * half)
none_told one two half set layouts is none =
    sym (difference_by_half one two half layouts
    ∙ ap (λ (s : RuleSetView). option_map (old_category (half_len * half))
    (least_passing (unlike_inside s) (key_len_of s.layout) 0)) (sym is)
    ∙ ap (option_map (old_category (half_len * half)))
    (never_passing (unlike_inside set) (key_len_of set.layout)
    (λ key n. λ i. not (no_verdict set none key n i == no_verdict set none key (n + half_len) i))))

-- ---- both halves

-- the first answer of none and another is the other
first_of_second : {X : Type 0} (o : Option X) → first_of (None ∷ o ∷ []) ≡ o
first_of_second None = refl
first_of_second (Some x) = refl

-- what is told of the second half is told of the sets if the first half has no difference
pub told_second : (one two : RuleSetView) (result : Result Compared CompareFault)
    → None ≡ difference_from one two (half_len * 0)
    → IfOk result (λ compared. told_difference compared ≡ difference_from one two (half_len * 1))
    → IfOk result (λ compared. told_difference compared ≡ difference one two)
unfolding difference
told_second one two (Err fault) none told = tt
told_second one two (Ok compared) none told =
    told ∙ sym (ap (λ o. first_of (o ∷ difference_from one two 8 ∷ [])) (sym none)
    ∙ first_of_second (difference_from one two 8))

-- the difference of the first half, if it has one, is that of the sets
pub told_first : (one two : RuleSetView) (at : Difference) → Some at ≡ difference_from one two (half_len * 0)
    → Some at ≡ difference one two
unfolding difference
told_first one two at is = ap (λ o. first_of (o ∷ difference_from one two 8 ∷ [])) is

-- no difference is told exactly if the sets are alike
pub same_told : (one two : RuleSetView) (result : Result Compared CompareFault)
    → IfOk result (λ compared. told_difference compared ≡ difference one two)
    → IfOk result (λ compared. told_difference compared ≡ None ↔ AreAlike one two)
same_told one two (Err fault) told = tt
same_told one two (Ok compared) told =
    let law = differences_tell.none one two in
    (λ none. law.0 (sym told ∙ none), λ alike. told ∙ law.1 alike)

-- if a difference is told, the sets are unlike there
pub differ_told : (one two : RuleSetView) (result : Result Compared CompareFault)
    → IfOk result (λ compared. told_difference compared ≡ difference one two)
    → IfOk result (λ compared. IfSome (told_difference compared) (AreUnlikeAt one two))
differ_told one two (Err fault) told = tt
differ_told one two (Ok compared) told = by (told_difference compared) told
  where
    by : (o : Option Difference) → o ≡ difference one two → IfSome o (AreUnlikeAt one two)
    by None is = tt
    by (Some at) is = differences_tell.some one two at (sym is)
