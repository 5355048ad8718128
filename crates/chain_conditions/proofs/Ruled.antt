-- The winner of each category is the first entry that takes part there.
use Rattle.std.proofs.Common.{◌≡◌, ℕ, ◌+◌, ◌-◌, ◌≤◌, List, [], ◌∷◌, ◌++◌, filter, Bool, true, false, ◌&&◌}
use Rattle.std.proofs.Common.{Option, Some, None, refl, ap, ◌∙◌, inl, inr, arith, pos, eqb, nat_lt}
use Rattle.std.specs.List.{find, list_all, position_from, slice_get}
use Rattle.std.specs.Option.{MatchOption}
use Rattle.std.specs.Int.{bit_at}
use Rattle.std.specs.Int.Signed.{le_z}
use Rattle.std.proofs.lemmas.Bool.{cases_Bool, and_from, and_parts, le-leb}
use Rattle.list_lemmas.proofs.First.{position_of_found}
use Rattle.list_lemmas.proofs.Integers.{le_z_refl}
use Rattle.field_defs.specs.declared.field.FieldDef.{FieldDef}
use Rattle.field_defs.specs.declared.field.FieldValue.{FieldValue}
use Rattle.rule_set.specs.Rule.{RuleView}
use Rattle.rule_set.specs.Winner.{rule_match, applies, is_greatest, userdata_at, verdict}
use Rattle.list_chains.specs.declared.span.Span.{Span}
use Rattle.list_chains.specs.Spans.{in_box}
use Rattle.list_chains.specs.Chains.{answer_or}
use Rattle.list_chains.specs.Flat.{Entry, first_answer}
use Rattle.list_chains.specs.Ranked.{every_category, answered, expanded}
use Rattle.list_chains.specs.Values.{box_rows}
use Rattle.list_chains.proofs.Offered.{expanded_is}
use Rattle.chain_conditions.specs.Conditions.{Conditional, is_none, takes_part, category}
use Rattle.chain_conditions.specs.Laws.{category_answer}
use Rattle.chain_conditions.specs.Ruled.{mask_of, masked_rule, masked, under_rows, conditional_rows}

-- an entry over rows of values
abbrev Row : Type 0
Row = Entry (Conditional (List FieldValue))

-- a rule of no greater priority
abbrev at_most : ℕ → RuleView → Bool
at_most priority rule = le_z rule.tag.priority (pos priority)

-- natural numbers as integers
pos_le : (a b : ℕ) → a ≤ b → le_z (pos a) (pos b) ≡ true
pos_le a b below = grind (arith, le-leb a b below)

-- no rule of a ranked list is above its first
ranked_below : (masks : ℕ → ℕ) (top priority : ℕ) (entries : List Row) → priority ≤ top →
    list_all (at_most top) (masked masks priority entries) ≡ true
ranked_below masks top priority [] below = refl
ranked_below masks top priority (entry ∷ entries) below =
    and_from _ _ (pos_le priority top below)
    (ranked_below masks top (priority - 1) entries (omega (arith, below)))

-- nor is one of those that pass a test
filter_below : (top : ℕ) (test : RuleView → Bool) (rules : List RuleView) → list_all (at_most top) rules ≡ true →
    list_all (at_most top) (filter test rules) ≡ true
filter_below top test [] all = refl
filter_below top test (x ∷ xs) all =
    let parts = and_parts (at_most top x) (list_all (at_most top) xs) all in
    elim (cases_Bool (test x)) [
      | inl e ↦ rw e (and_from (at_most top x) (list_all (at_most top) (filter test xs)) parts.0
          (filter_below top test xs parts.1))
      | inr e ↦ rw e (filter_below top test xs parts.1)
    ]

-- a rule that fails the test changes nothing
found_step : (test : RuleView → Bool) (x : RuleView) (xs : List RuleView) → test x ≡ false →
    find (λ rule. test rule && is_greatest (filter test xs) rule) xs ≡ find test xs →
    find (λ rule. test rule && is_greatest (filter test (x ∷ xs)) rule) (x ∷ xs) ≡ find test (x ∷ xs)
found_step test x xs e rest =
    let skip : filter test (x ∷ xs) ≡ filter test xs = rw e refl in
    let both : List RuleView → Option RuleView = λ kept. find (λ rule. test rule && is_greatest kept rule) xs in
    rw e (ap both skip ∙ rest)

-- of those that pass, the first has the greatest priority
found_first : (masks : ℕ → ℕ) (test : RuleView → Bool) (priority : ℕ) (entries : List Row) →
    find (λ rule. test rule && is_greatest (filter test (masked masks priority entries)) rule)
    (masked masks priority entries)
    ≡ find test (masked masks priority entries)
found_first masks test priority [] = refl
found_first masks test priority (entry ∷ entries) =
    let rule : RuleView = masked_rule masks priority entry in
    elim (cases_Bool (test rule)) [
      | inl e ↦ rw (
        e,
        le_z_refl (pos priority),
        filter_below priority test (masked masks (priority - 1) entries)
            (ranked_below masks priority (priority - 1) entries (omega (arith))),
      ) refl
      | inr e ↦ found_step test rule (masked masks (priority - 1) entries) e
          (found_first masks test (priority - 1) entries)
    ]

-- the userdata of a rule, if there is one
abbrev userdata_of : Option RuleView → ℕ
userdata_of None = 0
userdata_of (Some rule) = rule.tag.userdata

-- that of the first rule that passes
userdata_found : (test : RuleView → Bool) (rules : List RuleView) →
    userdata_at rules (position_from test 0 rules) ≡ userdata_of (find test rules)
userdata_found test rules = go (find test rules) (position_of_found test 0 rules)
  where
    go : (f : Option RuleView) → MatchOption f (position_from test 0 rules ≡ None)
        (λ w. (i : ℕ) × (position_from test 0 rules ≡ Some (0 + i)) × (slice_get rules i ≡ Some w)) →
        userdata_at rules (position_from test 0 rules) ≡ userdata_of f
    go None none = rw none refl
    go (Some w) found =
        let there : position_from test 0 rules ≡ Some found.0 = found.1 ∙ ap (λ i. Some i) (omega arith) in
        rw (there, found.2) refl

-- the rules of a category are those of the answers that pass a test
abbrev AreOf : (ℕ → ℕ) → ℕ → (ℕ → Bool) → Type 0
AreOf masks number test = (answer : ℕ) → eqb (bit_at (masks answer) number) 1 ≡ test answer

-- an entry's rule is in a category if it takes part there
in_part : (masks : ℕ → ℕ) (number : ℕ) (test : ℕ → Bool) → AreOf masks number test →
    bit_at every_category number ≡ 1 → (entry : Row) →
    eqb (bit_at (mask_of masks entry) number) 1 ≡ takes_part test entry
in_part masks number test are part entry = elim (cases_Bool (is_none entry.box.conditions)) [
  | inl e ↦ rw (e, part) refl
  | inr e ↦ rw e (are entry.userdata)
]

-- nothing after a test
and_true : (b : Bool) → (b && true) ≡ b
and_true true = refl
and_true false = refl

and_false : (b : Bool) → (b && false) ≡ false
and_false true = refl
and_false false = refl

module _ (layout : List FieldDef) (key : List ℕ) where
  -- the first rule that applies is of the first entry of the category that matches
  first_applies : (masks : ℕ → ℕ) (number : ℕ) (test : ℕ → Bool) → AreOf masks number test →
      bit_at every_category number ≡ 1 → (priority : ℕ) (entries : List Row) →
      userdata_of (find (applies layout key number) (masked masks priority entries))
      ≡ answer_or (first_answer (λ values. rule_match layout values key) (category test entries)) 0
  first_applies masks number test are part priority [] = refl
  first_applies masks number test are part priority (entry ∷ entries) =
      let rest = first_applies masks number test are part (priority - 1) entries in
      elim (cases_Bool (takes_part test entry)) [
        | inl t ↦ elim (cases_Bool (rule_match layout entry.box.box key)) [
          | inl m ↦ rw (in_part masks number test are part entry, t, m) refl
          | inr m ↦ rw (in_part masks number test are part entry, t, m) rest
        ]
        | inr t ↦ rw (
          in_part masks number test are part entry,
          t,
          and_false (rule_match layout entry.box.box key),
        ) rest
      ]

  -- and so the verdict is that entry's answer
  verdict_is_first : (masks : ℕ → ℕ) (number : ℕ) (test : ℕ → Bool) → AreOf masks number test →
      bit_at every_category number ≡ 1 → (priority : ℕ) (entries : List Row) →
      verdict layout (masked masks priority entries) key number
      ≡ category_answer (λ values. rule_match layout values key) test entries
  verdict_is_first masks number test are part priority entries =
      userdata_found (λ rule. applies layout key number rule
      && is_greatest (filter (applies layout key number) (masked masks priority entries)) rule)
      (masked masks priority entries)
      ∙ ap userdata_of (found_first masks (applies layout key number) priority entries)
      ∙ first_applies masks number test are part priority entries

  -- rows of one entry are in a category together
  rows_part : (test : ℕ → Bool) (entry : Entry (Conditional (List Span))) (rows : List (List FieldValue))
      (rest : List Row) → takes_part test entry ≡ true →
      category test (under_rows entry rows ++ rest) ≡ answered entry.userdata rows ++ category test rest
  rows_part test entry [] rest t = refl
  rows_part test entry (row ∷ rows) rest t =
      rw t (ap (λ xs. record { box = row; userdata = entry.userdata } ∷ xs) (rows_part test entry rows rest t))

  -- or left out together
  rows_apart : (test : ℕ → Bool) (entry : Entry (Conditional (List Span))) (rows : List (List FieldValue))
      (rest : List Row) → takes_part test entry ≡ false →
      category test (under_rows entry rows ++ rest) ≡ category test rest
  rows_apart test entry [] rest t = refl
  rows_apart test entry (row ∷ rows) rest t = rw t (rows_apart test entry rows rest t)

  -- the rows of a category are those of its boxes
  rows_of_category : (test : ℕ → Bool) (entries : List (Entry (Conditional (List Span)))) →
      category test (conditional_rows layout entries) ≡ expanded layout (category test entries)
  rows_of_category test [] = refl
  rows_of_category test (entry ∷ entries) =
      let rest = rows_of_category test entries in
      elim (cases_Bool (takes_part test entry)) [
        | inl t ↦ rows_part test entry (box_rows layout entry.box.box) (conditional_rows layout entries) t
            ∙ rw t (ap (λ xs. answered entry.userdata (box_rows layout entry.box.box) ++ xs) rest)
        | inr t ↦ rows_apart test entry (box_rows layout entry.box.box) (conditional_rows layout entries) t
            ∙ rw t rest
      ]

  -- the verdict in a category is what the list's category answers
  pub verdict_is_category : (masks : ℕ → ℕ) (number : ℕ) (test : ℕ → Bool) → AreOf masks number test →
      bit_at every_category number ≡ 1 → list_all (λ byte. nat_lt byte 256) key ≡ true → (priority : ℕ)
      (entries : List (Entry (Conditional (List Span)))) →
      verdict layout (masked masks priority (conditional_rows layout entries)) key number
      ≡ category_answer (λ box. in_box layout box key) test entries
  verdict_is_category masks number test are part bytes priority entries =
      verdict_is_first masks number test are part priority (conditional_rows layout entries)
      ∙ ap (λ xs. answer_or (first_answer (λ values. rule_match layout values key) xs) 0)
      (rows_of_category test entries)
      ∙ ap (λ answer. answer_or answer 0) (expanded_is layout key (category test entries) bytes)
