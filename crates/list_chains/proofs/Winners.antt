-- The winner of a list of falling priorities is the first that applies.
use Rattle.std.proofs.Common.{◌≡◌, ℕ, ◌+◌, ◌-◌, ◌≤◌, List, [], ◌∷◌, filter, Bool, true, false, ◌&&◌}
use Rattle.std.proofs.Common.{Option, Some, None, refl, ap, ◌∙◌, inl, inr, arith, pos}
use Rattle.std.specs.List.{find, list_all, position_from, slice_get}
use Rattle.std.specs.Option.{MatchOption}
use Rattle.std.specs.Int.{bit_at}
use Rattle.std.specs.Int.Signed.{le_z}
use Rattle.std.proofs.lemmas.Bool.{cases_Bool, and_from, and_parts, le-leb}
use Rattle.list_lemmas.proofs.First.{position_of_found}
use Rattle.list_lemmas.proofs.Integers.{le_z_refl}
use Rattle.field_defs.specs.declared.field.FieldDef.{FieldDef}
use Rattle.field_defs.specs.declared.field.FieldValue.{FieldValue}
use Rattle.rule_set.specs.Rule.{RuleView}
use Rattle.rule_set.specs.Winner.{rule_match, applies, is_greatest, userdata_at, verdict}
use Rattle.list_chains.specs.Chains.{answer_or}
use Rattle.list_chains.specs.Flat.{Entry, first_answer}
use Rattle.list_chains.specs.Ranked.{ranked, rule_of, every_category}

-- a rule of no greater priority
abbrev at_most : ℕ → RuleView → Bool
at_most priority rule = le_z rule.tag.priority (pos priority)

-- natural numbers as integers
pos_le : (a b : ℕ) → a ≤ b → le_z (pos a) (pos b) ≡ true
pos_le a b below = grind (arith, le-leb a b below)

-- no rule of a ranked list is above its first
ranked_below : (top priority : ℕ) (entries : List (Entry (List FieldValue))) → priority ≤ top →
    list_all (at_most top) (ranked priority entries) ≡ true
ranked_below top priority [] below = refl
ranked_below top priority (entry ∷ entries) below =
    and_from _ _ (pos_le priority top below)
    (ranked_below top (priority - 1) entries (omega (arith, below)))

-- nor is one of those that pass a test
filter_below : (top : ℕ) (test : RuleView → Bool) (rules : List RuleView) → list_all (at_most top) rules ≡ true →
    list_all (at_most top) (filter test rules) ≡ true
filter_below top test [] all = refl
filter_below top test (x ∷ xs) all =
    let parts = and_parts (at_most top x) (list_all (at_most top) xs) all in
    elim (cases_Bool (test x)) [
      | inl e ↦ rw e (and_from (at_most top x) (list_all (at_most top) (filter test xs)) parts.0
          (filter_below top test xs parts.1))
      | inr e ↦ rw e (filter_below top test xs parts.1)
    ]

-- a rule that fails the test changes nothing
found_step : (test : RuleView → Bool) (x : RuleView) (xs : List RuleView) → test x ≡ false →
    find (λ rule. test rule && is_greatest (filter test xs) rule) xs ≡ find test xs →
    find (λ rule. test rule && is_greatest (filter test (x ∷ xs)) rule) (x ∷ xs) ≡ find test (x ∷ xs)
found_step test x xs e rest =
    let skip : filter test (x ∷ xs) ≡ filter test xs = rw e refl in
    let both : List RuleView → Option RuleView = λ kept. find (λ rule. test rule && is_greatest kept rule) xs in
    rw e (ap both skip ∙ rest)

-- of those that pass, the first has the greatest priority
found_first : (test : RuleView → Bool) (priority : ℕ) (entries : List (Entry (List FieldValue))) →
    find (λ rule. test rule && is_greatest (filter test (ranked priority entries)) rule)
    (ranked priority entries)
    ≡ find test (ranked priority entries)
found_first test priority [] = refl
found_first test priority (entry ∷ entries) =
    let rule : RuleView = rule_of priority entry.userdata entry.box in
    elim (cases_Bool (test rule)) [
      | inl e ↦ rw (
        e,
        le_z_refl (pos priority),
        filter_below priority test (ranked (priority - 1) entries)
            (ranked_below priority (priority - 1) entries (omega (arith))),
      ) refl
      | inr e ↦ found_step test rule (ranked (priority - 1) entries) e
          (found_first test (priority - 1) entries)
    ]

-- the userdata of a rule, if there is one
abbrev userdata_of : Option RuleView → ℕ
userdata_of None = 0
userdata_of (Some rule) = rule.tag.userdata

-- that of the first rule that passes
userdata_found : (test : RuleView → Bool) (rules : List RuleView) →
    userdata_at rules (position_from test 0 rules) ≡ userdata_of (find test rules)
userdata_found test rules = go (find test rules) (position_of_found test 0 rules)
  where
    go : (f : Option RuleView) → MatchOption f (position_from test 0 rules ≡ None)
        (λ w. (i : ℕ) × (position_from test 0 rules ≡ Some (0 + i)) × (slice_get rules i ≡ Some w)) →
        userdata_at rules (position_from test 0 rules) ≡ userdata_of f
    go None none = rw none refl
    go (Some w) found =
        let there : position_from test 0 rules ≡ Some found.0 = found.1 ∙ ap (λ i. Some i) (omega arith) in
        rw (there, found.2) refl

-- the first rule that applies is the first entry that matches
first_applies : (layout : List FieldDef) (key : List ℕ) (category priority : ℕ)
    (entries : List (Entry (List FieldValue))) → bit_at every_category category ≡ 1 →
    userdata_of (find (applies layout key category) (ranked priority entries))
    ≡ answer_or (first_answer (λ values. rule_match layout values key) entries) 0
first_applies layout key category priority [] part = refl
first_applies layout key category priority (entry ∷ entries) part =
    elim (cases_Bool (rule_match layout entry.box key)) [
      | inl e ↦ rw (e, part) refl
      | inr e ↦ rw e (first_applies layout key category (priority - 1) entries part)
    ]

-- and so the verdict is that entry's answer
pub verdict_is_first : (layout : List FieldDef) (key : List ℕ) (category priority : ℕ)
    (entries : List (Entry (List FieldValue))) → bit_at every_category category ≡ 1 →
    verdict layout (ranked priority entries) key category
    ≡ answer_or (first_answer (λ values. rule_match layout values key) entries) 0
verdict_is_first layout key category priority entries part =
    userdata_found (λ rule. applies layout key category rule
    && is_greatest (filter (applies layout key category) (ranked priority entries)) rule)
    (ranked priority entries)
    ∙ ap userdata_of (found_first (applies layout key category) priority entries)
    ∙ first_applies layout key category priority entries part
