-- A half's verdicts are those of its two sets.
use Rattle.std.proofs.Common.{◌≡◌, ℕ, ◌+◌, ◌*◌, ◌/◌, ◌%◌, ◌<◌, ◌==◌, List, [], ◌∷◌, ◌++◌, map, filter, cond, Bool, true}
use Rattle.std.proofs.Common.{false, not, ◌&&◌, true≢false, Option, Some, None, refl, sym, ◌∙◌, ap, inl, inr, arith}
use Rattle.std.specs.Int.{bit_at}
use Rattle.std.specs.Int.Signed.{le_z}
use Rattle.std.specs.List.{find, position_from, slice_get}
use Rattle.std.specs.Option.{option_map_or, MatchOption}
use Rattle.std.proofs.lemmas.Bool.{cases_Bool, eqb-true, eq-eqb, and_parts}
use Rattle.std.proofs.lemmas.List.{append-nil}
use Rattle.std.proofs.lemmas.List.Elements.{filter-append}
use Rattle.std.proofs.lemmas.Nat.Bits.{bit_at-zero}
use Rattle.list_lemmas.proofs.First.{position_of_found}
use Rattle.list_lemmas.proofs.Sums.{bit_is}
use Rattle.field_defs.specs.declared.field.FieldDef.{FieldDef}
use Rattle.rule_set.specs.Fault.{categories}
use Rattle.rule_set.specs.Rule.{RuleView}
use Rattle.rule_set.specs.Winner.{rule_match, is_in_category, applies, is_greatest, userdata_at, verdict}
use Rattle.acl_audit.specs.Half.{half_len, is_in_half, mask_of, halved, halved_rules, half_of}
use Rattle.acl_audit.specs.Laws.{HalvesHaveTheVerdictsOfBoth}

-- ---- the verdict by the rules that apply

-- the userdata of the rule, if there is one, and else 0
abbrev userdata_or : Option RuleView → ℕ
userdata_or found = option_map_or (λ (rule : RuleView). rule.tag.userdata) found 0

-- the userdata of the first rule of greatest priority, and 0 where there is none
abbrev decided : List RuleView → ℕ
decided rules = userdata_or (find (is_greatest rules) rules)

-- the first that passes two tests is the first by the second of those that pass the first
first_of_both : (p q : RuleView → Bool) (xs : List RuleView) → find (λ x. p x && q x) xs ≡ find q (filter p xs)
first_of_both p q [] = refl
first_of_both p q (x ∷ xs) = by (p x) (first_of_both p q xs)
  where
    by : (b : Bool) → find (λ y. p y && q y) xs ≡ find q (filter p xs)
        → cond (b && q x) (Some x) (find (λ y. p y && q y) xs) ≡ find q (cond b (x ∷ filter p xs) (filter p xs))
    by true rest = ap (λ f. cond (q x) (Some x) f) rest
    by false rest = rest

-- the userdata at the position of the first rule that passes is that of the rule
userdata_of_first : (p : RuleView → Bool) (rules : List RuleView)
    → userdata_at rules (position_from p 0 rules) ≡ userdata_or (find p rules)
userdata_of_first p rules = by (find p rules) (position_of_found p 0 rules)
  where
    by : (found : Option RuleView)
        → MatchOption found (position_from p 0 rules ≡ None)
        (λ w. (i : ℕ) × (position_from p 0 rules ≡ Some (0 + i)) × (slice_get rules i ≡ Some w))
        → userdata_at rules (position_from p 0 rules) ≡ userdata_or found
    by None none = ap (userdata_at rules) none
    by (Some w) (i, is, there) =
        let e : 0 + i ≡ i = omega arith in
        ap (userdata_at rules) is ∙ ap (λ n. userdata_or (slice_get rules n)) e ∙ ap userdata_or there

-- a verdict is decided by the rules that apply to the key in the category
pub verdict_by : (layout : List FieldDef) (rules : List RuleView) (key : List ℕ) (category : ℕ)
    → verdict layout rules key category ≡ decided (filter (applies layout key category) rules)
verdict_by layout rules key category =
    let passing : List RuleView = filter (applies layout key category) rules in
    userdata_of_first (λ rule. applies layout key category rule && is_greatest passing rule) rules
    ∙ ap userdata_or (first_of_both (applies layout key category) (is_greatest passing) rules)

-- ---- rules with other masks

module _ (half list : ℕ) where
  -- a rule with the categories of the half is greatest exactly if the rule is
  none_greater : (rule : RuleView) (xs : List RuleView)
      → is_greatest (map (halved half list) xs) (halved half list rule) ≡ is_greatest xs rule
  none_greater rule [] = refl
  none_greater rule (x ∷ xs) = ap (λ b. le_z x.tag.priority rule.tag.priority && b) (none_greater rule xs)

  -- the first that passes among rules of the half has the userdata of the first that passes
  first_of_halved : (p q : RuleView → Bool) → ((x : RuleView) → p (halved half list x) ≡ q x) → (xs : List RuleView)
      → userdata_or (find p (map (halved half list) xs)) ≡ userdata_or (find q xs)
  first_of_halved p q same [] = refl
  first_of_halved p q same (x ∷ xs) =
      ap (λ b. userdata_or (cond b (Some (halved half list x)) (find p (map (halved half list) xs)))) (same x)
      ∙ by (q x) (first_of_halved p q same xs)
    where
      by : (b : Bool) → userdata_or (find p (map (halved half list) xs)) ≡ userdata_or (find q xs)
          → userdata_or (cond b (Some (halved half list x)) (find p (map (halved half list) xs)))
          ≡ userdata_or (cond b (Some x) (find q xs))
      by true rest = refl
      by false rest = rest

  -- rules with the categories of the half decide as the rules do
  decided_halved : (xs : List RuleView) → decided (map (halved half list) xs) ≡ decided xs
  decided_halved xs =
      first_of_halved (is_greatest (map (halved half list) xs)) (is_greatest xs) (λ x. none_greater x xs) xs

  -- the rules of the half that pass are those that pass, with its categories
  filter_halved : (p q : RuleView → Bool) → ((x : RuleView) → p (halved half list x) ≡ q x) → (xs : List RuleView)
      → filter p (map (halved half list) xs) ≡ map (halved half list) (filter q xs)
  filter_halved p q same [] = refl
  filter_halved p q same (x ∷ xs) =
      ap (λ b. cond b (halved half list x ∷ filter p (map (halved half list) xs))
      (filter p (map (halved half list) xs)))
      (same x)
      ∙ by (q x) (filter_halved p q same xs)
    where
      by : (b : Bool) → filter p (map (halved half list) xs) ≡ map (halved half list) (filter q xs)
          → cond b (halved half list x ∷ filter p (map (halved half list) xs)) (filter p (map (halved half list) xs))
          ≡ map (halved half list) (cond b (x ∷ filter q xs) (filter q xs))
      by true rest = ap (λ l. halved half list x ∷ l) rest
      by false rest = rest

-- rules that a test leaves out and that don't pass another
filter_of_kept : (p k : RuleView → Bool) → ((x : RuleView) → p x ≡ true → k x ≡ true) → (xs : List RuleView)
    → filter p (filter k xs) ≡ filter p xs
filter_of_kept p k keeps [] = refl
filter_of_kept p k keeps (x ∷ xs) = by (k x) refl (p x) refl (filter_of_kept p k keeps xs)
  where
    by : (c : Bool) → k x ≡ c → (b : Bool) → p x ≡ b → filter p (filter k xs) ≡ filter p xs
        → filter p (cond c (x ∷ filter k xs) (filter k xs)) ≡ cond b (x ∷ filter p xs) (filter p xs)
    by true kept b is rest =
        ap (λ v. cond v (x ∷ filter p (filter k xs)) (filter p (filter k xs))) is
        ∙ ap (λ l. cond b (x ∷ l) l) rest
    by false kept true is rest = absurd (true≢false (sym (keeps x is) ∙ kept))
    by false kept false is rest = rest

-- no rule passes a test that always fails
none_pass : (xs : List RuleView) → filter (λ x. false) xs ≡ []
none_pass [] = refl
none_pass (x ∷ xs) = none_pass xs

-- a category of a mask is one that passes the test
pub bit_of_mask : (test : ℕ → Bool) (category : ℕ) → category < 16
    → (bit_at (mask_of test) category == 1) ≡ test category
unfolding mask_of categories
bit_of_mask test category below = ap (λ n. n == 1) (bit_is test 16 category below) ∙ by (test category)
  where
    by : (b : Bool) → (cond b 1 0 == 1) ≡ b
    by true = refl
    by false = refl

-- a rule that applies somewhere has a category
mask_is_some : (layout : List FieldDef) (key : List ℕ) (category : ℕ) (x : RuleView)
    → applies layout key category x ≡ true → not (x.tag.category_mask == 0) ≡ true
mask_is_some layout key category x applied = elim (cases_Bool (x.tag.category_mask == 0)) [
  | inr some ↦ ap not some
  | inl none ↦
      let bit : (bit_at x.tag.category_mask category == 1) ≡ true =
      (and_parts (rule_match layout x.fields key) (is_in_category x.tag category) applied).1 in
      let e : bit_at x.tag.category_mask category ≡ 0 =
      ap (λ n. bit_at n category) (eqb-true x.tag.category_mask 0 none) ∙ bit_at-zero category in
      absurd (omega (arith, e, eqb-true (bit_at x.tag.category_mask category) 1 bit))
]

module _ (layout : List FieldDef) (key : List ℕ) (half list category : ℕ) (below : category < 16) where
  -- the rules of a list that apply in a category of a half
  halved_applying : (q : RuleView → Bool)
      → ((x : RuleView) → (rule_match layout x.fields key && is_in_half half list x.tag category) ≡ q x)
      → (xs : List RuleView)
      → filter (applies layout key category) (halved_rules half list xs) ≡ map (halved half list) (filter q xs)
  unfolding halved_rules
  halved_applying q same xs =
      filter_of_kept (applies layout key category) (λ rule. not (rule.tag.category_mask == 0))
      (mask_is_some layout key category) (map (halved half list) xs)
      ∙ filter_halved half list (applies layout key category) q
      (λ x. ap (λ b. rule_match layout x.fields key && b) (bit_of_mask (is_in_half half list x.tag) category below)
      ∙ same x) xs

  -- none apply in a category of the other list
  none_apply : (xs : List RuleView) → category / half_len == list ≡ false
      → filter (applies layout key category) (halved_rules half list xs) ≡ []
  none_apply xs other =
      halved_applying (λ x. false)
      (λ x. ap (λ b. rule_match layout x.fields key &&
      (b && is_in_category x.tag (half_len * half + category % half_len)))
      other ∙ never (rule_match layout x.fields key)) xs
      ∙ ap (map (halved half list)) (none_pass xs)
    where
      never : (b : Bool) → (b && false) ≡ false
      never true = refl
      never false = refl

  -- and in a category of the list those of the old category
  old_apply : (old : ℕ) → category / half_len == list ≡ true → half_len * half + category % half_len ≡ old
      → (xs : List RuleView)
      → filter (applies layout key category) (halved_rules half list xs)
      ≡ map (halved half list) (filter (applies layout key old) xs)
  old_apply old same is xs =
      halved_applying (applies layout key old)
      (λ x. (λ i. rule_match layout x.fields key && (same i && is_in_category x.tag (is i)))) xs

-- the verdicts of a half are those of its two sets
pub halves_have_verdicts : HalvesHaveTheVerdictsOfBoth
unfolding half_of
halves_have_verdicts = record {
  first = λ one two half category key below.
      (let c : ℕ = category in
      let old : ℕ = half_len * half + category in
      let here : category / half_len ≡ 0 = omega (arith, below) in
      let place : half_len * half + category % half_len ≡ half_len * half + category = omega (arith, below) in
      verdict_by one.layout (halved_rules half 0 one.rules ++ halved_rules half 1 two.rules) key category
      ∙ ap decided
      (filter-append (applies one.layout key category) (halved_rules half 0 one.rules) (halved_rules half 1 two.rules)
      ∙ (λ i. old_apply one.layout key half 0 category (omega (arith, below)) old (eq-eqb (category / half_len) 0 here)
      place one.rules i
      ++ none_apply one.layout key half 1 category (omega (arith, below)) two.rules
      (ap (λ n. n == 1) here) i)
      ∙ append-nil (map (halved half 0) (filter (applies one.layout key old) one.rules)))
      ∙ decided_halved half 0 (filter (applies one.layout key old) one.rules)
      ∙ sym (verdict_by one.layout one.rules key old));
  second = λ one two half category key layouts below.
      (let c : ℕ = half_len + category in
      let old : ℕ = half_len * half + category in
      let here : (half_len + category) / half_len ≡ 1 = omega (arith, below) in
      let place : half_len * half + (half_len + category) % half_len ≡ half_len * half + category =
      omega (arith, below) in
      verdict_by one.layout (halved_rules half 0 one.rules ++ halved_rules half 1 two.rules) key c
      ∙ ap decided
      (filter-append (applies one.layout key c) (halved_rules half 0 one.rules) (halved_rules half 1 two.rules)
      ∙ (λ i. none_apply one.layout key half 0 c (omega (arith, below)) one.rules (ap (λ n. n == 0) here) i
      ++ old_apply one.layout key half 1 c (omega (arith, below)) old (eq-eqb (c / half_len) 1 here) place
      two.rules i))
      ∙ decided_halved half 1 (filter (applies one.layout key old) two.rules)
      ∙ ap (λ layout. decided (filter (applies layout key old) two.rules)) layouts
      ∙ sym (verdict_by two.layout two.rules key old));
}
