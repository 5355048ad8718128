-- The rules of a half: their masks, and that they are lawful.
use Rattle.std.proofs.Common.{◌≡◌, ℕ, zero, suc, ◌+◌, ◌-◌, ◌*◌, ◌/◌, ◌%◌, ◌^◌, ◌<◌, ◌≤◌, ◌==◌, List, [], ◌∷◌, ◌++◌, length, map}
use Rattle.std.proofs.Common.{filter, cond, Bool, true, false, not, ◌&&◌, None, refl, sym, ◌∙◌, ap, inl}
use Rattle.std.proofs.Common.{inr, arith, take, get_or, length-append}
use Rattle.std.specs.Int.{bit_at}
use Rattle.std.specs.Prelude.{bit_and}
use Rattle.std.proofs.lemmas.Bool.{cases_Bool, cases_lt, eqb-true, eq-eqb}
use Rattle.std.proofs.lemmas.List.{map-append, append-nil, append_assoc, take_more, length-take-le}
use Rattle.std.proofs.lemmas.List.Elements.{filter-append}
use Rattle.std.proofs.lemmas.Nat.{and_mask, pow-add}
use Rattle.std.proofs.lemmas.Nat.Bits.{bit_at-zero, bit_at-lt, bit_at_above, bit_at_cat_low, bit_at_cat_high}
use Rattle.std.proofs.lemmas.Nat.Bits.{same_from_bits_below}
use Rattle.std.proofs.Math.Nat.{div-div-eq-div-mul}
use Rattle.list_lemmas.proofs.Sums.{bit_is, bits_small}
use Rattle.field_defs.specs.declared.field.FieldDef.{FieldDef}
use Rattle.field_defs.specs.declared.field.FieldValue.{FieldValue}
use Rattle.field_defs.specs.Lawful.{IsLayout}
use Rattle.rule_set.specs.declared.rule.RuleTag.{RuleTag}
use Rattle.rule_set.specs.Fault.{categories, rule_fault}
use Rattle.rule_set.specs.Rule.{RuleView, RuleSetView}
use Rattle.rule_set.proofs.Offered.{faultless_rules, some_category}
use Rattle.acl_audit.specs.Half.{half_len, is_in_half, mask_of, halved, halved_rules, half_of}

-- ---- masks

-- a bit of a mask without its lowest ones is a higher bit of the mask
bit_of_quotient : (m k i : ℕ) → bit_at (m / 2 ^ k) i ≡ bit_at m (k + i)
bit_of_quotient m k i =
    ap (λ n. n % 2) (div-div-eq-div-mul m (2 ^ k) (2 ^ i) ∙ ap (λ n. m / n) (sym (pow-add 2 k i)))

-- a bit of a mask's lowest eight is that of the mask
bit_of_low : (m i : ℕ) → i < 8 → bit_at (m % 256) i ≡ bit_at m i
bit_of_low m i below =
    let whole : m / 256 * 2 ^ 8 + m % 256 ≡ m = omega arith in
    sym (bit_at_cat_low (m / 256) 8 (m % 256) i below) ∙ ap (λ n. bit_at n i) whole

-- a category of the other eight isn't compared as one of the list's
other_eight : (i list : ℕ) → (i / 8 ≡ list → ⊥) → (i / 8 == list) ≡ false
other_eight i list apart = elim (cases_Bool (i / 8 == list)) [
  | inl is ↦ absurd (apart (eqb-true (i / 8) list is))
  | inr differs ↦ differs
]

-- eight bits that are moved to the categories of a list
bit_moved : (v list i : ℕ) → v < 256 → list < 2 → i < 16
    → bit_at (v * 2 ^ (half_len * list)) i ≡ cond (i / half_len == list) (bit_at v (i % half_len)) 0
bit_moved v zero i small few below =
    let e : v * 2 ^ (half_len * 0) ≡ v = omega arith in
    ap (λ n. bit_at n i) e ∙ elim (cases_lt i 8) [
      | inl low ↦
          let place : i % 8 ≡ i = omega (arith, low) in
          sym (ap (λ b. cond b (bit_at v (i % 8)) 0) (eq-eqb (i / 8) 0 (omega (arith, low))) ∙ ap (bit_at v) place)
      | inr high ↦
          bit_at_above v 8 i small (omega (arith, high))
          ∙ sym (ap (λ b. cond b (bit_at v (i % 8)) 0) (other_eight i 0 (λ e. omega (arith, e, high))))
    ]
bit_moved v (suc zero) i small few below =
    let e : v * 2 ^ (half_len * 1) ≡ v * 2 ^ 8 + 0 = omega arith in
    ap (λ n. bit_at n i) e ∙ elim (cases_lt i 8) [
      | inl low ↦
          bit_at_cat_low v 8 0 i low ∙ bit_at-zero i
          ∙ sym (ap (λ b. cond b (bit_at v (i % 8)) 0) (other_eight i 1 (λ e. omega (arith, e, low))))
      | inr high ↦
          let place : i % 8 ≡ i - 8 = omega (arith, high, below) in
          bit_at_cat_high v 8 0 i (omega arith) (omega (arith, high))
          ∙ sym (ap (λ b. cond b (bit_at v (i % 8)) 0) (eq-eqb (i / 8) 1 (omega (arith, high, below)))
          ∙ ap (bit_at v) place)
    ]
bit_moved v (suc (suc list)) i small few below = absurd (omega (arith, few))

-- a bit that counts under a test is 1 exactly if the test holds and the bit is 1
one_bit : (b : Bool) (x : ℕ) → x < 2 → cond b x 0 ≡ cond (b && x == 1) 1 0
one_bit false x small = refl
one_bit true zero small = refl
one_bit true (suc zero) small = refl
one_bit true (suc (suc x)) small = absurd (omega (arith, small))

-- eight bits at the place of their list are within sixteen
moved_small : (v list : ℕ) → v < 256 → list < 2 → v * 2 ^ (half_len * list) < 2 ^ 16
moved_small v zero small few = omega (arith, small)
moved_small v (suc zero) small few = omega (arith, small)
moved_small v (suc (suc list)) small few = absurd (omega (arith, few))

-- eight bits of a mask, moved to the categories of a list, are its mask in the half
pub half_mask_is : (tag : RuleTag) (half list : ℕ) → list < 2
    → tag.category_mask / 2 ^ (half_len * half) % 256 * 2 ^ (half_len * list) ≡ mask_of (is_in_half half list tag)
unfolding mask_of categories
half_mask_is tag half list few =
    let w : ℕ = tag.category_mask / 2 ^ (half_len * half) in
    same_from_bits_below 16 (w % 256 * 2 ^ (half_len * list)) (mask_of (is_in_half half list tag))
    (moved_small (w % 256) list (omega arith) few)
    (bits_small (is_in_half half list tag) 16)
    (λ i below. bit_moved (w % 256) list i (omega arith) few below
    ∙ ap (λ n. cond (i / half_len == list) n 0)
    (bit_of_low w (i % half_len) (omega arith) ∙ bit_of_quotient tag.category_mask (half_len * half) (i % half_len))
    ∙ one_bit (i / half_len == list) (bit_at tag.category_mask (half_len * half + i % half_len))
    (bit_at-lt tag.category_mask (half_len * half + i % half_len))
    ∙ sym (bit_is (is_in_half half list tag) 16 i below))

-- and so it is as the code works it out
pub half_mask_code : (tag : RuleTag) (half list : ℕ) → list < 2
    → bit_and (tag.category_mask / 2 ^ (half_len * half)) 255 * 2 ^ (half_len * list) % 4294967296
    ≡ mask_of (is_in_half half list tag)
half_mask_code tag half list few =
    let w : ℕ = tag.category_mask / 2 ^ (half_len * half) in
    let small = moved_small (w % 256) list (omega arith) few in
    let stays : w % 256 * 2 ^ (half_len * list) % 4294967296 ≡ w % 256 * 2 ^ (half_len * list) = omega (arith, small) in
    ap (λ n. n * 2 ^ (half_len * list) % 4294967296) (and_mask w 8) ∙ stays ∙ half_mask_is tag half list few

-- a mask of categories has sixteen bits
pub mask_small : (test : ℕ → Bool) → mask_of test < 2 ^ 16
unfolding mask_of categories
mask_small test = bits_small test 16

-- ---- lawful rules

-- with another mask a rule stays lawful, where the mask has a category
pub remasked : (layout : List FieldDef) (tag : RuleTag) (values : List FieldValue) (mask : ℕ) → IsLayout layout
    → mask < 2 ^ 16 → (mask ≡ 0 → ⊥) → rule_fault layout tag values ≡ None
    → rule_fault layout (record tag { category_mask = mask }) values ≡ None
remasked layout tag values mask lawful small some none =
    let new : RuleTag = record tag { category_mask = mask } in
    let its = (faultless_rules layout tag values lawful).0 none in
    let low : mask % 2 ^ 16 ≡ mask = omega (arith, small) in
    let left : (mask == 0) ≡ false = elim (cases_Bool (mask == 0)) [
      | inl is ↦ absurd (some (eqb-true mask 0 is))
      | inr differs ↦ differs
    ] in
    (faultless_rules layout new values lawful).1 (record {
      tag = record {
        category = sym (some_category new) ∙ ap (λ n. not (n == 0)) (and_mask mask 16 ∙ low) ∙ ap not left;
        not_below = its.tag.not_below;
        not_above = its.tag.not_above;
      };
      values = its.values;
    })

-- ---- the rules of a half, one after the other

-- a rule without a category of the half is left out
pub halved_none : (half list : ℕ) (rule : RuleView) → mask_of (is_in_half half list rule.tag) ≡ 0
    → halved_rules half list (rule ∷ []) ≡ []
unfolding halved_rules
halved_none half list rule none = ap (λ n. cond (not (n == 0)) (halved half list rule ∷ []) []) none

-- a rule with some category of the half stays with these
pub halved_one : (half list : ℕ) (rule : RuleView) → (mask_of (is_in_half half list rule.tag) ≡ 0 → ⊥)
    → halved_rules half list (rule ∷ []) ≡ halved half list rule ∷ []
unfolding halved_rules
halved_one half list rule some =
    let left : (mask_of (is_in_half half list rule.tag) == 0) ≡ false =
    elim (cases_Bool (mask_of (is_in_half half list rule.tag) == 0)) [
      | inl is ↦ absurd (some (eqb-true (mask_of (is_in_half half list rule.tag)) 0 is))
      | inr differs ↦ differs
    ] in
    ap (λ b. cond (not b) (halved half list rule ∷ []) []) left

-- the rules of two lists in a half are those of each, one after the other
pub halved-append : (half list : ℕ) (xs ys : List RuleView)
    → halved_rules half list (xs ++ ys) ≡ halved_rules half list xs ++ halved_rules half list ys
unfolding halved_rules
halved-append half list xs ys =
    ap (filter (λ (rule : RuleView). not (rule.tag.category_mask == 0))) (map-append (halved half list) xs ys)
    ∙ filter-append (λ (rule : RuleView). not (rule.tag.category_mask == 0)) (map (halved half list) xs)
    (map (halved half list) ys)

-- a list without rules has none in a half
pub halved_nil : (half list : ℕ) → halved_rules half list [] ≡ []
unfolding halved_rules
halved_nil half list = refl

-- a list has at most as many rules in a half as it has
pub halved_few : (half list : ℕ) (xs : List RuleView) → length (halved_rules half list xs) ≤ length xs
unfolding halved_rules
halved_few half list [] = omega arith
halved_few half list (x ∷ xs) =
    by (not (mask_of (is_in_half half list x.tag) == 0)) (halved_few half list xs)
  where
    by : (b : Bool)
        → length (filter (λ (rule : RuleView). not (rule.tag.category_mask == 0))
        (map (halved half list) xs)) ≤ length xs
        → length (cond b
        (halved half list x ∷ filter (λ (rule : RuleView). not (rule.tag.category_mask == 0))
        (map (halved half list) xs))
        (filter (λ (rule : RuleView). not (rule.tag.category_mask == 0)) (map (halved half list) xs)))
        ≤ suc (length xs)
    by true rest = omega (arith, rest)
    by false rest = omega (arith, rest)

-- ---- the loop over a list

-- the rules of a half so far, where so many rules of a list are taken
pub record AreHalvedUpTo (before : RuleSetView) (half list : ℕ) (rules : List RuleView) (n : ℕ) (now : RuleSetView)
    : Type 0 where
  pub layout : now.layout ≡ before.layout
  pub rules_are : now.rules ≡ before.rules ++ halved_rules half list (take n rules)

-- before the first rule of a list nothing is added
pub halved_start : (before : RuleSetView) (half list : ℕ) (rules : List RuleView)
    → AreHalvedUpTo before half list rules 0 before
halved_start before half list rules = record {
  layout = refl;
  rules_are = sym (append-nil before.rules) ∙ ap (λ l. before.rules ++ l) (sym (halved_nil half list));
}

-- one more rule of a list adds what it is in the half
pub halved_more : (before : RuleSetView) (half list : ℕ) (rules : List RuleView) (n : ℕ) (now next : RuleSetView)
    (rule : RuleView) → AreHalvedUpTo before half list rules n now → n < length rules → rule ≡ get_or rules n rule
    → next ≡ record now { rules = now.rules ++ halved_rules half list (rule ∷ []) }
    → AreHalvedUpTo before half list rules (n + 1) next
halved_more before half list rules n now next rule are below is step = record {
  layout = ap (λ (s : RuleSetView). s.layout) step ∙ are.layout;
  rules_are = ap (λ (s : RuleSetView). s.rules) step
      ∙ ap (λ l. l ++ halved_rules half list (rule ∷ [])) are.rules_are
      ∙ append_assoc before.rules (halved_rules half list (take n rules)) (halved_rules half list (rule ∷ []))
      ∙ ap (λ l. before.rules ++ l)
      (sym (halved-append half list (take n rules) (rule ∷ []))
      ∙ ap (halved_rules half list)
      (ap (λ (r : RuleView). take n rules ++ r ∷ []) is ∙ sym (take_more rules n rule below)));
}

-- before each rule of a list there is room for one more
pub halved_room : (before : RuleSetView) (half list : ℕ) (rules : List RuleView) (n most : ℕ) (now : RuleSetView)
    → AreHalvedUpTo before half list rules n now → n < length rules → length before.rules + length rules ≤ most
    → length now.rules < most
halved_room before half list rules n most now are below room =
    omega (
      arith,
      below,
      room,
      ap length are.rules_are,
      length-append before.rules (halved_rules half list (take n rules)),
      halved_few half list (take n rules),
      length-take-le n rules (omega (arith, below)),
    )

-- the rules of a half are those of both lists
pub halved_both : (one two : RuleSetView) (half : ℕ) (start first second : RuleSetView)
    → start ≡ record { layout = one.layout; rules = [] }
    → first ≡ record start { rules = start.rules ++ halved_rules half 0 one.rules }
    → second ≡ record first { rules = first.rules ++ halved_rules half 1 two.rules }
    → second ≡ half_of one two half
unfolding half_of
halved_both one two half start first second start_is first_is second_is =
    second_is
    ∙ ap (λ (s : RuleSetView). record s { rules = s.rules ++ halved_rules half 1 two.rules })
    (first_is ∙ ap (λ (s : RuleSetView). record s { rules = s.rules ++ halved_rules half 0 one.rules }) start_is)
