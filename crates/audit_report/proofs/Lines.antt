-- Lines that are put one after the other, and what the audit of a set says of its rules.
use Rattle.std.proofs.Common.{◌≡◌, ℕ, ◌+◌, ◌<◌, ◌≤◌, List, [], ◌∷◌, ◌++◌, Bool, true, false, filter, length, map}
use Rattle.std.proofs.Common.{get_or}
use Rattle.std.proofs.Common.{Option, None, refl, sym, ◌∙◌, ap, arith, append_assoc, length-append, Some}
use Rattle.std.specs.Prelude.{cond, ◌||◌}
use Rattle.std.specs.Int.{from_bool}
use Rattle.std.specs.List.{flat_map, list_any, range_with_len}
use Rattle.std.proofs.lemmas.List.Folds.{list_any-append}
use Rattle.std.proofs.lemmas.List.FromFn.{get_or-map-range_with_len, length-map-range_with_len}
use Rattle.list_lemmas.proofs.Positions.{range-push, filter-range-push}
use Rattle.rule_set.specs.Fault.{categories}
use Rattle.rule_set.specs.Rule.{RuleSetView}
use Rattle.table_sizes.specs.Sizes.{row_len}
use Rattle.acl_audit.specs.Least.{least_key, least_keys}
use Rattle.audit_report.specs.Audit.{category_text, rule_text, wins_text}
use Rattle.field_defs.specs.declared.field.Family.{Family}
use Rattle.rule_set.specs.Winner.{userdata_at}
use Rattle.list_lemmas.proofs.Ranges.{parts_more}

-- one more of those of which one may pass
pub any_more : (p : ℕ → Bool) (n : ℕ) →
    list_any p (range_with_len 0 (n + 1)) ≡ (list_any p (range_with_len 0 n) || p n)
any_more p n =
    ap (list_any p) (range-push 0 n) ∙ list_any-append p (range_with_len 0 n) ((0 + n) ∷ [])
    ∙ ap (λ k. list_any p (range_with_len 0 n) || (p k || false)) (omega arith)
    ∙ go (list_any p (range_with_len 0 n)) (p n)
  where
    go : (one two : Bool) → (one || (two || false)) ≡ (one || two)
    go true two = refl
    go false true = refl
    go false false = refl

-- a test counts at most 1
pub from_bool-le : (b : Bool) → from_bool b ≤ 1
from_bool-le true = omega arith
from_bool-le false = omega arith

-- one more of those that are counted
pub count_more : (p : ℕ → Bool) (n : ℕ) →
    length (filter p (range_with_len 0 (n + 1))) ≡ length (filter p (range_with_len 0 n)) + from_bool (p n)
count_more p n =
    ap length (filter-range-push p n)
    ∙ length-append (filter p (range_with_len 0 n)) (cond (p n) (n ∷ []) [])
    ∙ ap (λ k. length (filter p (range_with_len 0 n)) + k) (go (p n))
  where
    go : (passed : Bool) → length (cond passed (n ∷ []) []) ≡ from_bool passed
    go true = refl
    go false = refl

-- the lines of one more category
pub wins_more : (family : Family) (place userdata n : ℕ) (key : ℕ → Option (List ℕ)) (found : Option (List ℕ))
    (start so_far text : List ℕ) → so_far ≡ start ++ wins_text family place userdata n key → found ≡ key n →
    text ≡ so_far ++ category_text family place userdata n found →
    text ≡ start ++ wins_text family place userdata (n + 1) key
wins_more family place userdata n key found start so_far text before is more =
    let line : ℕ → List ℕ = λ category. category_text family place userdata category (key category) in
    more
    ∙ (λ i. before i ++ category_text family place userdata n (is i))
    ∙ append_assoc start (wins_text family place userdata n key) (line n)
    ∙ ap (λ (t : List ℕ). start ++ t) (sym (parts_more line n))

-- the lines of one more rule
pub rules_more : (family : Family) (categories n : ℕ) (set : RuleSetView) (start so_far text : List ℕ) →
    so_far ≡ start ++ flat_map (λ place. rule_text family place (userdata_at set.rules (Some place)) categories
    (least_key set place)) (range_with_len 0 n) →
    text ≡ so_far ++ rule_text family n (userdata_at set.rules (Some n)) categories (least_key set n) →
    text ≡ start ++ flat_map (λ place. rule_text family place (userdata_at set.rules (Some place)) categories
    (least_key set place)) (range_with_len 0 (n + 1))
rules_more family categories n set start so_far text before more =
    let lines : ℕ → List ℕ = λ place.
    rule_text family place (userdata_at set.rules (Some place)) categories (least_key set place) in
    more
    ∙ ap (λ (t : List ℕ). t ++ lines n) before
    ∙ append_assoc start (flat_map lines (range_with_len 0 n)) (lines n)
    ∙ ap (λ (t : List ℕ). start ++ t) (sym (parts_more lines n))

-- the audit of a set has keys for each rule
pub keys_long : (set : RuleSetView) → length (least_keys set) ≡ length set.rules
unfolding least_keys
keys_long set = length-map-range_with_len (λ rule. map (least_key set rule) categories) 0 (length set.rules)

-- the audit of a set has the least key of each rule and category
pub key_at : (set : RuleSetView) (place category : ℕ) → place < length set.rules → category < row_len →
    get_or (get_or (least_keys set) place []) category None ≡ least_key set place category
unfolding least_keys categories
key_at set place category within below =
    ap (λ (row : List (Option (List ℕ))). get_or row category None)
    (get_or-map-range_with_len (λ rule. map (least_key set rule) categories) 0 (length set.rules) place place []
    within (omega arith))
    ∙ get_or-map-range_with_len (least_key set place) 0 row_len category category None below (omega arith)
