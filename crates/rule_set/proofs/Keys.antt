-- Numbers of the rules are below one another exactly where the rules come below one another.
use Rattle.std.proofs.Common.{◌≡◌, ℕ, ◌+◌, ◌-◌, ◌*◌, ◌<◌, ◌≤◌, ◌&&◌, ◌||◌, List, [], ◌∷◌, ◌++◌, length, get_or}
use Rattle.std.proofs.Common.{map, not, nat_lt, pos, sym, ap, ◌∙◌, arith, zero-add, unsigned_abs}
use Rattle.std.specs.Prelude.{All}
use Rattle.std.specs.List.{range_with_len}
use Rattle.std.specs.Option.{option_map_or}
use Rattle.std.specs.Int.Signed.{le_z}
use Rattle.std.proofs.lemmas.Bool.Decides.{nat_tests}
use Rattle.std.proofs.lemmas.List.{map-append, length-map}
use Rattle.std.proofs.lemmas.Simd.{map-map}
use Rattle.std.proofs.lemmas.List.FromFn.{length-range_with_len, get_or-map-range_with_len}
use Rattle.std.proofs.lemmas.Option.{slice_get-get_or}
use Rattle.table_sizes.specs.Sizes.{max_rules}
use Rattle.rule_set.specs.Rule.{RuleView, RuleSetView}
use Rattle.rule_set.specs.RuleSet.{IsRuleSet}
use Rattle.rule_set.specs.Among.{priority_at}
use Rattle.rule_set.specs.Rank.{comes_below, rank_of, ranks_of}
use Rattle.rule_set.specs.Keys.{order_key, place_of, keys_of, rank_among, TellPlaces, HasLawfulPriority}
use Rattle.rule_set.proofs.Lawful.{tag_lawful}
use Rattle.list_lemmas.proofs.Integers.{natural_from_le_z}
use Rattle.list_lemmas.proofs.Maps.{map_on_range}
use Rattle.list_lemmas.proofs.Counts.{count_agree}
use Rattle.list_lemmas.proofs.Positions.{range-push}

-- the priority of a rule that is there
priority_of : (rules : List RuleView) (place : ℕ) (d : RuleView) → place < length rules →
    priority_at rules place ≡ (get_or rules place d).tag.priority
priority_of rules place d below =
    ap (λ found. option_map_or (λ (rule : RuleView). rule.tag.priority) found (pos 0))
    (slice_get-get_or rules place d below)

-- one more key
pub keys_more : (rules : List RuleView) (keys : List ℕ) (place : ℕ) (d : RuleView) → place < length rules →
    keys ≡ map (λ p. order_key (priority_at rules p) p) (range_with_len 0 place) →
    keys ++ order_key (get_or rules place d).tag.priority place ∷ []
    ≡ map (λ p. order_key (priority_at rules p) p) (range_with_len 0 (place + 1))
keys_more rules keys place d below so_far =
    let key : ℕ → ℕ = λ p. order_key (priority_at rules p) p in
    let last : key place ≡ order_key (get_or rules place d).tag.priority place =
    ap (λ priority. order_key priority place) (priority_of rules place d below) in
    let more : range_with_len 0 (place + 1) ≡ range_with_len 0 place ++ place ∷ [] =
    range-push 0 place
    ∙ ap (λ end. range_with_len 0 place ++ end ∷ []) (zero-add place) in
    ap (λ all. all ++ order_key (get_or rules place d).tag.priority place ∷ []) so_far
    ∙ ap (λ end. map key (range_with_len 0 place) ++ end ∷ []) (sym last)
    ∙ sym (ap (map key) more ∙ map-append key (range_with_len 0 place) (place ∷ []))

-- keys compare as priorities and then as places
keys_compare : (a b p q : ℕ) → p < max_rules → q < max_rules →
    nat_lt (b * max_rules + (max_rules - 1 - q)) (a * max_rules + (max_rules - 1 - p))
    ≡ (le_z (pos b) (pos a) && (not (le_z (pos a) (pos b)) || nat_lt p q))
keys_compare a b p q p_below q_below = grind (arith, nat_tests)

-- one rule's number is below another's exactly if the rule comes below the other
key_below : (rules : List RuleView) (place other : ℕ) → length rules ≤ max_rules → All HasLawfulPriority rules →
    place < length rules → other < length rules →
    nat_lt (order_key (priority_at rules other) other) (order_key (priority_at rules place) place)
    ≡ comes_below rules place other
key_below rules place other few lawful here there =
    let d : RuleView = record { tag = record { category_mask = 0; priority = pos 0; userdata = 0 }; fields = [] } in
    let one = natural_from_le_z _ (lawful place d here).not_below in
    let two = natural_from_le_z _ (lawful other d there).not_below in
    rw (priority_of rules place d here ∙ one.1, priority_of rules other d there ∙ two.1)
    (keys_compare one.0 two.0 place other (omega arith) (omega arith))

-- ranks among the keys are the ranks
pub ranks_from_keys : (rules : List RuleView) → length rules ≤ max_rules → All HasLawfulPriority rules →
    map (rank_among (keys_of rules)) (keys_of rules) ≡ ranks_of rules
unfolding keys_of ranks_of
ranks_from_keys rules few lawful =
    let n : ℕ = length rules in
    let key : ℕ → ℕ = λ p. order_key (priority_at rules p) p in
    map-map (rank_among (map key (range_with_len 0 n))) key (range_with_len 0 n)
    ∙ map_on_range (λ p. rank_among (map key (range_with_len 0 n)) (key p)) (rank_of rules) 0 n
    (λ place above below. ap (λ count. 1 + count)
    (count_agree (λ other. nat_lt other (key place)) key (comes_below rules place) 0 n
    (λ other above' below'. key_below rules place other few lawful (omega arith) (omega arith))))

-- the rules of a set have lawful priorities
pub lawful_priorities : (set : RuleSetView) → IsRuleSet set → All HasLawfulPriority set.rules
lawful_priorities set held place d below =
    let rule : RuleView = get_or set.rules place d in
    let lawful = tag_lawful set.layout rule.tag rule.fields (held.lawful place d below) in
    record { not_below = lawful.not_below; not_above = lawful.not_above }

-- there is a key for each rule
pub length-keys_of : (rules : List RuleView) → length (keys_of rules) ≡ length rules
unfolding keys_of
length-keys_of rules =
    length-map (range_with_len 0 (length rules)) (λ p. order_key (priority_at rules p) p)
    ∙ length-range_with_len 0 (length rules)

-- the number of a priority and a place tells the place
place_of_key : (priority place : ℕ) → place < max_rules →
    place_of (priority * max_rules + (max_rules - 1 - place)) ≡ place
place_of_key priority place within = omega arith

-- and each key tells the place of its rule
pub keys_tell_places : (rules : List RuleView) → length rules ≤ max_rules → TellPlaces (keys_of rules)
unfolding keys_of
keys_tell_places rules few place d within =
    let n : ℕ = length rules in
    let key : ℕ → ℕ = λ p. order_key (priority_at rules p) p in
    let inside : place < n = omega (arith, within, length-keys_of rules) in
    ap place_of (get_or-map-range_with_len key 0 n place place d inside (omega arith))
    ∙ place_of_key (unsigned_abs (priority_at rules place)) place (omega (arith, few, inside))
