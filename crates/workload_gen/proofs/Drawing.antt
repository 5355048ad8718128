-- The rules of a seed, one more at a time.
use Rattle.std.proofs.Common.{◌≡◌, ℕ, ◌+◌, ◌*◌, [], ◌∷◌, ◌++◌, length, sym, ap, ◌∙◌, arith}
use Rattle.std.proofs.lemmas.List.FromFn.{map-range_with_len_more, length-map-range_with_len}
use Rattle.rand_pcg.specs.Lcg.{Lcg}
use Rattle.field_defs.specs.Layout.{ip4_fields}
use Rattle.rule_set.specs.Rule.{RuleView, RuleSetView}
use Rattle.workload_gen.specs.declared.rule.TheConstants.{RULE_WORDS}
use Rattle.workload_gen.specs.Draws.{after_words, seeded}
use Rattle.workload_gen.specs.Rule.{rule_of}
use Rattle.workload_gen.specs.Workload.{rule_words, rules_of}
use Rattle.workload_gen.proofs.Words.{after_both}

-- there are as many rules as were drawn
pub length-rules_of : (seed count : ℕ) → length (rules_of seed count) ≡ count
length-rules_of seed count =
    length-map-range_with_len (λ place. rule_of (place + 1) (rule_words seed place)) 0 count

-- a set of so many rules, with one more
pub rules_more : (seed place : ℕ) (set : RuleSetView) (drawn : RuleView) →
    set ≡ record { layout = ip4_fields; rules = rules_of seed place } →
    drawn ≡ rule_of (place + 1) (rule_words seed place) →
    record set { rules = set.rules ++ drawn ∷ [] }
    ≡ record { layout = ip4_fields; rules = rules_of seed (place + 1) }
rules_more seed place set drawn so_far next =
    ap (λ (s : RuleSetView). record s { rules = s.rules ++ drawn ∷ [] }) so_far
    ∙ ap (λ rule. record { layout = ip4_fields; rules = rules_of seed place ++ rule ∷ [] }) next
    ∙ ap (λ rules. record { layout = ip4_fields; rules = rules })
    (sym (map-range_with_len_more (λ p. rule_of (p + 1) (rule_words seed p)) 0 place place (omega arith)))

-- the generator after the words of one more rule
pub state_more : (seed place : ℕ) (generator : Lcg) →
    generator ≡ after_words (RULE_WORDS * place) (seeded seed) →
    after_words RULE_WORDS generator ≡ after_words (RULE_WORDS * (place + 1)) (seeded seed)
state_more seed place generator so_far =
    let same : RULE_WORDS * place + RULE_WORDS ≡ RULE_WORDS * (place + 1) = omega arith in
    ap (after_words RULE_WORDS) so_far ∙ after_both (RULE_WORDS * place) RULE_WORDS (seeded seed)
    ∙ ap (λ n. after_words n (seeded seed)) same
