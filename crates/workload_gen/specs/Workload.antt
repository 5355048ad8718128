-- The workload of a seed: its rules, its keys, and the generator after them.
use Rattle.std.specs.Prelude.{ℕ, ◌+◌, ◌*◌, List, map}
use Rattle.std.specs.List.{range_with_len}
use Rattle.rand_pcg.specs.Lcg.{Lcg}
use Rattle.rule_set.specs.Rule.{RuleView}
use Rattle.workload_gen.specs.declared.rule.TheConstants.{RULE_WORDS}
use Rattle.workload_gen.specs.declared.packet.TheConstants.{KEY_WORDS}
use Rattle.workload_gen.specs.Draws.{after_words, seeded, words_of}
use Rattle.workload_gen.specs.Rule.{rule_of}
use Rattle.workload_gen.specs.Packet.{key_of_words}

-- what a contract sees: the rules, and the generator from which the next key comes
pub record WorkloadView : Type 0 where
  pub rules : List RuleView
  pub generator : Lcg

-- the words of the rule at a place, from 0: each rule before it has taken six
abbrev pub rule_words : ℕ → ℕ → List ℕ
rule_words seed place = words_of RULE_WORDS (after_words (RULE_WORDS * place) (seeded seed))

-- so many rules of a seed, numbered from 1
abbrev pub rules_of : ℕ → ℕ → List RuleView
rules_of seed count =
    map (λ place. rule_of (place + 1) (rule_words seed place)) (range_with_len 0 count)

-- the key at a place, from 0, after the rules: each key before it has taken four words
abbrev pub key_at : List RuleView → Lcg → ℕ → List ℕ
key_at rules generator place =
    key_of_words rules (words_of KEY_WORDS (after_words (KEY_WORDS * place) generator))

-- so many keys over the rules, from a generator on
abbrev pub keys_of : List RuleView → Lcg → ℕ → List (List ℕ)
keys_of rules generator count = map (key_at rules generator) (range_with_len 0 count)

-- a seed's rules, before the first key
abbrev pub workload_of : ℕ → ℕ → WorkloadView
workload_of seed count = record {
  rules = rules_of seed count;
  generator = after_words (RULE_WORDS * count) (seeded seed);
}
