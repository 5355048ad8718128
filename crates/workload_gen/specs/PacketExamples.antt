-- Examples of keys of words, each checked by evaluation.
use Rattle.std.specs.Prelude.{◌≡◌, ℕ, List, [], ◌∷◌, refl}
use Rattle.rule_set.specs.Rule.{RuleView}
use Rattle.workload_gen.specs.Rule.{rule_of}
use Rattle.workload_gen.specs.Packet.{key_of_words}

-- two rules: TCP from 10.0.0.1 to 10.0.0.2, all ports; UDP from 10.0.0.3 to 10.0.0.4, port 80
rules : List RuleView
rules =
    rule_of 1 (0 ∷ 1 ∷ 2 ∷ 0 ∷ 0 ∷ 0 ∷ [])
    ∷ rule_of 2 (1 ∷ 3 ∷ 4 ∷ 0x00500002 ∷ 0 ∷ 0 ∷ []) ∷ []

-- protocol 17, from 10.0.0.5 port 256 to 10.0.0.6 port 513
drawn : List ℕ
drawn = 17 ∷ 10 ∷ 0 ∷ 0 ∷ 5 ∷ 10 ∷ 0 ∷ 0 ∷ 6 ∷ 1 ∷ 0 ∷ 2 ∷ 1 ∷ []

without_rules : key_of_words [] (0x11000003 ∷ 5 ∷ 6 ∷ 0x01000201 ∷ []) ≡ drawn
unfolding drawn
without_rules = refl

one_word_in_four : key_of_words rules (0x11000004 ∷ 5 ∷ 6 ∷ 0x01000201 ∷ []) ≡ drawn
unfolding drawn rules
one_word_in_four = refl

-- the rule at place 0
at_the_first_rule : key_of_words rules (0x11000001 ∷ 5 ∷ 6 ∷ 0x01000201 ∷ [])
    ≡ 6 ∷ 10 ∷ 0 ∷ 0 ∷ 1 ∷ 10 ∷ 0 ∷ 0 ∷ 2 ∷ 1 ∷ 0 ∷ 0 ∷ 0 ∷ []
unfolding rules
at_the_first_rule = refl

-- the rule at place 1, with port 80
at_the_second_rule : key_of_words rules (0x11000005 ∷ 5 ∷ 6 ∷ 0x01000201 ∷ [])
    ≡ 17 ∷ 10 ∷ 0 ∷ 0 ∷ 3 ∷ 10 ∷ 0 ∷ 0 ∷ 4 ∷ 1 ∷ 0 ∷ 0 ∷ 80 ∷ []
unfolding rules
at_the_second_rule = refl

-- places begin again after the last rule
around : key_of_words rules (0x11000009 ∷ 5 ∷ 6 ∷ 0x01000201 ∷ [])
    ≡ key_of_words rules (0x11000001 ∷ 5 ∷ 6 ∷ 0x01000201 ∷ [])
unfolding rules
around = refl
