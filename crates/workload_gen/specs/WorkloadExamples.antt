-- Examples of workloads, each checked by evaluation.
use Rattle.std.specs.Prelude.{◌≡◌, [], ◌∷◌, refl}
use Rattle.rand_pcg.specs.Lcg.{state_after}
use Rattle.workload_gen.specs.Rule.{rule_of}
use Rattle.workload_gen.specs.Workload.{keys_of, rules_of, workload_of}

-- the rule of six words that PCG's C library prints for this seed
first_of_42 : rules_of 42 1
    ≡ rule_of 1 (0xa15c02b7 ∷ 0x7b47f409 ∷ 0xba1d3330 ∷ 0x83d2f293 ∷ 0xbfa4784b ∷ 0xcbed606e ∷ [])
    ∷ []
unfolding state_after
first_of_42 = refl

no_rules : rules_of 42 0 ≡ []
no_rules = refl

-- without rules the keys begin at the first word: 0xa15c02b7, 0x7b47f409, 0xba1d3330 and 0x83d2f293
first_key : keys_of [] (workload_of 42 0).generator 1
    ≡ (0xa1 ∷ 10 ∷ 0x47 ∷ 0xf4 ∷ 9 ∷ 10 ∷ 0x1d ∷ 0x33 ∷ 0x30 ∷ 0x83 ∷ 0xd2 ∷ 0xf2 ∷ 0x93 ∷ []) ∷ []
unfolding state_after
first_key = refl
