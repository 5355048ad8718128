-- Examples of `bench`: its words, its tallies and its lines, each checked by evaluation.
use Rattle.std.specs.Prelude.{◌≡◌, [], ◌∷◌, ◌++◌, Ok, Err, codes, refl}
use Rattle.std.specs.Fmt.{digits}
use Rattle.command_words.specs.declared.usage_fault.UsageKind.TheVariants.{MissingName, UnknownOption}
use Rattle.command_words.specs.declared.usage_fault.UsageKind.TheVariants.{BadValue}
use Rattle.command_words.specs.BenchWords.{numbers_of}
use Rattle.command_words.specs.Command.{Bench, command, fault_at}
use Rattle.bench_command.specs.Tally.{tally_of}
use Rattle.bench_command.specs.Bench.{bench_text}

three_numbers : numbers_of (codes "042" ∷ codes "1024" ∷ codes "65536" ∷ [])
    ≡ Ok (record { seed = 42; rules = 1024; packets = 65536 })
three_numbers = refl

no_seed : numbers_of [] ≡ Err (record { word = 2; kind = MissingName })
no_seed = refl

-- the first fault from the left is told, also where words are missing after it
a_seed_of_letters : numbers_of (codes "x" ∷ []) ≡ Err (record { word = 2; kind = BadValue })
a_seed_of_letters = refl

a_seed_of_65_bits : numbers_of (codes "18446744073709551616" ∷ codes "1" ∷ codes "1" ∷ [])
    ≡ Err (record { word = 2; kind = BadValue })
a_seed_of_65_bits = refl

no_packets : numbers_of (codes "42" ∷ codes "64" ∷ [])
    ≡ Err (record { word = 4; kind = MissingName })
no_packets = refl

too_many_rules : numbers_of (codes "1" ∷ codes "1025" ∷ codes "0" ∷ [])
    ≡ Err (record { word = 3; kind = BadValue })
too_many_rules = refl

too_many_packets : numbers_of (codes "1" ∷ codes "1" ∷ codes "65537" ∷ [])
    ≡ Err (record { word = 4; kind = BadValue })
too_many_packets = refl

an_option : numbers_of (codes "1" ∷ codes "1" ∷ codes "1" ∷ codes "stats=on" ∷ [])
    ≡ Err (record { word = 5; kind = UnknownOption })
an_option = refl

-- two of three verdicts are those of a rule
three_verdicts : tally_of (1 ∷ 0 ∷ 7 ∷ []) ≡ record { hits = 2; sum = 8 }
three_verdicts = refl

four_lines : bench_text (record {
  rules = 1;
  packets = 20;
  plain = record { hits = 300; sum = 4000 };
  table = record { hits = 5; sum = 60 };
  tries = 7;
  words = 80;
})
    ≡ codes "rules 1 packets 20" ++ 10
    ∷ codes "plain hits 300 sum 4000" ++ 10
    ∷ codes "table hits 5 sum 60" ++ 10
    ∷ codes "tries 7 words 80" ++ 10 ∷ []
unfolding digits
four_lines = refl

-- the command with its numbers, and with a fault of theirs
a_command : command (codes "bench" ∷ codes "1" ∷ codes "0" ∷ codes "3" ∷ [])
    ≡ Ok (Bench (record { seed = 1; rules = 0; packets = 3 }))
a_command = refl

a_fault : command (codes "bench" ∷ codes "x" ∷ []) ≡ Err (fault_at 2 BadValue)
a_fault = refl
