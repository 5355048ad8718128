-- The words after `bench`: a seed, a number of rules and a number of packets.
use Rattle.std.specs.Prelude.{ℕ, ◌+◌, ◌^◌, ◌-◌, nat_le, List, length, slice_get, Option, Some, None}
use Rattle.std.specs.Prelude.{Result, Ok, Err, if◌then◌else◌}
use Rattle.std.specs.Option.{ok_or}
use Rattle.workload_gen.specs.declared.workload.TheConstants.{MAX_WORKLOAD_RULES}
use Rattle.table_sizes.specs.Sizes.{max_keys}
use Rattle.command_words.specs.declared.usage_fault.UsageFault.{UsageFault}
use Rattle.command_words.specs.declared.usage_fault.UsageKind.TheVariants.{MissingName, UnknownOption}
use Rattle.command_words.specs.declared.usage_fault.UsageKind.TheVariants.{BadValue}
use Rattle.command_words.specs.Options.{lawful, number_in}

-- what is asked for
pub record BenchNumbers : Type 0 where
  pub seed : ℕ
  pub rules : ℕ
  pub packets : ℕ

-- the greatest seed, which has 64 bits
abbrev pub greatest_seed : ℕ
greatest_seed = 2 ^ 64 - 1

infixl 10 ◌>>=◌
-- a number, and then what comes of it, or the first fault
abbrev pub ◌>>=◌ : {A B : Type 0} → Result A UsageFault → (A → Result B UsageFault) →
    Result B UsageFault
(Ok value) >>= next = next value
(Err fault) >>= next = Err fault

-- the number that a word is, which is at most the greatest, or its fault
abbrev pub number_or_fault : ℕ → ℕ → Option (List ℕ) → Result ℕ UsageFault
number_or_fault number greatest None = Err (record { word = number; kind = MissingName })
number_or_fault number greatest (Some word) =
    ok_or (lawful (λ value. nat_le value greatest) (number_in word))
    (record { word = number; kind = BadValue })

-- the same of the word at a place after the command, which is word 1
abbrev pub number_at : List (List ℕ) → ℕ → ℕ → Result ℕ UsageFault
number_at words place greatest = number_or_fault (place + 2) greatest (slice_get words place)

-- the numbers, where no word stands after them: the command has no options
abbrev pub alone : List (List ℕ) → BenchNumbers → Result BenchNumbers UsageFault
alone words numbers =
    if nat_le (length words) 3 then Ok numbers
    else Err (record { word = 5; kind = UnknownOption })

-- the words after the command, from left to right
abbrev pub numbers_of : List (List ℕ) → Result BenchNumbers UsageFault
numbers_of words = do
  seed ← number_at words 0 greatest_seed
  rules ← number_at words 1 MAX_WORKLOAD_RULES
  packets ← number_at words 2 max_keys
  alone words (record { seed = seed; rules = rules; packets = packets })
