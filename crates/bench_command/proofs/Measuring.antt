-- What is measured of a workload: the table says of the keys what the rules say.
use Rattle.std.proofs.Common.{◌≡◌, ℕ, ◌+◌, ◌*◌, ◌/◌, ◌<◌, ◌≤◌, List, length, ap, sym, subst, ◌∙◌, arith}
use Rattle.std.specs.List.{concat}
use Rattle.std.proofs.Math.Nat.{mul-div_cancel}
use Rattle.std.proofs.lemmas.List.FromFn.{length-map-range_with_len}
use Rattle.std.specs.Prelude.{slice_index_or, All}
use Rattle.std.proofs.lemmas.List.Sums.{sum_by-le}
use Rattle.flat_table.specs.Batch.{batch_transitions}
use Rattle.flat_table.specs.Walk.{key_transitions, most_of_key}
use Rattle.flat_table.proofs.Offered.{key_bound}
use Rattle.table_fill.specs.Serves.{Serves}
use Rattle.acl_context.specs.Batch.{verdicts_by_rules}
use Rattle.workload_gen.specs.declared.packet.TheConstants.{KEY_LEN}
use Rattle.workload_gen.specs.Rule.{rule_of}
use Rattle.workload_gen.specs.Workload.{rule_words, workload_of}
use Rattle.command_words.specs.BenchWords.{BenchNumbers}
use Rattle.bench_command.specs.declared.lines.Measured.{Measured}
use Rattle.bench_command.specs.declared.tally.Tally.{Tally}
use Rattle.flat_table.specs.Table.{words_of}
use Rattle.bench_command.specs.Bench.{keys_drawn, measured_of, set_drawn, transitions_drawn, table_drawn, tally_drawn}
use Rattle.bench_command.specs.Bench.{most_drawn}
use Rattle.bench_command.specs.Bench.{verdicts_on_keys}
use Rattle.bench_command.proofs.Drawing.{keys_are_whole, length-keys}
use Rattle.bench_command.proofs.KeyBytes.{AreOf, length-bytes, transitions_are, verdicts_are}

-- there are as many rules as were asked for
pub length-rules : (numbers : BenchNumbers) → length (set_drawn numbers).rules ≡ numbers.rules
length-rules numbers =
    length-map-range_with_len (λ place. rule_of (place + 1) (rule_words numbers.seed place)) 0 numbers.rules

-- each key of a workload has as many bytes as a key has
whole : (numbers : BenchNumbers) → AreOf KEY_LEN (keys_drawn numbers)
whole numbers =
    let drawn = workload_of numbers.seed numbers.rules in
    keys_are_whole drawn.rules drawn.generator numbers.packets

-- the bytes of the keys
pub length-drawn : (numbers : BenchNumbers) → length (concat (keys_drawn numbers)) ≡ numbers.packets * KEY_LEN
length-drawn numbers =
    let drawn = workload_of numbers.seed numbers.rules in
    length-bytes KEY_LEN (keys_drawn numbers) (whole numbers)
    ∙ ap (λ n. n * KEY_LEN) (length-keys drawn.rules drawn.generator numbers.packets)

-- what the rules say of the bytes
pub verdicts-drawn : (numbers : BenchNumbers) (count : ℕ) →
    verdicts_by_rules (set_drawn numbers) count (concat (keys_drawn numbers))
    ≡ verdicts_on_keys (set_drawn numbers) count (keys_drawn numbers)
verdicts-drawn numbers count =
    verdicts_are (set_drawn numbers) count (keys_drawn numbers) (omega arith) (whole numbers)

-- how many transitions the bytes take
pub transitions-drawn : (numbers : BenchNumbers) → Serves (set_drawn numbers) (table_drawn numbers) →
    batch_transitions (table_drawn numbers) (concat (keys_drawn numbers)) ≡ transitions_drawn numbers
transitions-drawn numbers serves =
    let len : (table_drawn numbers).key_len ≡ KEY_LEN = serves.key_len in
    transitions_are (table_drawn numbers) (keys_drawn numbers) (omega (arith, len))
    (subst (λ n. AreOf n (keys_drawn numbers)) (sym len) (whole numbers))

-- they are at most one for each key, trie and byte
pub transitions-bound : (numbers : BenchNumbers) → transitions_drawn numbers ≤ most_drawn numbers
transitions-bound numbers =
    let table = table_drawn numbers in
    let drawn = workload_of numbers.seed numbers.rules in
    let each : All (λ key. key_transitions table key ≤ most_of_key table) (keys_drawn numbers) =
    λ k d below. key_bound table (slice_index_or (keys_drawn numbers) k d) in
    omega (
      arith,
      sum_by-le (key_transitions table) (most_of_key table) (keys_drawn numbers) each,
      ap (λ n. n * most_of_key table) (length-keys drawn.rules drawn.generator numbers.packets),
    )

-- bytes of whole keys
pub whole_bytes : (bytes : List ℕ) (count : ℕ) → length bytes ≡ count * KEY_LEN →
    length bytes ≡ length bytes / KEY_LEN * KEY_LEN
whole_bytes bytes count is =
    let some : 0 < KEY_LEN = omega arith in
    is ∙ ap (λ n. n * KEY_LEN) (sym (ap (λ n. n / KEY_LEN) is ∙ mul-div_cancel count some))

-- the bytes of so many keys are at most the greatest number of keys
pub few_bytes : (bytes : List ℕ) (count most : ℕ) → length bytes ≡ count * KEY_LEN → count ≤ most →
    length bytes / KEY_LEN ≤ most
few_bytes bytes count most is few =
    let some : 0 < KEY_LEN = omega arith in
    subst (λ n. n ≤ most) (sym (ap (λ n. n / KEY_LEN) is ∙ mul-div_cancel count some)) few

-- what was measured, part by part
pub measured-is : (numbers : BenchNumbers) (plain table : Tally) (tries words : ℕ) → plain ≡ tally_drawn numbers →
    table ≡ tally_drawn numbers → tries ≡ length (table_drawn numbers).roots →
    words ≡ words_of (table_drawn numbers) →
    record {
      rules = numbers.rules;
      packets = numbers.packets;
      plain = plain;
      table = table;
      tries = tries;
      words = words;
    } ≡ measured_of numbers
measured-is numbers plain table tries words is_plain is_table is_tries is_words =
    let with : Tally → Tally → ℕ → ℕ → Measured = λ p t n w. record {
      rules = numbers.rules;
      packets = numbers.packets;
      plain = p;
      table = t;
      tries = n;
      words = w;
    } in
    ap (λ p. with p table tries words) is_plain
    ∙ ap (λ t. with (tally_drawn numbers) t tries words) is_table
    ∙ ap (λ n. with (tally_drawn numbers) (tally_drawn numbers) n words) is_tries
    ∙ ap (λ w. with (tally_drawn numbers) (tally_drawn numbers) (length (table_drawn numbers).roots) w) is_words
