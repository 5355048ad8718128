-- What `bench` does: keys that a seed gives are classified in all categories, by the plain filter
-- over rules of the seed and by their table.
use Rattle.std.specs.Prelude.{◌≡◌, ℕ, ◌*◌, ◌<◌, ◌⊎◌, List, [], ◌∷◌, ◌++◌, length, map, flat_map, sum_by}
use Rattle.std.specs.Prelude.{codes, decimal}
use Rattle.std.specs.List.{range_with_len}
use Rattle.field_defs.specs.declared.field.Family.TheVariants.{Ip4}
use Rattle.field_defs.specs.Layout.{ip4_fields}
use Rattle.rule_set.specs.Rule.{RuleSetView}
use Rattle.rule_set.specs.Limits.{max_categories}
use Rattle.rule_set.specs.Winner.{verdict}
use Rattle.rule_split.specs.Split.{total_of}
use Rattle.flat_table.specs.Table.{TableView, words_of}
use Rattle.flat_table.specs.Walk.{key_transitions, most_of_key}
use Rattle.acl_context.specs.Context.{built_of}
use Rattle.workload_gen.specs.Workload.{keys_of, workload_of}
use Rattle.acl_report.specs.Line.{line_feed}
use Rattle.bench_command.specs.declared.lines.Measured.{Measured}
use Rattle.command_ending.specs.declared.status.Status.{Status}
use Rattle.command_ending.specs.declared.status.Status.TheVariants.{OutOfMemory, TooLarge}
use Rattle.bench_command.specs.declared.tally.Tally.{Tally}
use Rattle.command_words.specs.BenchWords.{BenchNumbers}
use Rattle.bench_command.specs.Tally.{tally_of}

-- how many words the table may have: 128 MiB
abbrev pub bench_budget : ℕ
bench_budget = 16777216

-- the rules that are drawn, as a set
abbrev pub set_drawn : BenchNumbers → RuleSetView
set_drawn numbers =
    record { layout = ip4_fields; rules = (workload_of numbers.seed numbers.rules).rules }

-- the keys that are drawn after the rules
abbrev pub keys_drawn : BenchNumbers → List (List ℕ)
keys_drawn numbers = keys_of (workload_of numbers.seed numbers.rules).rules
    (workload_of numbers.seed numbers.rules).generator numbers.packets

-- the table of the rules
abbrev pub table_drawn : BenchNumbers → TableView
table_drawn numbers = built_of (set_drawn numbers) bench_budget

-- The table of the rules would have more words than it may, or there is no memory for it.
abbrev pub IsRefused : RuleSetView → Status → Type 0
IsRefused set status =
    ((status ≡ TooLarge Ip4 (total_of set bench_budget) bench_budget)
    × (bench_budget < total_of set bench_budget))
    ⊎ (status ≡ OutOfMemory)

-- what the rules say of a key, in so many categories from 0 on
abbrev pub verdicts_on_key : RuleSetView → ℕ → List ℕ → List ℕ
verdicts_on_key set categories key =
    map (verdict set.layout set.rules key) (range_with_len 0 categories)

-- the same of each key
abbrev pub verdicts_on_keys : RuleSetView → ℕ → List (List ℕ) → List ℕ
verdicts_on_keys set categories keys = flat_map (verdicts_on_key set categories) keys

-- how many transitions the keys take, over all tries
abbrev pub transitions_of_keys : TableView → List (List ℕ) → ℕ
transitions_of_keys table keys = sum_by (key_transitions table) keys

-- what the rules say of the keys in all 16 categories
abbrev pub tally_drawn : BenchNumbers → Tally
tally_drawn numbers =
    tally_of (verdicts_on_keys (set_drawn numbers) max_categories (keys_drawn numbers))

-- what is measured: the table says the same as the rules
abbrev pub measured_of : BenchNumbers → Measured
measured_of numbers = record {
  rules = numbers.rules;
  packets = numbers.packets;
  plain = tally_drawn numbers;
  table = tally_drawn numbers;
  tries = length (table_drawn numbers).roots;
  words = words_of (table_drawn numbers);
}

-- how many transitions the keys take
abbrev pub transitions_drawn : BenchNumbers → ℕ
transitions_drawn numbers = transitions_of_keys (table_drawn numbers) (keys_drawn numbers)

-- how many transitions the keys take at most: each one for each trie and byte
abbrev pub most_drawn : BenchNumbers → ℕ
most_drawn numbers = numbers.packets * most_of_key (table_drawn numbers)

-- a line of two numbers, each after its label
abbrev pub pair_text : List ℕ → ℕ → List ℕ → ℕ → List ℕ
pair_text first_label first second_label second =
    first_label ++ decimal first ++ second_label ++ decimal second ++ line_feed ∷ []

-- the four lines: what was drawn, what the rules say, what the table says, and the table's size
abbrev pub bench_text : Measured → List ℕ
bench_text measured =
    pair_text (codes "rules ") measured.rules (codes " packets ") measured.packets
    ++ pair_text (codes "plain hits ") measured.plain.hits (codes " sum ") measured.plain.sum
    ++ pair_text (codes "table hits ") measured.table.hits (codes " sum ") measured.table.sum
    ++ pair_text (codes "tries ") measured.tries (codes " words ") measured.words
