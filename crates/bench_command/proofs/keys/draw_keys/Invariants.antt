-- so many keys have been drawn, and the rules have answered for each
use Rattle.std.proofs.Common.{◌≡◌, ◌*◌, ◌^◌, ◌≤◌}
use Rattle.std.specs.List.{concat}
use Rattle.field_defs.specs.Layout.{ip4_fields}
use Rattle.workload_gen.specs.declared.packet.TheConstants.{KEY_WORDS}
use Rattle.workload_gen.specs.Draws.{after_words}
use Rattle.workload_gen.specs.Workload.{keys_of}
use Rattle.bench_command.specs.Tally.{tally_of}
use Rattle.bench_command.specs.Bench.{verdicts_on_keys}
use Rattle.bench_command.proofs.keys.draw_keys.Given as goal

abbrev pub invariant-loop : goal.invariant-loop
invariant-loop l =
    let rules = l.fn.workload.rules in
    let generator = l.fn.workload.generator in record {
      workload : l.workload ≡ record { rules = rules; generator = after_words (KEY_WORDS * l.counter) generator };
      keys : l.keys.items ≡ concat (keys_of rules generator l.counter);
      plain : l.plain ≡ tally_of (verdicts_on_keys (record { layout = ip4_fields; rules = rules }) l.cats.count
          (keys_of rules generator l.counter));
      hits : l.plain.hits ≤ l.counter * 16;
      sum : l.plain.sum ≤ l.counter * 16 * 2 ^ 32;
    }
