-- the verdicts of the first categories are added
use Rattle.std.proofs.Common.{◌≡◌, ◌+◌, ◌*◌, ◌^◌, ◌≤◌}
use Rattle.bench_command.specs.Tally.{with_verdicts}
use Rattle.bench_command.specs.Bench.{verdicts_on_key}
use Rattle.bench_command.proofs.keys.add_plain.Given as goal

abbrev pub invariant-loop-category : goal.invariant-loop-category
invariant-loop-category l = record {
  tally : l.tally ≡ with_verdicts l.fn.tally (verdicts_on_key l.rules l.category l.key);
  hits : l.tally.hits ≤ l.fn.tally.hits + l.category;
  sum : l.tally.sum ≤ l.fn.tally.sum + l.category * 2 ^ 32;
}
