-- the first verdicts are in the tally
use Rattle.std.proofs.Common.{◌≡◌, ◌*◌, ◌^◌, ◌≤◌, take}
use Rattle.bench_command.specs.Tally.{tally_of}
use Rattle.bench_command.proofs.table.tally_of.Given as goal

abbrev pub invariant-loop-verdict : goal.invariant-loop-verdict
invariant-loop-verdict l = record {
  tally : l.tally ≡ tally_of (take l.verdict-index l.verdicts);
  hits : l.tally.hits ≤ l.verdict-index;
  sum : l.tally.sum ≤ l.verdict-index * 2 ^ 32;
}
