-- What `bench` does.
use Rattle.std.specs.Prelude.{nat_le, if◌then◌else◌}
use Rattle.field_defs.specs.declared.field.Family.TheVariants.{Ip4}
use Rattle.rule_split.specs.Split.{total_of}
use Rattle.command_ending.specs.declared.status.Status.TheVariants.{Done, TooLarge}
use Rattle.command_words.specs.BenchWords.{BenchNumbers}
use Rattle.bench_command.specs.Bench.{bench_budget, bench_text, measured_of, set_drawn}
use Rattle.bench_command.specs.Bench.{transitions_drawn}
use Rattle.command_ending.specs.Plan.{Outcome, Plan, Give, Stop, printed}

-- the four lines are printed, where the table isn't too large
abbrev pub bench_plan : BenchNumbers → Plan Outcome
bench_plan numbers =
    if nat_le (total_of (set_drawn numbers) bench_budget) bench_budget
    then Give (printed Done (bench_text (measured_of numbers)) (transitions_drawn numbers))
    else Stop (TooLarge Ip4 (total_of (set_drawn numbers) bench_budget) bench_budget)
