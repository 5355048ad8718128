-- How `bench` ends, which asks for no file.
use Rattle.std.proofs.Common.{◌≡◌, ℕ, ◌+◌, ◌≤◌, List, Bool, true, false, None, Ok, inl, inr, refl, sym, subst, ap}
use Rattle.std.proofs.Common.{nat_le}
use Rattle.std.specs.Prelude.{if◌then◌else◌}
use Rattle.std.proofs.lemmas.Bool.{le-leb, lt-leb}
use Rattle.field_defs.specs.declared.field.Family.TheVariants.{Ip4}
use Rattle.acl_outside.specs.Desk.{DeskView, File}
use Rattle.acl_outside.specs.Sink.{SinkView}
use Rattle.rule_split.specs.Split.{total_of}
use Rattle.command_ending.specs.declared.status.Status.{Status}
use Rattle.command_ending.specs.declared.status.Status.TheVariants.{Done, TooLarge}
use Rattle.command_words.specs.BenchWords.{BenchNumbers}
use Rattle.command_words.specs.Command.{Bench}
use Rattle.bench_command.specs.Bench.{IsRefused, bench_budget, bench_text, measured_of, set_drawn, transitions_drawn}
use Rattle.command_ending.specs.Plan.{Outcome, Give, Stop, printed}
use Rattle.command_ending.specs.Endings.{is_decided, is_reported, is_usage}
use Rattle.command_ending.specs.StepEffects.{PutsLast, Outside, outside, Ends}
use Rattle.command_ending.proofs.Offered.{IsFaithful, Ends-stopped, Ends-full, Ends-put}
use Rattle.acl_tool.specs.BenchPlan.{bench_plan}
use Rattle.acl_tool.specs.CommandEffects.{Answers}
use Rattle.acl_tool.proofs.Answering.{Answers-request}

-- all of the text, where the table isn't too large
abbrev pub all_lines : BenchNumbers → Outcome
all_lines numbers = printed Done (bench_text (measured_of numbers)) (transitions_drawn numbers)

-- nothing is printed while files are read, since none is
bench_faithful : (files : List File) (numbers : BenchNumbers) → IsFaithful files (bench_plan numbers)
bench_faithful files numbers = go (nat_le (total_of (set_drawn numbers) bench_budget) bench_budget)
  where
    go : (fits : Bool) → IsFaithful files (if fits then Give (all_lines numbers)
        else Stop (TooLarge Ip4 (total_of (set_drawn numbers) bench_budget) bench_budget))
    go true = tt
    go false = tt

-- the command was answered, as it ended
answered : (numbers : BenchNumbers) (old new : Outside) (status : Status) → Ends (bench_plan numbers) old new status →
    is_usage status ≡ false → Answers (Ok (Bench numbers)) old new status
answered numbers old new status ends lawful =
    Answers-request (Bench numbers) old new status
    record {
      faithful = λ files. bench_faithful files numbers;
      ends = ends;
      lawful = lawful;
      opened = λ files told reported. tt;
      totals = λ reported. tt;
      image = λ done. tt;
      keeps_up = λ e. tt;
    }

-- all was measured, and its lines were put
pub Answers-measured : (numbers : BenchNumbers) (desk : DeskView) (out_old out_new : SinkView) (steps : ℕ)
    (status : Status) → total_of (set_drawn numbers) bench_budget ≤ bench_budget →
    PutsLast (bench_text (measured_of numbers)) out_old out_new status →
    Answers (Ok (Bench numbers)) (outside desk out_old steps)
    (outside desk out_new (steps + transitions_drawn numbers)) status
Answers-measured numbers desk out_old out_new steps status within puts =
    answered numbers (outside desk out_old steps) (outside desk out_new (steps + transitions_drawn numbers)) status
    (rw (le-leb (total_of (set_drawn numbers) bench_budget) bench_budget within)
    (Ends-put (all_lines numbers) desk out_old out_new steps status refl refl puts))
    (elim puts.puts [ inl all ↦ ap is_usage all.0 | inr part ↦ ap is_usage part.0 ])

-- nothing was measured, and nothing put
pub Answers-refused : (numbers : BenchNumbers) (view : Outside) (status : Status) →
    IsRefused (set_drawn numbers) status → Answers (Ok (Bench numbers)) view view status
Answers-refused numbers view status (inl (says, above)) =
    answered numbers view view status
    (rw (lt-leb (total_of (set_drawn numbers) bench_budget) bench_budget above)
    (subst (λ (s : Status). Ends (Stop s) view view status) says
    (Ends-stopped None status view (ap is_reported says) (ap is_decided says)))) (ap is_usage says)
Answers-refused numbers view status (inr full) =
    answered numbers view view status
    (subst (Ends (bench_plan numbers) view view) (sym full) (Ends-full None (bench_plan numbers) view))
    (ap is_usage full)
