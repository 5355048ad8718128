-- How many transitions `bench` took.
use Rattle.std.proofs.Common.{◌≡◌, ◌⊎◌, ℕ, ◌+◌, ◌≤◌, List, Bool, true, false, Option, Result, Ok, inl, inr, refl, subst}
use Rattle.std.proofs.Common.{ap, ◌∙◌, arith, nat_le}
use Rattle.std.specs.Prelude.{if◌then◌else◌}
use Rattle.field_defs.specs.declared.field.Family.TheVariants.{Ip4}
use Rattle.acl_outside.specs.Desk.{File}
use Rattle.acl_outside.specs.Heard.{Heard}
use Rattle.rule_split.specs.Split.{total_of}
use Rattle.command_ending.specs.declared.status.Status.{Status}
use Rattle.command_ending.specs.declared.status.Status.TheVariants.{Done, OutOfMemory, TooLarge, WriteFault}
use Rattle.command_words.specs.BenchWords.{BenchNumbers}
use Rattle.command_words.specs.declared.usage_fault.UsageFault.{UsageFault}
use Rattle.command_words.specs.Command.{Bench, Request, command}
use Rattle.bench_command.specs.Bench.{bench_budget, set_drawn, transitions_drawn, most_drawn}
use Rattle.command_ending.specs.Plan.{Outcome, Give, Stop}
use Rattle.command_ending.specs.Follow.{Reached, Follows, outcome_of}
use Rattle.command_ending.specs.StepEffects.{Outside, Ends, files_of, heard_of}
use Rattle.acl_tool.specs.BenchPlan.{bench_plan}
use Rattle.bench_command.proofs.Offered.{transitions-bound}
use Rattle.acl_tool.specs.CommandEffects.{Answers}
use Rattle.acl_tool.specs.BenchWalks.{BenchWalks}
use Rattle.acl_tool.proofs.BenchEnds.{all_lines}

-- the transitions of a `bench` that ended well
drawn_transitions : (numbers : BenchNumbers) (told : Option (List File)) (old new : List Heard)
    (reached : Reached Outcome) → Follows told (bench_plan numbers) old new reached →
    Done ≡ (outcome_of reached).status → (outcome_of reached).transitions ≡ transitions_drawn numbers
drawn_transitions numbers told old new reached follows is =
    go (nat_le (total_of (set_drawn numbers) bench_budget) bench_budget) follows
  where
    go : (fits : Bool) → Follows told (if fits then Give (all_lines numbers)
        else Stop (TooLarge Ip4 (total_of (set_drawn numbers) bench_budget) bench_budget)) old new reached →
        (outcome_of reached).transitions ≡ transitions_drawn numbers
    go true rest = ap (λ (r : Reached Outcome). (outcome_of r).transitions) (rest.1)
    go false rest = absurd (let large = is ∙ ap (λ (r : Reached Outcome). (outcome_of r).status) (rest.1) in cc)

-- a `bench` that ends with Done has that status
done_status : (status : Status) → (Done ≡ status) ⊎ ((Done ≡ WriteFault) ⊎ (Done ≡ OutOfMemory)) → Done ≡ status
done_status status (inl is) = is
done_status status (inr (inl written)) = absurd (cc)
done_status status (inr (inr full)) = absurd (cc)

-- `bench` took the transitions of the drawn keys, within their bound
bench_walked : (numbers : BenchNumbers) (old new : Outside) → Ends (bench_plan numbers) old new Done →
    (new.steps ≡ old.steps + transitions_drawn numbers) × (new.steps ≤ old.steps + most_drawn numbers)
bench_walked numbers old new ends =
    let same = drawn_transitions numbers (files_of old.desk) (heard_of old.desk) (heard_of new.desk) ends.reached
    ends.follows (done_status (outcome_of ends.reached).status ends.ended) in
    let steps : new.steps ≡ old.steps + transitions_drawn numbers =
    ends.steps refl ∙ ap (λ (n : ℕ). old.steps + n) same in
    (steps, omega (arith, steps, transitions-bound numbers))

-- a `bench` that is done took the transitions of its keys
pub bench_walks : (words : List (List ℕ)) (old new : Outside) (status : Status) →
    Answers (command words) old new status → BenchWalks words status old.steps new.steps
bench_walks words old new status answers numbers is done =
    let all : Answers (Ok (Bench numbers)) old new status =
    subst (λ (r : Result Request UsageFault). Answers r old new status) is answers in
    bench_walked numbers old new (subst (λ (s : Status). Ends (bench_plan numbers) old new s) done all.ends)
