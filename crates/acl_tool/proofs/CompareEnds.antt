-- How `compare` ends, link by link.
use Rattle.std.proofs.Common.{◌≡◌, ℕ, List, false, None, Ok, Err}
use Rattle.acl_outside.specs.Desk.{File, DeskView}
use Rattle.acl_outside.specs.Sink.{SinkView}
use Rattle.classbench_reader.specs.RuleFile.{RuleLists}
use Rattle.command_words.specs.Command.{Compare}
use Rattle.command_ending.specs.declared.status.Status.{Status}
use Rattle.command_ending.specs.declared.status.Status.TheVariants.{RulesRefused, SecondRulesRefused}
use Rattle.command_ending.specs.Plan.{◌>>=◌, Outcome, Plan}
use Rattle.command_ending.specs.Endings.{is_usage}
use Rattle.command_ending.specs.StepEffects.{Ends, Outside, PutsLast, Takes, outside}
use Rattle.command_ending.proofs.Offered.{BeginsWith-nothing, IsFaithful, faithful_unless, Ends-cut, Ends-then}
use Rattle.acl_tool.specs.RuleTables.{rules_in, rules_of_bytes}
use Rattle.acl_tool.specs.Texts.{Refuses, only_text}
use Rattle.acl_tool.specs.CompareLines.{compare_of}
use Rattle.acl_tool.specs.ComparePlan.{compare_plan}
use Rattle.acl_tool.specs.CommandEffects.{Answers}
use Rattle.acl_tool.proofs.Answering.{Answers-request}
use Rattle.acl_tool.proofs.RuleFiles.{HasRules, with_rules}
use Rattle.acl_tool.proofs.Texts.{Ends-text, Ends-refused, lawful_put, lawful_refusal, told}

-- what comes after the rules of both files
abbrev pub compare_both : ℕ → RuleLists → RuleLists → Plan Outcome
compare_both max_words one two = told (compare_of max_words one two)

-- what comes after the rules of the first file
abbrev pub compare_with : List ℕ → ℕ → RuleLists → Plan Outcome
compare_with second max_words one = rules_in SecondRulesRefused second >>= compare_both max_words one

-- what `compare` prints while it reads is the first part of what it prints in all
compare_faithful : (rules second : List ℕ) (max_words : ℕ) (files : List File) →
    IsFaithful files (compare_plan rules second max_words)
compare_faithful rules second max_words files = (
  λ bytes more. BeginsWith-nothing _,
  λ bytes. faithful_unless files (rules_of_bytes RulesRefused bytes) (compare_with second max_words) (λ one. (
    λ front more. BeginsWith-nothing _,
    λ front. faithful_unless files (rules_of_bytes SecondRulesRefused front) (compare_both max_words one)
        (λ two. faithful_unless files (compare_of max_words one two) only_text (λ text. tt)),
  )),
)

-- a request that ended so
answered : (rules second : List ℕ) (max_words : ℕ) (old new : Outside) (status : Status) →
    Ends (compare_plan rules second max_words) old new status → is_usage status ≡ false →
    Answers (Ok (Compare rules second max_words)) old new status
answered rules second max_words old new status ends lawful =
    Answers-request (Compare rules second max_words) old new status
    record {
      faithful = compare_faithful rules second max_words;
      ends = ends;
      lawful = lawful;
      opened = λ files told reported. tt;
      totals = λ reported. tt;
      image = λ done. tt;
      keeps_up = λ w. tt;
    }

-- the first rule file ends the command
pub Compare-no_rules : {X : Type 0} (rules second : List ℕ) (max_words : ℕ) (seen : X → RuleLists) (old : Outside)
    (desk : DeskView) (status : Status) → Takes (rules_in RulesRefused rules) seen old.desk desk (Err status) →
    Answers (Ok (Compare rules second max_words)) old (record old { desk = desk }) status
Compare-no_rules rules second max_words seen old desk status step =
    answered rules second max_words old (record old { desk = desk }) status
    (Ends-cut None (rules_in RulesRefused rules) seen (compare_with second max_words) old desk status step) step.lawful

module _ {X : Type 0} (rules second : List ℕ) (max_words : ℕ) (seen : X → RuleLists) (old : Outside)
    (has : HasRules rules seen old) where
  -- the first file was read, and then the command ended
  ended_after : (new : Outside) (status : Status) →
      Ends (compare_with second max_words (seen has.set)) (with_rules rules seen old has) new status →
      is_usage status ≡ false → Answers (Ok (Compare rules second max_words)) old new status
  ended_after new status rest lawful =
      answered rules second max_words old new status
      (Ends-then None (rules_in RulesRefused rules) seen (compare_with second max_words) old new has.desk has.set
      status has.step rest) lawful

  -- the second rule file ends the command
  pub Compare-no_second : (desk : DeskView) (status : Status) →
      Takes (rules_in SecondRulesRefused second) seen has.desk desk (Err status) →
      Answers (Ok (Compare rules second max_words)) old (record old { desk = desk }) status
  Compare-no_second desk status step =
      ended_after (record old { desk = desk }) status
      (Ends-cut None (rules_in SecondRulesRefused second) seen (compare_both max_words (seen has.set))
      (with_rules rules seen old has) desk status step) step.lawful

  module _ (two : X) (desk : DeskView)
      (step : Takes (rules_in SecondRulesRefused second) seen has.desk desk (Ok two)) where
    -- both files were read, and then the command ended
    ended_last : (new : Outside) (status : Status) →
        Ends (compare_both max_words (seen has.set) (seen two)) (record old { desk = desk }) new status →
        is_usage status ≡ false → Answers (Ok (Compare rules second max_words)) old new status
    ended_last new status rest lawful =
        ended_after new status
        (Ends-then None (rules_in SecondRulesRefused second) seen (compare_both max_words (seen has.set))
        (with_rules rules seen old has) new desk two status step rest) lawful

    -- the rules are refused, or there is no memory
    pub Compare-refused : (status : Status) → Refuses (compare_of max_words (seen has.set) (seen two)) status →
        Answers (Ok (Compare rules second max_words)) old (record old { desk = desk }) status
    Compare-refused status refuses =
        let view : Outside = record old { desk = desk } in
        let said = compare_of max_words (seen has.set) (seen two) in
        ended_last view status (Ends-refused said view status refuses) (lawful_refusal said status refuses)

    -- the lines were put
    pub Compare-put : (out : SinkView) (text : List ℕ) (status : Status) →
        compare_of max_words (seen has.set) (seen two) ≡ Ok text → PutsLast text old.out out status →
        Answers (Ok (Compare rules second max_words)) old (outside desk out old.steps) status
    Compare-put out text status is puts =
        ended_last (outside desk out old.steps) status
        (Ends-text (compare_of max_words (seen has.set) (seen two)) text desk old.out out old.steps status is puts)
        (lawful_put text old.out out status puts)
