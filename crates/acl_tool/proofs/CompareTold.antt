-- What `compare` told, by what was heard.
use Rattle.std.proofs.Common.{◌≡◌, ℕ, ◌+◌, List, [], ◌∷◌, ◌++◌, true, false}
use Rattle.std.proofs.Common.{Result, Ok, Err, refl, sym, ap, subst, ◌∙◌, arith}
use Rattle.std.specs.Prelude.{codes}
use Rattle.std.proofs.lemmas.Bool.{false≢true}
use Rattle.classbench_reader.specs.declared.rules_fault.LineFault.{LineFault}
use Rattle.classbench_reader.specs.RuleFile.{RuleLists, rule_file_of}
use Rattle.command_words.specs.declared.usage_fault.UsageFault.{UsageFault}
use Rattle.command_words.specs.Options.{Options, for_compare, none_given}
use Rattle.command_words.specs.Command.{asked_by, command, compare_request, named_of, named_with, options_from}
use Rattle.command_ending.specs.declared.status.Status.{Status}
use Rattle.command_ending.specs.declared.status.Status.TheVariants.{Done, RulesRefused, SecondRulesRefused, TooLarge}
use Rattle.command_ending.specs.declared.status.Status.TheVariants.{TooManyTogether}
use Rattle.command_ending.specs.Plan.{Outcome, ◌>>=◌, nothing, unless_refused}
use Rattle.command_ending.specs.Follow.{Reached, outcome_of}
use Rattle.command_ending.specs.StepEffects.{Ends, Outside, files_of, heard_of}
use Rattle.acl_tool.specs.RuleTables.{refused_rules, rules_of_bytes}
use Rattle.acl_tool.specs.Texts.{is_refusal, only_text}
use Rattle.acl_tool.specs.CompareLines.{compare_of}
use Rattle.acl_tool.specs.ComparePlan.{compare_plan}
use Rattle.acl_tool.specs.CompareTells.{CompareTells, PrintsComparison}
use Rattle.acl_tool.specs.CommandEffects.{Answers}
use Rattle.acl_tool.proofs.Answering.{no_usage}
use Rattle.acl_tool.proofs.CompareEnds.{compare_both, compare_with}
use Rattle.acl_tool.proofs.ReadOn.{done_told}
use Rattle.acl_tool.proofs.CompareLines.{said_lines, said_refusal}
use Rattle.acl_tool.proofs.ReadOn.{is_told, read_on, told_test, unless_on, untold_rules}
use Rattle.acl_tool.proofs.WholeRules.{accepted_by, stops, whole_file}

-- The words are two names and options, and the command ended by its plan.
record Asked (words : List (List ℕ)) (old new : Outside) : Type 0 where
  rules : List ℕ
  second : List ℕ
  options : List (List ℕ)
  max_words : ℕ
  is : words ≡ codes "compare" ∷ rules ∷ second ∷ options
  ends : Ends (compare_plan rules second max_words) old new Done

-- words after a `compare` that was done are two names and options
asked_after : (after : List (List ℕ)) (old new : Outside) →
    Answers (asked_by compare_request (named_of for_compare after)) old new Done →
    Asked (codes "compare" ∷ after) old new
asked_after [] old new answers = no_usage Done _ refl answers.usage
asked_after (rules ∷ []) old new answers = no_usage Done _ refl answers.usage
asked_after (rules ∷ second ∷ words) old new answers = go (options_from for_compare 4 none_given words) answers
  where
    go : (options : Result Options UsageFault) →
        Answers (asked_by compare_request (named_with rules second options)) old new Done →
        Asked (codes "compare" ∷ rules ∷ second ∷ words) old new
    go (Ok options) all = record {
      rules = rules;
      second = second;
      options = words;
      max_words = options.max_words;
      is = refl;
      ends = all.ends;
    }
    go (Err usage) all = no_usage Done usage refl all.usage

-- a second file that is refused comes without a report
untold_second : (result : Result RuleLists LineFault) (status : Status) →
    refused_rules SecondRulesRefused result ≡ Err status → is_told status ≡ false
untold_second (Ok all) status is = absurd (cc)
untold_second (Err fault) status is = let same : SecondRulesRefused fault ≡ status = cc in rw (← same) refl

-- rules that are refused come without a report
untold_refusal : (status : Status) → is_refusal status ≡ true → is_told status ≡ false
untold_refusal (TooLarge family words budget) is = refl
untold_refusal TooManyTogether is = refl
untold_refusal status is = absurd (false≢true is)

-- both lists go on to a text that is said
compare_goes_on : (max_words : ℕ) (one two : RuleLists) (text : List ℕ) → compare_of max_words one two ≡ Ok text →
    stops (compare_both max_words one two) ≡ false
compare_goes_on max_words one two text said = rw said refl

-- Where `compare` is done, its lines were taken.
prints : (words : List (List ℕ)) (old new : Outside) → Asked words old new → PrintsComparison words old new
prints words old new asked =
    let ends = asked.ends in
    let max_words = asked.max_words in
    let told = files_of old.desk in
    let before = heard_of old.desk in
    let after = heard_of new.desk in
    let passed = done_told (outcome_of ends.reached).status ends.ended in
    let first = read_on is_told told_test told asked.rules nothing
    (λ bytes. unless_refused (rules_of_bytes RulesRefused bytes) >>= compare_with asked.second max_words) before after
    ends.reached ends.follows passed in
    let (one, said_one, rest) =
    unless_on is_told told (rules_of_bytes RulesRefused first.file.bytes) (compare_with asked.second max_words)
    (first.file ∷ before) after ends.reached first.rest passed
    (λ status e. untold_rules (rule_file_of first.file.bytes) status e) in
    let second = read_on is_told told_test told asked.second nothing
    (λ bytes. unless_refused (rules_of_bytes SecondRulesRefused bytes) >>= compare_both max_words one)
    (first.file ∷ before) after ends.reached rest passed in
    let (two, said_two, more) =
    unless_on is_told told (rules_of_bytes SecondRulesRefused second.file.bytes) (compare_both max_words one)
    (second.file ∷ first.file ∷ before) after ends.reached second.rest passed
    (λ status e. untold_second (rule_file_of second.file.bytes) status e) in
    let (text, said, last) =
    unless_on is_told told (compare_of max_words one two) only_text (second.file ∷ first.file ∷ before) after
    ends.reached more passed (λ status e. untold_refusal status (said_refusal max_words one two status e)) in
    let gains = ends.text (λ e. absurd (cc)) (λ e. absurd (cc)) in
    let steps : new.steps ≡ old.steps + 0 =
    ends.steps refl ∙ ap (λ (r : Reached Outcome). old.steps + (outcome_of r).transitions) (last.1) in
    record {
      first = first.file;
      second = second.file;
      options = asked.options;
      one = one;
      two = two;
      named =
          asked.is
          ∙ ap (λ (name : List ℕ). codes "compare" ∷ name ∷ asked.second ∷ asked.options) (sym first.named)
          ∙ ap (λ (name : List ℕ). codes "compare" ∷ first.file.name ∷ name ∷ asked.options) (sym second.named);
      once = last.0;
      first_whole = whole_file RulesRefused (compare_with asked.second max_words) first.file one said_one refl
          first.enough;
      second_whole = whole_file SecondRulesRefused (compare_both max_words one) second.file two said_two
          (compare_goes_on max_words one two text said) second.enough;
      first_accepted = accepted_by RulesRefused (rule_file_of first.file.bytes) one said_one;
      second_accepted = accepted_by SecondRulesRefused (rule_file_of second.file.bytes) two said_two;
      taken =
          gains.taken
          ∙ ap (λ (r : Reached Outcome). old.out.taken ++ (outcome_of r).text) (last.1)
          ∙ ap (λ (t : List ℕ). old.out.taken ++ t) (sym (said_lines max_words one two text said));
      steps = steps ∙ omega arith;
    }

-- a `compare` that is done printed what the lists of its words differ in
pub compare_tells : (words : List (List ℕ)) (old new : Outside) (status : Status) →
    Answers (command words) old new status → CompareTells words status old new
compare_tells words old new status answers after is done =
    subst (λ (w : List (List ℕ)). PrintsComparison w old new) (sym is)
    (prints (codes "compare" ∷ after) old new (asked_after after old new
    (subst (λ (s : Status). Answers (command (codes "compare" ∷ after)) old new s) done
    (subst (λ (w : List (List ℕ)). Answers (command w) old new status) is answers))))
