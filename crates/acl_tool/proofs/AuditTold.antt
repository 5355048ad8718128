-- What `audit` told, by what was heard.
use Rattle.std.proofs.Common.{◌≡◌, ℕ, ◌+◌, ◌<◌, List, [], ◌∷◌, ◌++◌, length, Bool, true, false, Option}
use Rattle.std.proofs.Common.{Result, Ok, Err, refl, sym, ap, subst, ◌∙◌, append-nil, arith}
use Rattle.std.specs.Prelude.{codes}
use Rattle.std.proofs.lemmas.Bool.{false≢true}
use Rattle.field_defs.specs.declared.field.Family.{Family}
use Rattle.field_defs.specs.declared.field.Family.TheVariants.{Ip4, Ip6}
use Rattle.acl_outside.specs.Desk.{File}
use Rattle.acl_outside.specs.Heard.{Heard, Ended}
use Rattle.classbench_reader.specs.RuleFile.{RuleLists, rule_file_of}
use Rattle.audit_report.specs.Audit.{audit_text}
use Rattle.command_words.specs.declared.usage_fault.UsageFault.{UsageFault}
use Rattle.command_words.specs.Options.{Options, for_audit, none_given}
use Rattle.command_words.specs.Command.{asked_by, audit_request, command, single_of, single_with, options_from}
use Rattle.command_ending.specs.declared.status.Status.{Status}
use Rattle.command_ending.specs.declared.status.Status.TheVariants.{Done, RulesRefused, TooLarge}
use Rattle.command_ending.specs.Plan.{Outcome, ◌>>=◌, nothing, unless_refused}
use Rattle.command_ending.specs.Follow.{Reached, Follows, IsEnough, outcome_of}
use Rattle.command_ending.specs.Endings.{is_usage}
use Rattle.command_ending.specs.StepEffects.{Ends, Outside, files_of, heard_of}
use Rattle.acl_tool.specs.FamilySet.{set_of}
use Rattle.acl_tool.specs.RuleTables.{rules_of_bytes}
use Rattle.acl_tool.specs.Texts.{only_text}
use Rattle.acl_tool.specs.AuditMerged.{audit_of, merged_words}
use Rattle.acl_tool.specs.AuditPlan.{audit_plan}
use Rattle.acl_tool.specs.AuditTells.{AuditNeedsMore, AuditTells, HearsRules, PrintsAudit}
use Rattle.acl_tool.specs.CommandEffects.{Answers}
use Rattle.acl_tool.proofs.Answering.{no_usage}
use Rattle.acl_tool.proofs.AuditEnds.{audit_in}
use Rattle.acl_tool.proofs.GivenOptions.{SaidBy, options_said}
use Rattle.acl_tool.proofs.ReadOn.{done_told}
use Rattle.acl_tool.proofs.AuditMerged.{IsAbove, said_above, said_text}
use Rattle.acl_tool.proofs.ReadOn.{IsTest, accepted_rules, is_told, read_on, told_test, unless_on, untold_rules}
use Rattle.acl_tool.proofs.TooLarge.{budget_in, family_in, is_large, large_status, large_test, same_family, small_rules}
use Rattle.acl_tool.proofs.TooLarge.{words_in}
use Rattle.acl_tool.proofs.ClassifySized.{stops_large}
use Rattle.acl_tool.proofs.WholeRules.{stops, whole_by, whole_file}

-- The words are a name and options, and the command ended by its plan.
record Asked (words : List (List ℕ)) (old new : Outside) (status : Status) : Type 0 where
  rules : List ℕ
  options : List (List ℕ)
  read : Options
  is : words ≡ codes "audit" ∷ rules ∷ options
  said : SaidBy options read
  ends : Ends (audit_plan rules read.categories read.max_words) old new status

-- words after `audit` that were answered are a name and options
asked_after : (after : List (List ℕ)) (old new : Outside) (status : Status) → is_usage status ≡ false →
    Answers (asked_by audit_request (single_of for_audit after)) old new status →
    Asked (codes "audit" ∷ after) old new status
asked_after [] old new status lawful answers = no_usage status _ lawful answers.usage
asked_after (rules ∷ words) old new status lawful answers = go (options_from for_audit 3 none_given words) refl answers
  where
    go : (options : Result Options UsageFault) → options_from for_audit 3 none_given words ≡ options →
        Answers (asked_by audit_request (single_with rules options)) old new status →
        Asked (codes "audit" ∷ rules ∷ words) old new status
    go (Ok options) at all = record {
      rules = rules;
      options = words;
      read = options;
      is = refl;
      said = options_said for_audit 3 words options at;
      ends = all.ends;
    }
    go (Err usage) at all = no_usage status usage lawful all.usage

-- the words of an `audit` that was answered are `audit`, a name and options
asked_words : (words : List (List ℕ)) (old new : Outside) (status : Status) → Answers (command words) old new status →
    is_usage status ≡ false → (after : List (List ℕ)) → words ≡ codes "audit" ∷ after → Asked words old new status
asked_words words old new status answers lawful after is =
    subst (λ (w : List (List ℕ)). Asked w old new status) (sym is)
    (asked_after after old new status lawful
    (subst (λ (w : List (List ℕ)). Answers (command w) old new status) is answers))

-- What an `audit` heard of its rule file, which is accepted, and the rest of its plan.
record Read (rules : List ℕ) (categories max_words : ℕ) (told : Option (List File)) (old new : List Heard)
    (reached : Reached Outcome) : Type 0 where
  file : Heard
  lists : RuleLists
  named : file.name ≡ rules
  said : rules_of_bytes RulesRefused file.bytes ≡ Ok lists
  accepted : rule_file_of file.bytes ≡ Ok lists
  enough : IsEnough (λ bytes. unless_refused (rules_of_bytes RulesRefused bytes) >>= audit_in categories max_words) file
  rest : Follows told (audit_in categories max_words lists) (file ∷ old) new reached

-- the rule file was read, where one that is refused would end the command otherwise
read_rules : (test : Status → Bool) → IsTest test →
    ((file : Heard) (status : Status) → rules_of_bytes RulesRefused file.bytes ≡ Err status → test status ≡ false) →
    (rules : List ℕ) (categories max_words : ℕ) (told : Option (List File)) (old new : List Heard)
    (reached : Reached Outcome) → Follows told (audit_plan rules categories max_words) old new reached →
    test (outcome_of reached).status ≡ true → Read rules categories max_words told old new reached
read_rules test is_test faulty rules categories max_words told old new reached follows is =
    let first = read_on test is_test told rules nothing
    (λ bytes. unless_refused (rules_of_bytes RulesRefused bytes) >>= audit_in categories max_words) old new reached
    follows is in
    let (lists, said, rest) =
    unless_on test told (rules_of_bytes RulesRefused first.file.bytes) (audit_in categories max_words)
    (first.file ∷ old) new reached first.rest is (faulty first.file) in
    record {
      file = first.file;
      lists = lists;
      named = first.named;
      said = said;
      accepted = accepted_rules (rule_file_of first.file.bytes) lists said;
      enough = first.enough;
      rest = rest;
    }

-- what is heard of the rules, by the words
hears : (words : List (List ℕ)) (rules : List ℕ) (options : List (List ℕ)) (categories max_words : ℕ)
    (old new : Outside) (reached : Reached Outcome) → words ≡ codes "audit" ∷ rules ∷ options →
    (r : Read rules categories max_words (files_of old.desk) (heard_of old.desk) (heard_of new.desk) reached) →
    heard_of new.desk ≡ r.file ∷ heard_of old.desk → r.file.ending ≡ Ended → HearsRules words old new
hears words rules options categories max_words old new reached is r newest whole = record {
  rule_file = r.file;
  options = options;
  rules = r.lists;
  named = is ∙ ap (λ (name : List ℕ). codes "audit" ∷ name ∷ options) (sym r.named);
  once = newest;
  whole = whole;
  accepted = r.accepted;
}

-- a text that was said goes on, and a refusal isn't told
audit_goes_on : (categories max_words : ℕ) (lists : RuleLists) (text : List ℕ) →
    audit_of categories max_words lists ≡ Ok text → stops (audit_in categories max_words lists) ≡ false
audit_goes_on categories max_words lists text said = rw said refl

-- an audit that is refused comes without a report
untold_audit : (categories max_words : ℕ) (lists : RuleLists) (status : Status) →
    audit_of categories max_words lists ≡ Err status → is_told status ≡ false
untold_audit categories max_words lists status is = ap is_told (said_above categories max_words lists status is).says

-- Where `audit` is done, its lines were taken.
prints : (words : List (List ℕ)) (old new : Outside) → Asked words old new Done → PrintsAudit words old new
unfolding hears read_rules
prints words old new asked =
    let ends = asked.ends in
    let categories = asked.read.categories in
    let max_words = asked.read.max_words in
    let passed = done_told (outcome_of ends.reached).status ends.ended in
    let r = read_rules is_told told_test
    (λ file status e. untold_rules (rule_file_of file.bytes) status e) asked.rules categories max_words
    (files_of old.desk) (heard_of old.desk) (heard_of new.desk) ends.reached ends.follows passed in
    let (text, said, last) =
    unless_on is_told (files_of old.desk) (audit_of categories max_words r.lists) only_text (r.file ∷ heard_of old.desk)
    (heard_of new.desk) ends.reached r.rest passed (λ status e. untold_audit categories max_words r.lists status e) in
    let gains = ends.text (λ e. absurd (cc)) (λ e. absurd (cc)) in
    let lines = audit_text categories (set_of Ip4 r.lists) (set_of Ip6 r.lists) in
    let steps : new.steps ≡ old.steps + 0 =
    ends.steps refl ∙ ap (λ (r : Reached Outcome). old.steps + (outcome_of r).transitions) (last.1) in
    record {
      heard = hears words asked.rules asked.options categories max_words old new ends.reached asked.is r (last.0)
          (whole_file RulesRefused (audit_in categories max_words) r.file r.lists r.said
          (audit_goes_on categories max_words r.lists text said) r.enough);
      taken =
          gains.taken
          ∙ ap (λ (r : Reached Outcome). old.out.taken ++ (outcome_of r).text) (last.1)
          ∙ ap (λ (t : List ℕ). old.out.taken ++ t) (sym (said_text categories max_words r.lists text said))
          ∙ ap (λ (n : ℕ). old.out.taken ++ audit_text n (set_of Ip4 r.lists) (set_of Ip6 r.lists))
          asked.said.categories;
      steps = steps ∙ omega arith;
    }

-- a refusal for rules that are too large stops the plan
audit_stops : (categories max_words : ℕ) (lists : RuleLists) (status : Status) →
    audit_of categories max_words lists ≡ Err status → is_large status ≡ true →
    stops_large (audit_in categories max_words lists) ≡ true
audit_stops categories max_words lists status said large = rw said large

-- What an `audit` said of rules that are too large.
record Large (categories max_words : ℕ) (lists : RuleLists) (file : Heard) (old new : List Heard)
    (reached : Reached Outcome) (status : Status) : Type 0 where
  is : IsAbove max_words lists status
  stops : stops_large (audit_in categories max_words lists) ≡ true
  newest : new ≡ file ∷ old
  silent : (outcome_of reached).text ≡ []

-- an audit that ends with rules that are too large says so, and prints nothing
large_rules : (categories max_words : ℕ) (lists : RuleLists) (told : Option (List File)) (file : Heard)
    (old new : List Heard) (reached : Reached Outcome) (status : Status) → status ≡ (outcome_of reached).status →
    is_large status ≡ true → Follows told (audit_in categories max_words lists) (file ∷ old) new reached →
    Large categories max_words lists file old new reached status
large_rules categories max_words lists told file old new reached status is large follows =
    go (audit_of categories max_words lists) refl follows
  where
    go : (said : Result (List ℕ) Status) → audit_of categories max_words lists ≡ said →
        Follows told (unless_refused said >>= only_text) (file ∷ old) new reached →
        Large categories max_words lists file old new reached status
    go (Ok text) at rest =
        absurd (false≢true (sym (ap is_large (is ∙ ap (λ (r : Reached Outcome). (outcome_of r).status) (rest.1)))
        ∙ large))
    go (Err refusal) at rest =
        let same : refusal ≡ status =
        sym (is ∙ ap (λ (r : Reached Outcome). (outcome_of r).status) (rest.1)) in
        record {
          is = said_above categories max_words lists status (at ∙ ap Err same);
          stops = audit_stops categories max_words lists status (at ∙ ap Err same) large;
          newest = rest.0;
          silent = ap (λ (r : Reached Outcome). (outcome_of r).text) (rest.1);
        }

-- Where its rules are too large, nothing was taken.
needs_more : (words : List (List ℕ)) (old new : Outside) (family : Family) (size budget : ℕ) →
    Asked words old new (TooLarge family size budget) → AuditNeedsMore words family size budget old new
unfolding hears read_rules
needs_more words old new family size budget asked =
    let ends = asked.ends in
    let categories = asked.read.categories in
    let max_words = asked.read.max_words in
    let same = large_status family size budget (outcome_of ends.reached).status ends.ended in
    let r = read_rules is_large large_test
    (λ file status e. small_rules (rule_file_of file.bytes) status e) asked.rules categories max_words
    (files_of old.desk) (heard_of old.desk) (heard_of new.desk) ends.reached ends.follows (sym (ap is_large same)) in
    let l = large_rules categories max_words r.lists (files_of old.desk) r.file (heard_of old.desk) (heard_of new.desk)
    ends.reached (TooLarge family size budget) same refl r.rest in
    let its : l.is.family ≡ family = same_family l.is.family family (sym (ap family_in l.is.says)) in
    let most : budget ≡ max_words = ap budget_in l.is.says in
    let gains = ends.text (λ e. absurd (cc)) (λ e. absurd (cc)) in
    record {
      heard = hears words asked.rules asked.options categories max_words old new ends.reached asked.is r l.newest
          (whole_by stops_large RulesRefused (λ fault. refl) (audit_in categories max_words) r.file r.lists r.said
          l.stops r.enough);
      given = most ∙ asked.said.max_words;
      some = subst (λ (f : Family). 0 < length (set_of f r.lists).rules) its l.is.some;
      above = subst (λ (n : ℕ). n < merged_words (set_of family r.lists)) (sym most)
          (subst (λ (f : Family). max_words < merged_words (set_of f r.lists)) its l.is.above);
      told = ap words_in l.is.says ∙ ap (λ (n : ℕ). n + 1) (sym most);
      taken = gains.taken ∙ ap (λ (t : List ℕ). old.out.taken ++ t) l.silent ∙ append-nil old.out.taken;
    }

-- an `audit` that is done, or whose rules are too large, told so
pub audit_tells : (words : List (List ℕ)) (old new : Outside) (status : Status) →
    Answers (command words) old new status → AuditTells words status old new
audit_tells words old new status answers = record {
  prints = λ after is done.
      prints words old new
      (asked_words words old new Done (subst (λ (s : Status). Answers (command words) old new s) done answers) refl
      after is);
  needs_more = λ after family size budget is large.
      needs_more words old new family size budget
      (asked_words words old new (TooLarge family size budget)
      (subst (λ (s : Status). Answers (command words) old new s) large answers) refl after is);
}
