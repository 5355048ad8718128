-- What `build` made, by what was heard.
use Rattle.std.proofs.Common.{◌≡◌, ℕ, List, [], ◌∷◌, ◌++◌, Bool, true, false, Option, Result, Ok, Err, refl, sym}
use Rattle.std.proofs.Common.{ap, subst, ◌∙◌, append-nil}
use Rattle.std.specs.Prelude.{codes}
use Rattle.field_defs.specs.declared.field.Family.TheVariants.{Ip4, Ip6}
use Rattle.acl_outside.specs.Desk.{File}
use Rattle.acl_outside.specs.Heard.{Heard, Ended}
use Rattle.classbench_reader.specs.RuleFile.{RuleLists, rule_file_of}
use Rattle.acl_context.specs.Context.{built_of}
use Rattle.command_words.specs.declared.usage_fault.UsageFault.{UsageFault}
use Rattle.command_words.specs.Options.{Options, for_build, none_given}
use Rattle.command_words.specs.Command.{Build, asked_by, build_request, command, named_of, named_with, options_from}
use Rattle.command_ending.specs.declared.status.Status.{Status}
use Rattle.command_ending.specs.declared.status.Status.TheVariants.{Done, RulesRefused}
use Rattle.command_ending.specs.Plan.{◌>>=◌, Outcome, Plan, Give, Stop, Read, making, nothing, unless_refused}
use Rattle.command_ending.specs.Follow.{Reached, Given, Follows, IsEnough, outcome_of}
use Rattle.command_ending.specs.StepEffects.{Makes, Outside, files_of, heard_of}
use Rattle.capture_report.specs.Classifier.{Tables}
use Rattle.acl_tool.specs.FamilySet.{set_of}
use Rattle.acl_tool.specs.RuleTables.{rules_of_bytes, tables_within}
use Rattle.acl_tool.specs.Built.{tables_built}
use Rattle.acl_tool.specs.BuildPlan.{build_plan, image_bytes, pair_of}
use Rattle.acl_tool.specs.CommandEffects.{Answers}
use Rattle.acl_tool.specs.BuildMakes.{BuildMakes, MakesImage}
use Rattle.acl_tool.proofs.Answering.{no_usage}
use Rattle.acl_tool.proofs.BuildEnds.{image_by}
use Rattle.acl_tool.proofs.ReadOn.{accepted_rules, both_on, is_told, read_on, told_small, told_test, unless_on, untold_rules}
use Rattle.acl_tool.proofs.ReadOn.{done_told}
use Rattle.acl_tool.proofs.WholeRules.{whole_by}

-- what comes after the rules
abbrev after_rules : List ℕ → ℕ → RuleLists → Plan Outcome
after_rules image max_words lists = tables_within max_words lists >>= image_by image

-- what comes after the bytes of the rule file
abbrev after_bytes : List ℕ → ℕ → List ℕ → Plan Outcome
after_bytes image max_words bytes =
    unless_refused (rules_of_bytes RulesRefused bytes) >>= after_rules image max_words

-- a plan gives a value
abbrev gives : Plan Outcome → Bool
gives (Give value) = true
gives (Stop status) = false
gives (Read name shown next) = false

-- an accepted rule file whose tables fit was read to its end
whole_rules : (image : List ℕ) (max_words : ℕ) (file : Heard) (lists : RuleLists) (tables : Tables) →
    rules_of_bytes RulesRefused file.bytes ≡ Ok lists → tables_within max_words lists ≡ Give tables →
    IsEnough (after_bytes image max_words) file → file.ending ≡ Ended
whole_rules image max_words file lists tables accepted within =
    whole_by gives RulesRefused (λ fault. refl) (after_rules image max_words) file lists accepted
    (ap (λ (plan : Plan Tables). gives (plan >>= image_by image)) within)

-- What a `build` that was done heard, and what it reached.
record Imaged (rules image : List ℕ) (max_words : ℕ) (old new : List Heard) (reached : Reached Outcome) : Type 0 where
  rule_file : Heard
  lists : RuleLists
  tables : Tables
  rules_named : rule_file.name ≡ rules
  newest : new ≡ rule_file ∷ old
  whole : rule_file.ending ≡ Ended
  accepted : rule_file_of rule_file.bytes ≡ Ok lists
  ip4_is : tables.ip4 ≡ built_of (set_of Ip4 lists) max_words
  ip6_is : tables.ip6 ≡ built_of (set_of Ip6 lists) max_words
  is : reached ≡ Given (making image (image_bytes tables))

-- a `build` that was done heard a whole rule file and reached its image
build_heard : (rules image : List ℕ) (max_words : ℕ) (told : Option (List File)) (old new : List Heard)
    (reached : Reached Outcome) → Follows told (build_plan rules image max_words) old new reached →
    is_told (outcome_of reached).status ≡ true → Imaged rules image max_words old new reached
build_heard rules image max_words told old new reached follows is =
    let first = read_on is_told told_test told rules nothing (after_bytes image max_words) old new reached follows is in
    let (lists, accepted, rest) =
    unless_on is_told told (rules_of_bytes RulesRefused first.file.bytes) (after_rules image max_words)
    (first.file ∷ old) new reached first.rest is (λ status e. untold_rules (rule_file_of first.file.bytes) status e) in
    let both = both_on is_told told_small told max_words lists (image_by image) (first.file ∷ old) new reached rest
    is in
    record {
      rule_file = first.file;
      lists = lists;
      tables = both.tables;
      rules_named = first.named;
      newest = both.rest.0;
      whole = whole_rules image max_words first.file lists both.tables accepted both.within first.enough;
      accepted = accepted_rules (rule_file_of first.file.bytes) lists accepted;
      ip4_is = both.ip4_is;
      ip6_is = both.ip6_is;
      is = both.rest.1;
    }

-- tables by their families
both_are : (tables : Tables) (lists : RuleLists) (budget : ℕ) → tables.ip4 ≡ built_of (set_of Ip4 lists) budget →
    tables.ip6 ≡ built_of (set_of Ip6 lists) budget → tables ≡ tables_built lists budget
both_are tables lists budget ip4 ip6 = λ i. record { ip4 = ip4 i; ip6 = ip6 i }

-- a `build` that was done made its image
image_made : (rules image : List ℕ) (options : List (List ℕ)) (read : Options) (old new : Outside) →
    options_from for_build 4 none_given options ≡ Ok read →
    Answers (Ok (Build rules image read.max_words)) old new Done →
    MakesImage (codes "build" ∷ rules ∷ image ∷ options) old new
image_made rules image options read old new asked all =
    let ends = all.ends in
    let h = build_heard rules image read.max_words (files_of old.desk) (heard_of old.desk) (heard_of new.desk)
    ends.reached ends.follows (done_told (outcome_of ends.reached).status ends.ended) in
    let of = all.image refl h.rule_file h.lists h.newest h.accepted in
    let are = both_are h.tables h.lists read.max_words h.ip4_is h.ip6_is in
    let outcome : outcome_of ends.reached ≡ making image (image_bytes (tables_built h.lists read.max_words)) =
    ap outcome_of h.is ∙ ap (λ (t : Tables). making image (image_bytes t)) are in
    let gains = ends.text (λ w. absurd (cc)) (λ full. absurd (cc)) in
    record {
      rule_file = h.rule_file;
      image = image;
      options = options;
      read = read;
      rules = h.lists;
      bytes = image_bytes (tables_built h.lists read.max_words);
      pair = pair_of (tables_built h.lists read.max_words);
      named = ap (λ (name : List ℕ). codes "build" ∷ name ∷ image ∷ options) (sym h.rules_named);
      asked = asked;
      once = h.newest;
      whole = h.whole;
      accepted = h.accepted;
      is_image = of.image;
      ip4 = refl;
      ip6 = refl;
      ip4_serves = of.serve Ip4;
      ip6_serves = of.serve Ip6;
      made = subst (λ (o : Outcome). Makes o.made old.desk new.desk) outcome (ends.made refl);
      taken =
          gains.taken ∙ ap (λ (o : Outcome). old.out.taken ++ o.text) outcome ∙ append-nil old.out.taken;
    }

-- a `build` that was done made the image that its words name
made_after : (after : List (List ℕ)) (old new : Outside) →
    Answers (asked_by build_request (named_of for_build after)) old new Done →
    MakesImage (codes "build" ∷ after) old new
made_after [] old new answers = no_usage Done _ refl answers.usage
made_after (rules ∷ []) old new answers = no_usage Done _ refl answers.usage
made_after (rules ∷ image ∷ words) old new answers = go (options_from for_build 4 none_given words) refl answers
  where
    go : (options : Result Options UsageFault) → options_from for_build 4 none_given words ≡ options →
        Answers (asked_by build_request (named_with rules image options)) old new Done →
        MakesImage (codes "build" ∷ rules ∷ image ∷ words) old new
    go (Ok options) at all = image_made rules image words options old new at all
    go (Err usage) at all = no_usage Done usage refl all.usage

-- Wherever `build` is done, it made its image.
pub build_makes : (words : List (List ℕ)) (old new : Outside) (status : Status) →
    Answers (command words) old new status → BuildMakes words status old new
build_makes words old new status answers after is done =
    subst (λ (w : List (List ℕ)). MakesImage w old new) (sym is)
    (made_after after old new
    (subst (λ (s : Status). Answers (command (codes "build" ∷ after)) old new s) done
    (subst (λ (w : List (List ℕ)). Answers (command w) old new status) is answers)))
