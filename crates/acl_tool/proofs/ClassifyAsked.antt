-- What words that begin with `classify` ask for, where they are no usage fault.
use Rattle.std.proofs.Common.{◌≡◌, ℕ, List, [], ◌∷◌, true, false, None, Result, Ok, Err, refl, sym, subst}
use Rattle.std.specs.Prelude.{codes}
use Rattle.command_words.specs.declared.usage_fault.UsageFault.{UsageFault}
use Rattle.command_words.specs.Options.{Options, for_classify, none_given}
use Rattle.command_words.specs.Command.{Classify, asked_by, classify_request, command, named_of, named_with, options_from}
use Rattle.command_ending.specs.declared.status.Status.{Status}
use Rattle.command_ending.specs.Endings.{is_reported, is_usage}
use Rattle.command_ending.specs.StepEffects.{EndsMaking, Outside, heard_of}
use Rattle.acl_tool.specs.ClassifyPlan.{classify_plan}
use Rattle.acl_tool.specs.CommandEffects.{Answers}
use Rattle.acl_tool.specs.ClassifyTotals.{HasTotals}
use Rattle.acl_tool.proofs.GivenOptions.{SaidBy, options_said}
use Rattle.acl_tool.proofs.Answering.{no_usage}

-- The words are two names and options, and the command ended by its plan.
pub record Asked (words : List (List ℕ)) (old new : Outside) (status : Status) : Type 0 where
  pub rules : List ℕ
  pub capture : List ℕ
  pub options : List (List ℕ)
  pub read : Options
  pub is : words ≡ codes "classify" ∷ rules ∷ capture ∷ options
  pub said : SaidBy options read
  pub ends : EndsMaking None (classify_plan rules capture read) old new status
  pub totals : is_reported status ≡ true →
      HasTotals (Classify rules capture read) (heard_of old.desk) (heard_of new.desk)

-- words after `classify` that were answered are two names and options
asked_after : (after : List (List ℕ)) (old new : Outside) (status : Status) → is_usage status ≡ false →
    Answers (asked_by classify_request (named_of for_classify after)) old new status →
    Asked (codes "classify" ∷ after) old new status
asked_after [] old new status lawful answers = no_usage status _ lawful answers.usage
asked_after (rules ∷ []) old new status lawful answers = no_usage status _ lawful answers.usage
asked_after (rules ∷ capture ∷ words) old new status lawful answers =
    go (options_from for_classify 4 none_given words) refl answers
  where
    go : (options : Result Options UsageFault) → options_from for_classify 4 none_given words ≡ options →
        Answers (asked_by classify_request (named_with rules capture options)) old new status →
        Asked (codes "classify" ∷ rules ∷ capture ∷ words) old new status
    go (Ok options) at all = record {
      rules = rules;
      capture = capture;
      options = words;
      read = options;
      is = refl;
      said = options_said for_classify 4 words options at;
      ends = all.ends;
      totals = all.totals;
    }
    go (Err usage) at all = no_usage status usage lawful all.usage

-- the words of a `classify` that was answered are `classify`, two names and options
pub asked_words : (words : List (List ℕ)) (old new : Outside) (status : Status) →
    Answers (command words) old new status → is_usage status ≡ false → (after : List (List ℕ)) →
    words ≡ codes "classify" ∷ after → Asked words old new status
asked_words words old new status answers lawful after is =
    subst (λ (w : List (List ℕ)). Asked w old new status) (sym is)
    (asked_after after old new status lawful
    (subst (λ (w : List (List ℕ)). Answers (command w) old new status) is answers))
