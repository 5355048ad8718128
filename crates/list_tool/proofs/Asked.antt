-- The text that is asked for, by the rules with lines and the rules with the answers that are asked for.
use Rattle.std.proofs.Common.{◌≡◌, List, ℕ, Result, Ok, Err, refl, sym, subst, ◌∙◌}
use Rattle.std.specs.declared.vec.Vec.{Vec}
use Rattle.std.specs.declared.alloc.Global.{Global}
use Rattle.rule_set.specs.Rule.{RuleView, RuleSetView}
use Rattle.iptables_reader.specs.declared.answers.Answers.{Answers}
use Rattle.iptables_reader.specs.declared.answers.Answers.TheVariants as answers
use Rattle.list_tool.specs.declared.status.Refusal.{Refusal}
use Rattle.list_tool.specs.declared.status.Refusal.TheVariants as refusal
use Rattle.list_tool.specs.Decides.{Listed}
use Rattle.list_tool.specs.Listing.{rules_for}
use Rattle.list_tool.specs.Premises.{premises}
use Rattle.list_tool.specs.Printed.{Refuses, text_of, text_of_rules}
use Rattle.list_tool.specs.Texts.{IsTextOf, IsTextOfRules, ListedFor}
use Rattle.list_tool.specs.Words.{Request}

-- the rules with lines are refused, and so is all
said_first : (request : Request) (bytes : List ℕ) (why : Refusal) →
    Refuses (rules_for request bytes answers.Line) why → Refuses (text_of request bytes) why
said_first request bytes (refusal.Fault fault) said = rw said refl
said_first request bytes refusal.OutOfMemory said = tt

pub refused_first : (request : Request) (bytes : List ℕ) (why : Refusal) →
    Refuses (rules_for request bytes answers.Line) why → IsTextOf request bytes (Err why)
refused_first request bytes why said = record { text = tt; decides = tt; refused = said_first request bytes why said }

module _ (request : Request) (bytes : List ℕ) (by_line : RuleSetView) (its : Answers)
    (lines : ListedFor request bytes answers.Line by_line) (asked : request.options.answers ≡ its) where
  -- the rules with the answers that are asked for are refused, and so is all
  said_second : (why : Refusal) → Refuses (rules_for request bytes its) why → Refuses (text_of request bytes) why
  said_second (refusal.Fault fault) said = rw (lines.rules) (rw asked (rw said refl))
  said_second refusal.OutOfMemory said = tt

  pub refused_second : (why : Refusal) → Refuses (rules_for request bytes its) why → IsTextOf request bytes (Err why)
  refused_second why said = record { text = tt; decides = tt; refused = said_second why said }

  -- the text is that of both
  text_by : (rules : List RuleView) → rules_for request bytes its ≡ Ok rules →
      text_of request bytes ≡ text_of_rules (premises request bytes) request.form bytes by_line.rules rules
  text_by rules are = rw (lines.rules) (rw asked (rw are refl))

  -- it is told, or refused
  pub text_ends : (set : RuleSetView) → ListedFor request bytes its set → (result : Result (Vec ℕ Global) Refusal) →
      IsTextOfRules (premises request bytes) request.form bytes by_line.rules set.rules result →
      IsTextOf request bytes result
  text_ends set listed (Ok text) it = record {
    text = text_by set.rules listed.rules ∙ it.text;
    decides = record {
      rules = set.rules;
      accepted = it.accepted;
      decides = (subst (λ a. Listed request a bytes set) (sym asked) listed.listed).rules;
    };
    refused = tt;
  }
  text_ends set listed (Err why) it = record {
    text = tt;
    decides = tt;
    refused = subst (λ said. Refuses said why) (sym (text_by set.rules listed.rules)) it.refused;
  }
