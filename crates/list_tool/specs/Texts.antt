-- What the steps to the text of a rule file say of it.
use Rattle.std.specs.Prelude.{◌≡◌, ℕ, List, Result, Ok, IfOk, IfErr}
use Rattle.std.specs.declared.vec.Vec.{Vec}
use Rattle.std.specs.declared.alloc.Global.{Global}
use Rattle.rule_set.specs.Rule.{RuleView, RuleSetView}
use Rattle.classbench_reader.specs.RuleFile.{rule_file_of}
use Rattle.printed_lists.specs.Listed.{lists_of}
use Rattle.iptables_reader.specs.declared.answers.Answers.{Answers}
use Rattle.list_tool.specs.declared.status.Refusal.{Refusal}
use Rattle.list_tool.specs.Decides.{IsRuleFileOf, Listed}
use Rattle.list_tool.specs.declared.words.Form.{Form}
use Rattle.list_tool.specs.Listing.{family_of, rules_for}
use Rattle.list_tool.specs.Printed.{Refuses, text_of, text_of_rules}
use Rattle.list_tool.specs.Words.{Request}

-- A set has the rules that a request asks for, with such answers, and they decide as the list does.
pub record ListedFor (request : Request) (bytes : List ℕ) (its : Answers) (set : RuleSetView)
    : Type 0 where
  pub rules : rules_for request bytes its ≡ Ok set.rules
  pub listed : Listed request its bytes set

-- A result is the text of these rules below a head of comments, and is read as them; or it is their
-- fault, or want of memory.
pub record IsTextOfRules (head : List (List ℕ)) (form : Form) (bytes : List ℕ)
    (by_line rules : List RuleView) (result : Result (Vec ℕ Global) Refusal) : Type 0 where
  pub text : IfOk result (λ text. text_of_rules head form bytes by_line rules ≡ Ok text.items)
  pub accepted : IfOk result
      (λ text. rule_file_of text.items ≡ Ok (lists_of (family_of form) rules))
  pub refused : IfErr result (Refuses (text_of_rules head form bytes by_line rules))

-- A result is the text that is asked for, which decides as the list does; or the first thing of the
-- list that can't be said, or want of memory.
pub record IsTextOf (request : Request) (bytes : List ℕ) (result : Result (Vec ℕ Global) Refusal)
    : Type 0 where
  pub text : IfOk result (λ text. text_of request bytes ≡ Ok text.items)
  pub decides : IfOk result (λ text. IsRuleFileOf request bytes text.items)
  pub refused : IfErr result (Refuses (text_of request bytes))
