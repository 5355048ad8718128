-- What a rule file says of the list that it was made of.
use Rattle.std.specs.Prelude.{◌≡◌, ℕ, ◌<◌, true, List, length, nat_lt, Ok}
use Rattle.std.specs.List.{list_all}
use Rattle.field_defs.specs.declared.field.FieldDef.{FieldDef}
use Rattle.rule_set.specs.Limits.{max_categories}
use Rattle.rule_set.specs.Rule.{RuleView, RuleSetView}
use Rattle.rule_set.specs.Winner.{verdict}
use Rattle.classbench_reader.specs.RuleFile.{rule_file_of}
use Rattle.printed_lists.specs.Listed.{lists_of}
use Rattle.list_chains.specs.Chains.{decides}
use Rattle.list_chains.specs.Spans.{in_box}
use Rattle.list_chains.specs.Tasks.{Chains}
use Rattle.iptables_reader.specs.declared.answers.Answers.{Answers}
use Rattle.list_tool.specs.declared.listing.Start.{Start}
use Rattle.list_tool.specs.Listing.{WayView, family_of, layout_of, way_of}
use Rattle.list_tool.specs.Words.{Request}

-- Of a list of rules the winner of each key has the answer of a chain as its userdata, in each
-- category: that of the rule that decides by the meaning of chains, or of the policy.
abbrev pub Decide : List FieldDef → Chains → Start → List RuleView → Type 0
Decide layout chains start rules =
    (key : List ℕ) (category : ℕ) → list_all (λ byte. nat_lt byte 256) key ≡ true →
    category < max_categories →
    verdict layout rules key category
    ≡ decides (λ box. in_box layout box key) (length chains) chains start.place start.policy

-- All lines of a list were read, and these rules decide as the chain or the list of the name does.
pub record DecidesAs (request : Request) (its : Answers) (bytes : List ℕ) (rules : List RuleView)
    : Type 0 where
  -- each line was read as what it says, or it has no part; packets come to a chain of a policy
  pub way : WayView
  pub read : way_of request its bytes ≡ Ok way
  pub decide : Decide (layout_of request.form) way.chains way.start rules

-- The rules of a set do, and the set is for packets of the family.
pub record Listed (request : Request) (its : Answers) (bytes : List ℕ) (set : RuleSetView)
    : Type 0 where
  pub layout : set.layout ≡ layout_of request.form
  pub rules : DecidesAs request its bytes set.rules

-- A text is, as `aclc` reads it, a rule file of rules of the form's family that decide as the chain
-- of the list does: by the line that decides, or by its verdict, as is asked.
pub record IsRuleFileOf (request : Request) (bytes text : List ℕ) : Type 0 where
  pub rules : List RuleView
  pub accepted : rule_file_of text ≡ Ok (lists_of (family_of request.form) rules)
  pub decides : DecidesAs request request.options.answers bytes rules
