-- Examples of rules in categories, each checked by evaluation, over one field of two bytes.
--
--     1 -A INPUT -p tcp --dport 10:19 -m limit --limit 3/min -j ACCEPT     condition 1
--     2 -A INPUT -p tcp --dport 10:19 -m set --match-set a src -j DROP     condition 2
--     3 -A INPUT -p tcp --dport 10:29 -j ACCEPT
--     4 -A INPUT -p tcp --dport 12:15 -j DROP
--     5 -P INPUT DROP
use Rattle.std.specs.Prelude.{◌≡◌, ℕ, pos, List, [], ◌∷◌, None, Ok, Err, refl}
use Rattle.field_defs.specs.declared.field.FieldDef.{FieldDef}
use Rattle.field_defs.specs.declared.field.FieldKind.TheVariants as kinds_of
use Rattle.field_defs.specs.declared.field.FieldValue.TheVariants.{Range}
use Rattle.rule_set.specs.Rule.{RuleView}
use Rattle.list_chains.specs.declared.chain.Target.TheVariants.{Decide}
use Rattle.list_chains.specs.declared.fault.LimitFault.TheVariants.{TooManyRules, TooManySteps}
use Rattle.list_chains.specs.declared.span.Span.{Span}
use Rattle.list_chains.specs.Chains.{ListRule}
use Rattle.list_chains.specs.Made.{Making, first_tasks}
use Rattle.list_chains.specs.Spans.{whole_box}
use Rattle.chain_conditions.specs.declared.kind.AnswerKind.{AnswerKind}
use Rattle.chain_conditions.specs.declared.kind.AnswerKind.TheVariants.{Refuses, Accepts, Elsewhere}
use Rattle.chain_conditions.specs.Conditions.{Conditional}
use Rattle.chain_conditions.specs.Kinds.{kind_of, masks_of}
use Rattle.chain_conditions.specs.Laws.{ConditionalChains}
use Rattle.chain_conditions.specs.Marked.{mark_def, marked_chains}
use Rattle.chain_conditions.specs.Made.{made}
use Rattle.chain_conditions.specs.Turned.{turned_under}

-- a port
ports : List FieldDef
ports =
    record { kind = kinds_of.Range; size = 2; field_index = 0; input_index = 0; offset = 0 } ∷ []

-- a rule for some ports
abbrev rule : ℕ → ℕ → ℕ → List ℕ → ListRule (Conditional (List Span))
rule userdata low high conditions = record {
  userdata = userdata;
  inside = record { box = record { low = low; high = high } ∷ []; conditions = conditions };
  but = [];
  target = Decide;
}

firewall : ConditionalChains (List Span)
firewall =
    (rule 1 10 19 (1 ∷ [])
    ∷ rule 2 10 19 (2 ∷ [])
    ∷ rule 3 10 29 []
    ∷ rule 4 12 15 []
    ∷ [])
    ∷ []

-- the kinds of the answers 0 to 5
kinds : List AnswerKind
kinds = Refuses ∷ Accepts ∷ Refuses ∷ Accepts ∷ Refuses ∷ Refuses ∷ []

-- past the end an answer ends elsewhere
past_the_end : kind_of kinds 6 ≡ Elsewhere
unfolding kinds
past_the_end = refl

abbrev put : ℕ → ℕ → ℕ → ℕ → ℕ → RuleView
put mask priority userdata low high = record {
  tag = record { category_mask = mask; priority = pos priority; userdata = userdata };
  fields = Range low high ∷ [];
}

-- Line 2 is written although line 1 has its box, and line 4 isn't: it lies within the box of line
-- 3, which is under no condition.
the_rules : turned_under ports firewall 0 5 kinds
    ≡ Ok (put 2 262144 1 10 19 ∷ put 1 262143 2 10 19 ∷ put 0xFFFF 262142 3 10 29
    ∷ put 0xFFFF 262141 5 0 65535 ∷ [])
unfolding ports firewall kinds made
the_rules = refl

-- the rules by so many steps and the room for so many
abbrev within : ℕ → Making
within steps = made ports (masks_of kinds) (marked_chains firewall) 5 steps

-- room for three rules is too little for the four, and ten steps are too few
too_many_rules : within 20 3 None (first_tasks 1 0 (whole_box (mark_def ∷ ports)))
    ≡ Err TooManyRules
unfolding ports firewall kinds made
too_many_rules = refl

too_many_steps : within 10 4 None (first_tasks 1 0 (whole_box (mark_def ∷ ports)))
    ≡ Err TooManySteps
unfolding ports firewall kinds made
too_many_steps = refl
