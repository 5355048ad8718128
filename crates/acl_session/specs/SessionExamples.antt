-- Examples of sessions, each checked by evaluation.
use Rattle.std.specs.Prelude.{◌≡◌, ℕ, pos, List, [], ◌∷◌, ◌++◌, codes, Option, Some, None, refl}
use Rattle.std.specs.Fmt.{digits}
use Rattle.field_defs.specs.declared.field.FieldKind.TheVariants as kinds
use Rattle.field_defs.specs.declared.field.FieldValue.TheVariants.{Bitmask, Mask, Range}
use Rattle.field_defs.specs.Faults.{failing_number}
use Rattle.field_defs.specs.LayoutFault.{layout_fault}
use Rattle.rule_set.specs.Fault.{rule_fault, categories}
use Rattle.rule_set.specs.Rule.{RuleView}
use Rattle.text_scan.specs.Parts.{words_of}
use Rattle.acl_session.specs.Command.{AddRule, Build, Classify, command_of}
use Rattle.acl_session.specs.State.{State}
use Rattle.acl_session.specs.Session.{answer, session_of}

-- a rule in each of the three forms of values, and one without values
values : command_of (words_of (codes "rule 1 2 3 0x0A000000/8 0:65535\t6&0xFF"))
    ≡ Some (AddRule (record {
      tag = record { category_mask = 2; priority = pos 1; userdata = 3 };
      fields = Mask 0x0A000000 8 ∷ Range 0 65535 ∷ Bitmask 6 255 ∷ [];
    }))
values = refl

no_values : command_of (words_of (codes "  rule 1 2 3 "))
    ≡ Some (AddRule (record {
      tag = record { category_mask = 2; priority = pos 1; userdata = 3 };
      fields = [];
    }))
no_values = refl

-- a number that is too great, two separators, and blanks around one
great_bits : command_of (words_of (codes "rule 1 2 3 0/256")) ≡ None
great_bits = refl

two_separators : command_of (words_of (codes "rule 1 2 3 0:1:2")) ≡ None
two_separators = refl

blanks : command_of (words_of (codes "rule 1 2 3 0 : 1")) ≡ None
blanks = refl

-- a budget is at least 1
no_budget : command_of (words_of (codes "build 0")) ≡ None
no_budget = refl

hexadecimal : command_of (words_of (codes "build 0x10")) ≡ Some (Build 16)
hexadecimal = refl

-- digits of either case, an even number of them, and one of the five numbers of categories
digits_of_both : command_of (words_of (codes "classify 4 00aBfF"))
    ≡ Some (Classify 4 (0 ∷ 171 ∷ 255 ∷ []))
digits_of_both = refl

odd : command_of (words_of (codes "classify 4 00a")) ≡ None
odd = refl

none : command_of (words_of (codes "classify 4")) ≡ None
none = refl

five : command_of (words_of (codes "classify 5 00")) ≡ None
five = refl

-- a word too many
more : command_of (words_of (codes "reset now")) ≡ None
more = refl

-- Two fields, of one byte and of four. The number of words takes long to evaluate, so the build is
-- left out.
replies : session_of (codes "# two fields\nfield bits 1 0 0\r\n\nfield range 4 1 4\n")
    ++ session_of (codes "field bits 1 0 0\ncontext 2\nrule 5 1 7 0&0\n")
    ++ session_of (codes "classify 1 000000000000000f\ncontext 2\nhello")
    ≡ codes "ok\nok\nok\nok\nok\n" ++ codes "refused no context\nrefused layout 1\nbad line\n"
unfolding digits layout_fault failing_number rule_fault categories
replies = refl

-- the rule of that script
abbrev rule : RuleView
rule = record {
  tag = record { category_mask = 1; priority = pos 5; userdata = 7 };
  fields = Bitmask 0 0 ∷ Range 10 20 ∷ [];
}

-- the state after it, with the rules of the last build
abbrev with_rules : Option (List RuleView) → State
with_rules built = record {
  collected = [];
  context = Some (record {
    layout = record { kind = kinds.Bitmask; size = 1; field_index = 0; input_index = 0; offset = 0 }
        ∷ record { kind = kinds.Range; size = 4; field_index = 1; input_index = 1; offset = 4 }
        ∷ [];
    limit = 2;
    rules = rule ∷ [];
    built = built;
  });
}

-- the reply to a line then
abbrev reply : Option (List RuleView) → List ℕ → List ℕ
reply built line = (answer (with_rules built) line).text

not_built : reply None (codes "classify 1 000000000000000f") ≡ codes "refused not built\n"
unfolding digits
not_built = refl

within_range : reply (Some (rule ∷ [])) (codes "classify 1 000000000000000F") ≡ codes "7\n"
unfolding digits
within_range = refl

above_range : reply (Some (rule ∷ [])) (codes "classify 4 0000000000000015") ≡ codes "0 0 0 0\n"
unfolding digits
above_range = refl

short : reply None (codes "classify 1 00000000000000") ≡ codes "refused short buffer\n"
unfolding digits
short = refl

empty_range : reply None (codes "rule 6 1 8 0&0 5:4") ≡ codes "refused rule 8 1\n"
unfolding digits rule_fault categories
empty_range = refl

another_kind : reply None (codes "rule 6 1 8 0/0 5:4") ≡ codes "refused rule 2 0\n"
unfolding digits rule_fault categories
another_kind = refl
