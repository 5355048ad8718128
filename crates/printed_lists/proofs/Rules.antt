-- The line of a rule: it is read as the rule, whatever the ordinal, and none of its bytes ends a line.
use Rattle.std.proofs.Common.{◌≡◌, ℕ, true, Ok, ap}
use Rattle.std.specs.List.{list_all}
use Rattle.field_defs.specs.declared.field.Family.{Family}
use Rattle.rule_set.specs.Rule.{RuleView}
use Rattle.text_scan.proofs.Offered.{ends_no_line}
use Rattle.classbench_reader.specs.Line.{rule_of, rule_line_of, family_of_line}
use Rattle.classbench_reader.specs.Print.{line_text, line_of_rule, IsPrintable}
use Rattle.classbench_reader.proofs.Offered as reader
use Rattle.printed_lists.specs.Listed.{FitsTag}

-- the line of a rule is read back
pub record IsReadBack (its : Family) (rule : RuleView) : Type 0 where
  pub read : (ordinal : ℕ) → rule_line_of ordinal (line_text (line_of_rule its rule)) ≡ Ok (line_of_rule its rule)
  pub says : rule_of (line_of_rule its rule) ≡ rule
  pub of_family : family_of_line (line_of_rule its rule) ≡ its
  pub line : list_all ends_no_line (line_text (line_of_rule its rule)) ≡ true

-- so is that of a rule that a line can say, whose numbers have 32 bits
pub rule_read_back : (its : Family) (rule : RuleView) → IsPrintable its rule → FitsTag rule → IsReadBack its rule
rule_read_back its rule printable fits =
    let line = line_of_rule its rule in
    let said = reader.says_rule its rule printable in
    let same_tag : line.tag ≡ rule.tag = ap (λ (r : RuleView). r.tag) said.says in
    let fits_line : reader.FitsTag line.tag =
    record { categories = rw same_tag fits.categories; userdata = rw same_tag fits.userdata } in
    record {
      read = λ ordinal. reader.rule_line_of-text ordinal line said.lawful fits_line;
      says = said.says;
      of_family = said.of_family;
      line = (reader.text_of_line line said.lawful fits_line).bytes;
    }
