use Rattle.std.proofs.Common.{List, ℕ, subst}
use Rattle.command_ending.specs.StepEffects.{Parses}
use Rattle.capture_report.specs.Classifier.{lists_of}
use Rattle.acl_tool.specs.Listings.{refused_as}
use Rattle.acl_tool.specs.RuleTables.{rules_of_bytes}
use Rattle.command_ending.proofs.Offered.{Takes-read, Takes-unread}
use Rattle.acl_tool.proofs.RuleFiles.{rules_of_bytes-more}
use Rattle.acl_tool.proofs.rule_file.read_rule_file.Goals as goal

pub returns-in-Ok-clause-taken : goal.returns-in-Ok-clause-taken
returns-in-Ok-clause-taken g c =
    let view = g.D.Desk.view in
    let rules = c.rules_of.ensures in
    let refused = refused_as c.args.listing in
    let parses : Parses (rules_of_bytes refused) lists_of c.deref.result.now c.rules_of.result = record {
      value = rules.rules;
      fault = rules.fault;
      unread = rules.unread;
      unreported = rules.unreported;
      lawful = rules.lawful;
    } in
    Takes-read c.args.name.now _ (rules_of_bytes refused) lists_of (view c.args.desk.now)
    (view c.read_file.new.desk) c.in-Ok.bytes c.rules_of.result c.in-Ok.ensures (rules_of_bytes-more refused)
    (subst (λ (bytes : List ℕ). Parses (rules_of_bytes refused) lists_of bytes c.rules_of.result)
    c.deref.ensures.value parses)

pub returns-in-Err-clause-taken : goal.returns-in-Err-clause-taken
returns-in-Err-clause-taken g c =
    let view = g.D.Desk.view in
    Takes-unread c.args.name.now _ _ lists_of (view c.args.desk.now)
    (view c.read_file.new.desk) c.in-Err.status c.in-Err.ensures
