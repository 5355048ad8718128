-- A rule for each row, of the priority of the room before it.
use Rattle.std.proofs.Common.{◌≡◌, ℕ, ◌++◌, ◌-◌, List, [], ◌∷◌, length, None, sym, ap, subst, ◌∙◌, arith}
use Rattle.std.specs.List.{AllZip}
use Rattle.rule_set.specs.Lawful.{IsLawfulValue}
use Rattle.table_sizes.specs.Sizes.{max_rules}
use Rattle.field_defs.specs.declared.field.FieldDef.{FieldDef}
use Rattle.rule_set.specs.Rule.{RuleView, RuleSetView}
use Rattle.rule_set.specs.Fault.{rule_fault}
use Rattle.chain_conditions.proofs.Turnings.{tagged_rule, rows_more, rows_sized, row_lawful}
use Rattle.chain_conditions.proofs.turning.put_rows.Goals as goal

pub tag_after-requires : goal.tag_after-requires
tag_after-requires c =
    let below = c.loop-row-test.true in
    let sized = rows_sized c.args.set.now.rules c.loop-row.set.rules c.args.mask c.args.userdata c.args.rows.now
    c.loop-row.row-index (omega (arith, below)) c.loop-row.invariant.1 in
    let room = c.requires.room in
    omega (arith, below, sized, room, c.len.ensures)

pub push_lawful-requires-clause-room : goal.push_lawful-requires-clause-room
push_lawful-requires-clause-room c =
    let below = c.loop-row-test.true in
    let sized = rows_sized c.args.set.now.rules c.loop-row.set.rules c.args.mask c.args.userdata c.args.rows.now
    c.loop-row.row-index (omega (arith, below)) c.loop-row.invariant.1 in
    let room = c.requires.room in
    omega (arith, below, sized, room)

pub push_lawful-requires-clause-lawful : goal.push_lawful-requires-clause-lawful
push_lawful-requires-clause-lawful c =
    let now = c.loop-row.set.rules in
    let row = c.row-item.result in
    let priority : ℕ = max_rules - length now in
    let is : c.in_ok-rule.rule ≡ tagged_rule priority c.args.mask c.args.userdata row =
    c.in_ok-rule.ensures.ok
    ∙ (λ i. record {
      tag = (c.tag_after.ensures ∙ ap (λ n. (tagged_rule (max_rules - n) c.args.mask c.args.userdata []).tag)
          c.len.ensures) i;
      fields = c.values.ensures i;
    }) in
    subst (λ (rule : RuleView). rule_fault c.loop-row.set.layout rule.tag rule.fields ≡ None) (sym is)
    (subst (λ (layout : List FieldDef). rule_fault layout (tagged_rule priority c.args.mask c.args.userdata row).tag
    row ≡ None)
    (sym c.loop-row.invariant.0)
    (row_lawful c.args.set.now.layout priority c.args.mask c.args.userdata row c.requires.layout c.requires.mask
    (omega arith)
    (subst (AllZip IsLawfulValue c.args.set.now.layout) (sym c.row-item.is)
    (c.requires.lawful c.loop-row.row-index row c.loop-row-test.true))))

pub loop-row-preserved : goal.loop-row-preserved
loop-row-preserved c =
    let now = c.loop-row.set.rules in
    let row = c.row-item.result in
    let priority : ℕ = max_rules - length now in
    let is : c.in_ok-rule.rule ≡ tagged_rule priority c.args.mask c.args.userdata row =
    c.in_ok-rule.ensures.ok
    ∙ (λ i. record {
      tag = (c.tag_after.ensures ∙ ap (λ n. (tagged_rule (max_rules - n) c.args.mask c.args.userdata []).tag)
          c.len.ensures) i;
      fields = c.values.ensures i;
    }) in
    let pushed = c.in_ok-push_lawful.ensures.ok in (
      ap (λ (set : RuleSetView). set.layout) pushed ∙ c.loop-row.invariant.0,
      rows_more c.args.set.now.rules now c.push_lawful.new.self.rules c.args.mask c.args.userdata c.args.rows.now
          c.loop-row.row-index row c.loop-row-test.true c.row-item.is c.loop-row.invariant.1
          (ap (λ (set : RuleSetView). set.rules) pushed ∙ ap (λ rule. now ++ rule ∷ []) is),
    )
