use Rattle.std.proofs.Common.{◌∙◌, sym}
use Rattle.field_defs.specs.declared.lawful.LayoutFault.TheVariants.{InputOrder, GroupSize, GroupOffsets}
use Rattle.field_defs.specs.declared.lawful.LayoutFault.TheVariants.{OffsetTooLarge}
use Rattle.field_defs.proofs.FirstFault.{none_here, some_here, past_sizes, past_first, groups_later}
use Rattle.field_defs.proofs.lawful.check_layout.Goals as goal

pub returns-in-Some-first_failing-2 : goal.returns-in-Some-first_failing-2
returns-in-Some-first_failing-2 c =
    let there = sym c.is_empty.ensures ∙ c.if-is_empty.false in
    sym (past_sizes c.args.defs.now there (sym c.first_failing.ensures ∙ c.in_default.is)
    (sym c.first_failing-2.ensures ∙ c.in_default-first_failing.is)
    ∙ past_first c.args.defs.now _ there c.if-defs-ne1.false
    ∙ some_here InputOrder _ _ _ (sym c.first_failing-3.ensures ∙ c.in-Some-first_failing-2.is))

pub returns-in-Some-first_unfilled_group : goal.returns-in-Some-first_unfilled_group
returns-in-Some-first_unfilled_group c =
    let there = sym c.is_empty.ensures ∙ c.if-is_empty.false in
    sym (past_sizes c.args.defs.now there (sym c.first_failing.ensures ∙ c.in_default.is)
    (sym c.first_failing-2.ensures ∙ c.in_default-first_failing.is)
    ∙ past_first c.args.defs.now _ there c.if-defs-ne1.false
    ∙ none_here InputOrder _ _ (sym c.first_failing-3.ensures ∙ c.in_default-first_failing-2.is)
    ∙ some_here GroupSize _ _ _ (sym (c.first_unfilled_group.ensures ∙ groups_later c.args.defs.now)
    ∙ c.in-Some-first_unfilled_group.is))

pub returns-in-Some-first_failing-3 : goal.returns-in-Some-first_failing-3
returns-in-Some-first_failing-3 c =
    let there = sym c.is_empty.ensures ∙ c.if-is_empty.false in
    sym (past_sizes c.args.defs.now there (sym c.first_failing.ensures ∙ c.in_default.is)
    (sym c.first_failing-2.ensures ∙ c.in_default-first_failing.is)
    ∙ past_first c.args.defs.now _ there c.if-defs-ne1.false
    ∙ none_here InputOrder _ _ (sym c.first_failing-3.ensures ∙ c.in_default-first_failing-2.is)
    ∙ none_here GroupSize _ _ (sym (c.first_unfilled_group.ensures ∙ groups_later c.args.defs.now)
    ∙ c.in_default-first_unfilled_group.is)
    ∙ some_here GroupOffsets _ _ _ (sym c.first_failing-4.ensures ∙ c.in-Some-first_failing-3.is))

pub returns-in-Some-first_failing-4 : goal.returns-in-Some-first_failing-4
returns-in-Some-first_failing-4 c =
    let there = sym c.is_empty.ensures ∙ c.if-is_empty.false in
    sym (past_sizes c.args.defs.now there (sym c.first_failing.ensures ∙ c.in_default.is)
    (sym c.first_failing-2.ensures ∙ c.in_default-first_failing.is)
    ∙ past_first c.args.defs.now _ there c.if-defs-ne1.false
    ∙ none_here InputOrder _ _ (sym c.first_failing-3.ensures ∙ c.in_default-first_failing-2.is)
    ∙ none_here GroupSize _ _ (sym (c.first_unfilled_group.ensures ∙ groups_later c.args.defs.now)
    ∙ c.in_default-first_unfilled_group.is)
    ∙ none_here GroupOffsets _ _ (sym c.first_failing-4.ensures ∙ c.in_default-first_failing-3.is)
    ∙ some_here OffsetTooLarge _ _ _ (sym c.first_failing-5.ensures ∙ c.in-Some-first_failing-4.is))

pub returns : goal.returns
returns c =
    let there = sym c.is_empty.ensures ∙ c.if-is_empty.false in
    sym (past_sizes c.args.defs.now there (sym c.first_failing.ensures ∙ c.in_default.is)
    (sym c.first_failing-2.ensures ∙ c.in_default-first_failing.is)
    ∙ past_first c.args.defs.now _ there c.if-defs-ne1.false
    ∙ none_here InputOrder _ _ (sym c.first_failing-3.ensures ∙ c.in_default-first_failing-2.is)
    ∙ none_here GroupSize _ _ (sym (c.first_unfilled_group.ensures ∙ groups_later c.args.defs.now)
    ∙ c.in_default-first_unfilled_group.is)
    ∙ none_here GroupOffsets _ _ (sym c.first_failing-4.ensures ∙ c.in_default-first_failing-3.is)
    ∙ none_here OffsetTooLarge _ _ (sym c.first_failing-5.ensures ∙ c.in_default-first_failing-4.is))
