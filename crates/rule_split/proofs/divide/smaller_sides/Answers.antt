use Rattle.std.proofs.Common.{◌++◌, ◌∷◌, [], length, map, sym, ◌∙◌, ap, arith}
use Rattle.std.specs.List.{range_with_len}
use Rattle.std.proofs.lemmas.List.FromFn.{map-range_with_len_more}
use Rattle.rule_split.specs.Divide.{smaller_side, smaller_sides}
use Rattle.rule_split.proofs.divide.smaller_sides.Goals as goal

pub loop-field-preserved : goal.loop-field-preserved
loop-field-preserved c =
    c.in_ok-push.ensures.items
    ∙ (λ i. c.loop-field.invariant i ++ c.smaller_side.ensures i ∷ [])
    ∙ sym (map-range_with_len_more (smaller_side c.args.rules.now c.args.group.now) 0 c.loop-field.field
    c.loop-field.field (omega arith))

pub returns : goal.returns
unfolding smaller_sides
returns c =
    let count = ap length (c.fields-count.ensures.fields ∙ c.layout.ensures) in
    c.loop-field.invariant
    ∙ ap (λ n. map (smaller_side c.args.rules.now c.args.group.now) (range_with_len 0 n)) (omega (arith, count))
