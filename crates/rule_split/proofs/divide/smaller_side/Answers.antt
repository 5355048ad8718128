use Rattle.std.proofs.Common.{ℕ, ◌+◌, ◌-◌, Bool, List, length, take, length-take, ap, sym, ◌∙◌, arith}
use Rattle.std.specs.List.{count_by}
use Rattle.std.proofs.lemmas.List.{take_all}
use Rattle.std.proofs.lemmas.List.Sums.{count_by-le-length, count_by_more_yes, count_by_more_no}
use Rattle.rule_split.specs.Divide.{is_wild_in}
use Rattle.rule_split.proofs.Sides.{side_of_count, min_is}
use Rattle.rule_split.proofs.divide.smaller_side.Goals.{then-is_wild_in, else-is_wild_in}
use Rattle.rule_split.proofs.divide.smaller_side.Goals as goal

pub returns : goal.returns
returns c =
    let group = c.args.group.now in
    let counted = c.loop-number.invariant
    ∙ ap (λ (rules : List ℕ). count_by (is_wild_in c.args.rules.now c.args.field) rules)
    (take_all c.loop-number.number-index group c.loop-number-test.false) in
    c.min.ensures
    ∙ sym (side_of_count c.args.rules.now group c.args.field c.loop-number.wild counted
    ∙ min_is c.loop-number.wild (length group - c.loop-number.wild))

pub is_wild_in-requires-clause-number : goal.is_wild_in-requires-clause-number
is_wild_in-requires-clause-number c =
    c.requires.numbers c.loop-number.number-index 0 c.loop-number-test.true

pub overflow_add-wild : goal.overflow_add-wild
overflow_add-wild c =
    let l = c.loop-number in
    omega (
      arith,
      l.invariant,
      count_by-le-length (is_wild_in c.args.rules.now c.args.field) (take l.number-index c.args.group.now),
      length-take l.number-index c.args.group.now,
    )

pub loop-number-preserved : goal.loop-number-preserved
loop-number-preserved c =
    let l = c.loop-number in
    let is_wild : ℕ → Bool = is_wild_in c.args.rules.now c.args.field in
    elim c.if-is_wild_in.branch [
      | then-is_wild_in w ↦
          rw w.wild-is (ap (λ (n : ℕ). n + 1) l.invariant
          ∙ sym (count_by_more_yes is_wild c.args.group.now l.number-index 0 c.loop-number-test.true
          (sym c.is_wild_in.ensures ∙ w.if-is_wild_in.true)))
      | else-is_wild_in w ↦
          rw w.wild-is (l.invariant
          ∙ sym (count_by_more_no is_wild c.args.group.now l.number-index 0 c.loop-number-test.true
          (sym c.is_wild_in.ensures ∙ w.if-is_wild_in.false)))
    ]
