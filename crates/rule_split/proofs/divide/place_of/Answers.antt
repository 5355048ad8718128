use Rattle.std.proofs.Common.{sym, ◌∙◌, arith}
use Rattle.std.proofs.lemmas.Bool.{eqb-false}
use Rattle.rule_split.specs.Divide.{greatest_place}
use Rattle.rule_split.proofs.Greatest.{greatest_there, stands_first}
use Rattle.rule_split.proofs.divide.place_of.Goals as goal

pub returns-then-numbers-place-clause-place : goal.returns-then-numbers-place-clause-place
returns-then-numbers-place-clause-place c =
    stands_first c.args.numbers.now c.loop-place.place c.args.most c.requires.most c.loop-place-test.true
    c.loop-place.invariant c.if-numbers-place.true

pub unreachable-requires : goal.unreachable-requires
unreachable-requires c =
    let numbers = c.args.numbers.now in
    let there = greatest_there numbers (λ none. c.requires.some (c.requires.most ∙ none)) in
    eqb-false _ _ (c.loop-place.invariant (greatest_place numbers) (omega (arith, there.0)))
    (there.1 0 ∙ sym c.requires.most)
