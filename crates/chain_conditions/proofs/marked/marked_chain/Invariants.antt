-- The rules so far.
use Rattle.std.proofs.Common.{[]}
use Rattle.list_lemmas.proofs.Loops.{Mapped}
use Rattle.chain_conditions.specs.Marked.{marked_rule}
use Rattle.chain_conditions.proofs.marked.marked_chain.Given as goal

-- one for each rule so far
abbrev pub invariant-loop-rule : goal.invariant-loop-rule
invariant-loop-rule l = Mapped marked_rule l.chain l.rule-index [] l.rules.items
