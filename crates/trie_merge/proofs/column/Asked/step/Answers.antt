use Rattle.std.proofs.Common.{Some, sym, ◌∙◌, ap, arith}
use Rattle.std.specs.Option.{option_map}
use Rattle.trie_merge.proofs.column.Asked.step.Goals as goal
use Rattle.group_states.specs.Entry.{entry_of, entry_step}

pub returns : goal.returns
unfolding entry_step
returns c = λ column entry is.
    ap Some c.entry_of.ensures
    ∙ ap (option_map (entry_of c.args.self.number)) (sym c.in_ok-after.was ∙ c.edge_at.ensures)
    ∙ (λ i. option_map (entry_of (is.number i)) (is.answers c.args.byte (omega arith) i))

pub returns-in_err-after : goal.returns-in_err-after
unfolding entry_step
returns-in_err-after c = λ column entry is.
    c.from_residual.ensures ∙ ap (option_map (entry_of c.args.self.number)) (sym c.in_err-after.was ∙ c.edge_at.ensures)
    ∙ (λ i. option_map (entry_of (is.number i)) (is.answers c.args.byte (omega arith) i))
