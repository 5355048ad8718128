use Rattle.std.proofs.Common.{ℕ, sym, ◌∙◌}
use Rattle.node_expand.specs.declared.edge.Edge.TheVariants.{Free}
use Rattle.trie_merge.proofs.build.start_entries.Goals as goal
use Rattle.list_lemmas.proofs.Each.{map-map}
use Rattle.group_states.specs.Entry.{entry_of}
use Rattle.list_lemmas.proofs.Spans.{one_more_mapped, all_mapped}
use Rattle.trie_merge.specs.declared.order.Keyed.{Keyed}

-- the entry of one rule
abbrev entry_at : Keyed → ℕ
entry_at keyed = entry_of keyed.number Free

pub loop-keyed-preserved : goal.loop-keyed-preserved
loop-keyed-preserved c =
    one_more_mapped entry_at c.args.order.now c.loop-keyed.keyed-index (record { number = 0; lead = 0; first = 0 }) _ _
    c.loop-keyed-test.true c.loop-keyed.invariant (rw c.entry_of.ensures at c.in_ok-push.ensures.items)

pub returns : goal.returns
returns c =
    all_mapped entry_at c.args.order.now c.loop-keyed.keyed-index _ c.loop-keyed-test.false c.loop-keyed.invariant
    ∙ sym (map-map (λ number. entry_of number Free) (λ (keyed : Keyed). keyed.number) c.args.order.now)
