use Rattle.std.proofs.Common.{arith, length}
use Rattle.std.proofs.lemmas.List.FromFn.{length-map-range_with_len}
use Rattle.rule_set.specs.Rank.{rank_of}
use Rattle.trie_merge.proofs.names.names_of.Goals as goal
use Rattle.list_lemmas.proofs.Greatest.{one_more_placed, get_or-numbers}
use Rattle.trie_merge.specs.Names.{ranked_of}

pub rank_at-requires : goal.rank_at-requires
unfolding ranked_of
rank_at-requires c = grind (arith, length-map-range_with_len)

pub index_mut-requires : goal.index_mut-requires
unfolding ranked_of
index_mut-requires c =
    let rules = c.args.rules.now.rules in
    grind (arith, get_or-numbers, c.ranks_order_rules.ensures.bounds rules c.loop-number.number (grind arith))

pub loop-number-preserved : goal.loop-number-preserved
unfolding ranked_of
loop-number-preserved c =
    let rules = c.args.rules.now.rules in
    one_more_placed (rank_of rules) (length rules) (c.ranks_order_rules.ensures.bounds rules)
    (c.ranks_order_rules.ensures.distinct rules) c.loop-number.names.items c.loop-number.number c.rank_at.result
    (grind arith) (grind (arith, get_or-numbers)) c.loop-number.invariant
