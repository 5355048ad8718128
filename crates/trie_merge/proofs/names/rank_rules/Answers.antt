use Rattle.std.proofs.Common.{◌≡◌, ℕ, refl, arith}
use Rattle.std.proofs.lemmas.List.FromFn.{length-map-range_with_len}
use Rattle.rule_set.specs.Rank.{rank_of, ranks_of}
use Rattle.trie_merge.proofs.names.rank_rules.Goals as goal
use Rattle.list_lemmas.proofs.Greatest.{get_or-numbers, one_more_number}
use Rattle.std.proofs.lemmas.Option.{get_or_from_slice_get}
use Rattle.trie_merge.specs.Names.{no_rule, ranked_at, ranked_of}

pub index-requires : goal.index-requires
unfolding ranks_of
index-requires c = grind (arith, length-map-range_with_len)

pub loop-number-preserved : goal.loop-number-preserved
unfolding ranks_of
loop-number-preserved c =
    let its = c.args.rules.now in
    let number : ℕ = c.loop-number.number in
    let found = get_or_from_slice_get its.rules number c.at.result.now no_rule c.at.ensures.rule in
    let rank : c.index.result.now ≡ rank_of its.rules number = grind (arith, get_or-numbers) in
    one_more_number (ranked_at its) number _ c.loop-number.ranked.items c.push.new.self.items c.loop-number.invariant
    c.in_ok-push.ensures.items (rw (c.tag-mask.ensures, rank, found) refl)

pub returns : goal.returns
unfolding ranked_of
returns c = grind arith
