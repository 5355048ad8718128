use Rattle.std.proofs.Common.{map, get_or, ◌∙◌, arith}
use Rattle.std.proofs.lemmas.List.{ext_get_or, length-map, get_or-map, length-set}
use Rattle.state_parts.proofs.Offered.{set_done}
use Rattle.trie_merge.proofs.names.name_ranks.Goals as goal

pub loop-category-preserved : goal.loop-category-preserved
loop-category-preserved c =
    let (long, done) = c.loop-category.invariant in (
      length-set c.loop-category.row c.loop-category.category c.name_of.result ∙ long,
      set_done c.loop-category.row (λ n. get_or c.args.names.now (get_or c.args.ranks.now n 0) 0)
          c.loop-category.category c.name_of.result (grind arith) c.name_of.ensures done,
    )

pub returns : goal.returns
returns c =
    ext_get_or 0 c.loop-category.row (map (λ rank. get_or c.args.names.now rank 0) c.args.ranks.now)
    (grind (arith, length-map)) (λ i below. grind (arith, get_or-map))
