use Rattle.std.proofs.Common.{arith}
use Rattle.std.proofs.lemmas.List.Sorted.{IsNonDecreasingBy-from_sort}
use Rattle.rule_set.proofs.Places.{next_inside, one_more_ranked, all_ranked}
use Rattle.rule_set.proofs.rank.ranks_of_keys.Goals as goal

pub index_mut-requires : goal.index_mut-requires
index_mut-requires c =
    omega (
      arith,
      c.place_of.ensures,
      next_inside c.args.keys.items c.deref-key-items.result.now c.loop-below.ranks.items c.loop-below.below
          c.loop-below.invariant c.loop-below-test.true,
      c.loop-below.ranks.ok,
    )

pub loop-below-init : goal.loop-below-init
loop-below-init c = record {
  ordered = rw c.deref-key-items.ensures.value (record {
    told = c.requires.places;
    same = c.sort_unstable.ensures.permutation;
    rises = IsNonDecreasingBy-from_sort (λ n. n) c.sort_unstable.new.self.items c.sort_unstable.ensures.sorted;
  });
  long = omega (
    arith,
    c.in_ok-ranks.ensures.len,
    c.in_ok-ranks.ranks.ok,
    c.len.ensures,
    c.deref-key-items.ensures.len,
  );
  each = λ k below. absurd (omega (arith, below));
}

pub loop-below-preserved : goal.loop-below-preserved
loop-below-preserved c =
    rw c.place_of.ensures (one_more_ranked c.args.keys.items c.deref-key-items.result.now c.loop-below.ranks.items
    c.loop-below.below c.loop-below.invariant c.loop-below-test.true)

pub returns : goal.returns
returns c =
    all_ranked c.args.keys.items c.deref-key-items.result.now c.loop-below.ranks.items c.loop-below.below
    c.loop-below.invariant c.loop-below-test.false
