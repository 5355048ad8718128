use Rattle.std.proofs.Common.{◌+◌, ◌*◌, ◌<◌, ◌≤◌, ℕ, List, [], ap, arith, get_or, refl, sym, subst, ◌∙◌, length}
use Rattle.std.proofs.Math.ListN.{length-set}
use Rattle.std.proofs.Math.Nat.{mul-le-mul_right}
use Rattle.std.specs.Prelude.{slice_index}
use Rattle.flat_table.specs.Walk.{walk_transitions}
use Rattle.flat_table.specs.Batch.{key_at}
use Rattle.table_sizes.specs.Groups.{max_key_len}
use Rattle.scalar_walk.specs.Rows.{Reaches}
use Rattle.scalar_walk.proofs.Below.{sum_agree, sum_both, sum_zero}
use Rattle.scalar_walk.proofs.Reached.{reaches_none, reaches_more, first_tries_transitions, first_tries_more}
use Rattle.table_sizes.specs.Sizes.{max_tries}
use Rattle.scalar_walk.proofs.LaneKeys.{room_few, room_fits}
use Rattle.scalar_walk.proofs.classify.reach_some.Goals as goal

pub loop-trie-init : goal.loop-trie-init
loop-trie-init g c = (
  λ k h. reaches_none (c.requires.len k (omega (arith, h, c.requires.lanes.few))),
  sym (sum_zero _ c.args.count (λ k. refl)),
  omega arith,
  omega arith,
  c.requires.len,
)

pub put_rows-requires : goal.put_rows-requires
put_rows-requires g c =
    let fits = room_fits c.requires.lanes in
    (fits.0, (fits.1, (omega (arith, c.loop-trie-test.true, c.tries-trie-end.ensures.bound), c.loop-trie.invariant.4)))

pub overflow_add-taken : goal.overflow_add-taken
overflow_add-taken g c =
    let few : c.loop-trie.trie ≤ 8 = omega arith in
    omega (
      arith,
      c.loop-trie.invariant.2,
      mul-le-mul_right (c.args.count * max_key_len) few,
      c.walk_keys-taken.ensures.limit,
      room_few c.requires.lanes,
    )

pub loop-trie-preserved : goal.loop-trie-preserved
loop-trie-preserved g c =
    let table = c.args.table.now in
    let count : ℕ = c.args.count in
    let l = c.loop-trie in
    let w = c.walk_keys-taken.ensures in
    let few : l.trie < max_tries = omega arith in
    let key = λ (k : ℕ). key_at table c.args.keys.now k in
    let so_far = λ (n k : ℕ). first_tries_transitions table (key k) n in (
      λ k h. let step : k < g.row.ROOM = omega (arith, h, c.requires.lanes.few) in
          subst (Reaches table (key k) (l.trie + 1)) (sym (c.put_rows.ensures k step))
          (reaches_more (l.invariant.0 k h) few (w.rows k h)),
      omega (
        arith,
        l.invariant.1,
        w.taken,
        sum_agree (so_far (l.trie + 1)) (λ k. so_far l.trie k + walk_transitions table l.trie (key k)) count
            (λ k h. first_tries_more table (key k) l.trie),
        sum_both (so_far l.trie) (λ k. walk_transitions table l.trie (key k)) count,
      ),
      omega (arith, l.invariant.2, w.limit),
      omega (arith, l.invariant.3, w.steps),
      λ k h. ap (λ (xs : List ℕ). length xs) (c.put_rows.ensures k h)
          ∙ length-set (get_or l.reached k []) l.trie (slice_index c.walk_keys-taken.new.rows k)
          ∙ l.invariant.4 k h,
    )

pub returns-clause-bound : goal.returns-clause-bound
returns-clause-bound g c =
    let few : c.loop-trie.trie ≤ 8 = omega arith in
    omega (arith, c.loop-trie.invariant.2, mul-le-mul_right (c.args.count * max_key_len) few)
