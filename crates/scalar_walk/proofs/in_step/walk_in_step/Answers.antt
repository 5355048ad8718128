use Rattle.std.proofs.Common.{◌≡◌, ℕ, ◌+◌, ◌*◌, ◌<◌, List, arith, ap, sym, ◌∙◌, length}
use Rattle.std.specs.Prelude.{slice_index}
use Rattle.flat_table.specs.Walk.{walk_transitions}
use Rattle.flat_table.specs.Batch.{key_at}
use Rattle.scalar_walk.specs.Lanes.{own_lanes, sum_below}
use Rattle.scalar_walk.specs.Rows.{EndsAt}
use Rattle.scalar_walk.proofs.Ways.{IsWay}
use Rattle.scalar_walk.proofs.InStep.{way_of, begins_are, four_begin, lane_ends, own_took}
use Rattle.scalar_walk.proofs.LaneWalks.{SomeKeys}
use Rattle.scalar_walk.proofs.InStep.{bytes_in_keys, group_begins, group_ready, group_went, group_ends}
use Rattle.scalar_walk.proofs.InStep.{lane_took_few, each_of_fours, four_over}
use Rattle.scalar_walk.proofs.Below.{sum_agree}
use Rattle.scalar_walk.proofs.Counted.{counted_is, counted_none}
use Rattle.scalar_walk.proofs.LaneKeys.{own_below, own_few, own_of_fours, sum_of_fours}
use Rattle.scalar_walk.proofs.in_step.walk_in_step.Goals as goal

pub begins-at_first-requires-clause-some : goal.begins-at_first-requires-clause-some
begins-at_first-requires-clause-some g c =
    c.requires.lanes.some

pub begins-at_first-requires-clause-keys : goal.begins-at_first-requires-clause-keys
begins-at_first-requires-clause-keys g c =
    c.requires.keys ∙ ap (λ (len : ℕ). c.args.count * len) (sym c.key_len-len.ensures.value)

pub begins-at_second-requires-clause-some : goal.begins-at_second-requires-clause-some
begins-at_second-requires-clause-some g c =
    c.requires.lanes.some

pub begins-at_second-requires-clause-keys : goal.begins-at_second-requires-clause-keys
begins-at_second-requires-clause-keys g c =
    c.requires.keys ∙ ap (λ (len : ℕ). c.args.count * len) (sym c.key_len-len.ensures.value)

pub begins-at_third-requires-clause-some : goal.begins-at_third-requires-clause-some
begins-at_third-requires-clause-some g c =
    c.requires.lanes.some

pub begins-at_third-requires-clause-keys : goal.begins-at_third-requires-clause-keys
begins-at_third-requires-clause-keys g c =
    c.requires.keys ∙ ap (λ (len : ℕ). c.args.count * len) (sym c.key_len-len.ensures.value)

pub begins-at_fourth-requires-clause-some : goal.begins-at_fourth-requires-clause-some
begins-at_fourth-requires-clause-some g c =
    c.requires.lanes.some

pub begins-at_fourth-requires-clause-keys : goal.begins-at_fourth-requires-clause-keys
begins-at_fourth-requires-clause-keys g c =
    c.requires.keys ∙ ap (λ (len : ℕ). c.args.count * len) (sym c.key_len-len.ensures.value)

pub loop-words-init : goal.loop-words-init
loop-words-init g c =
    let way = way_of c.args.table.now c.args.trie c.places-places.result.now c.words-words.result.now in
    let is_way : IsWay way = record {
      sound = c.root-root.ensures.sound;
      there = c.requires.trie;
      places_are = c.places-places.ensures.places;
      words_are = c.words-words.ensures;
    } in
    let keys_are : SomeKeys way c.args.keys.now c.args.count = record {
      whole = c.requires.keys;
      some = c.requires.lanes.some;
      bytes = λ k. omega (arith, c.type_inv.keys k);
    } in
    let begun = λ (first : ℕ). four_begin is_way keys_are first c.root-root.ensures.value c.begin-walks.ensures.words
    c.begin-walks.ensures.taken in
    let none = λ (own : ℕ). counted_none c.begin-walks.result.taken own c.begin-walks.ensures.taken in (
      λ h. begun 0,
      λ h. begun 4,
      λ h. begun 8,
      λ h. begun 12,
      omega arith,
      omega (
        arith,
        none c.lanes_of-own_first.result,
        none c.lanes_of-own_second.result,
        none c.lanes_of-own_third.result,
        none c.lanes_of-own_fourth.result,
      ),
    )

pub read_in-of_first-requires-clause-keys : goal.read_in-of_first-requires-clause-keys
read_in-of_first-requires-clause-keys g c =
    let way = way_of c.args.table.now c.args.trie c.places-places.result.now c.words-words.result.now in
    let next = c.group_len-read.ensures in
    λ h. bytes_in_keys (c.loop-words.invariant.0 h) next.some next.within next.follow c.from-from.ensures
    (begins_are way c.args.count 0 c.begins-at_first.result c.key_len-len.ensures.value c.begins-at_first.ensures)

pub read_in-of_second-requires-clause-keys : goal.read_in-of_second-requires-clause-keys
read_in-of_second-requires-clause-keys g c =
    let way = way_of c.args.table.now c.args.trie c.places-places.result.now c.words-words.result.now in
    let next = c.group_len-read.ensures in
    λ h. bytes_in_keys (c.loop-words.invariant.1 h) next.some next.within next.follow c.from-from.ensures
    (begins_are way c.args.count 4 c.begins-at_second.result c.key_len-len.ensures.value c.begins-at_second.ensures)

pub read_in-of_third-requires-clause-keys : goal.read_in-of_third-requires-clause-keys
read_in-of_third-requires-clause-keys g c =
    let way = way_of c.args.table.now c.args.trie c.places-places.result.now c.words-words.result.now in
    let next = c.group_len-read.ensures in
    λ h. bytes_in_keys (c.loop-words.invariant.2 h) next.some next.within next.follow c.from-from.ensures
    (begins_are way c.args.count 8 c.begins-at_third.result c.key_len-len.ensures.value c.begins-at_third.ensures)

pub read_in-of_fourth-requires-clause-keys : goal.read_in-of_fourth-requires-clause-keys
read_in-of_fourth-requires-clause-keys g c =
    let way = way_of c.args.table.now c.args.trie c.places-places.result.now c.words-words.result.now in
    let next = c.group_len-read.ensures in
    λ h. bytes_in_keys (c.loop-words.invariant.3 h) next.some next.within next.follow c.from-from.ensures
    (begins_are way c.args.count 12 c.begins-at_fourth.result c.key_len-len.ensures.value c.begins-at_fourth.ensures)

pub loop-place-init : goal.loop-place-init
loop-place-init g c =
    let way = way_of c.args.table.now c.args.trie c.places-places.result.now c.words-words.result.now in
    let w = c.loop-words.invariant in
    let next = c.group_len-read.ensures in
    let len = c.key_len-len.ensures.value in
    let is = c.from-from.ensures in (
      λ h. group_begins (w.0 h) next.within next.follow is
          (begins_are way c.args.count 0 c.begins-at_first.result len c.begins-at_first.ensures)
          (c.read_in-of_first.ensures h),
      λ h. group_begins (w.1 h) next.within next.follow is
          (begins_are way c.args.count 4 c.begins-at_second.result len c.begins-at_second.ensures)
          (c.read_in-of_second.ensures h),
      λ h. group_begins (w.2 h) next.within next.follow is
          (begins_are way c.args.count 8 c.begins-at_third.result len c.begins-at_third.ensures)
          (c.read_in-of_third.ensures h),
      λ h. group_begins (w.3 h) next.within next.follow is
          (begins_are way c.args.count 12 c.begins-at_fourth.result len c.begins-at_fourth.ensures)
          (c.read_in-of_fourth.ensures h),
      w.5,
    )

pub step_in-first-requires-clause-ready : goal.step_in-first-requires-clause-ready
step_in-first-requires-clause-ready g c =
    λ h. group_ready (c.loop-place.invariant.0 h) c.loop-place-test.true c.walks_stay.ensures
    c.places-places.ensures.bound

pub step_in-second-requires-clause-ready : goal.step_in-second-requires-clause-ready
step_in-second-requires-clause-ready g c =
    λ h. group_ready (c.loop-place.invariant.1 h) c.loop-place-test.true c.walks_stay.ensures
    c.places-places.ensures.bound

pub step_in-third-requires-clause-ready : goal.step_in-third-requires-clause-ready
step_in-third-requires-clause-ready g c =
    λ h. group_ready (c.loop-place.invariant.2 h) c.loop-place-test.true c.walks_stay.ensures
    c.places-places.ensures.bound

pub step_in-fourth-requires-clause-ready : goal.step_in-fourth-requires-clause-ready
step_in-fourth-requires-clause-ready g c =
    λ h. group_ready (c.loop-place.invariant.3 h) c.loop-place-test.true c.walks_stay.ensures
    c.places-places.ensures.bound

pub loop-place-preserved : goal.loop-place-preserved
loop-place-preserved g c =
    let more = c.loop-place-test.true in
    let r = c.loop-place.invariant in (
      λ h. group_went (r.0 h) more (c.step_in-first.ensures.walks h),
      λ h. group_went (r.1 h) more (c.step_in-second.ensures.walks h),
      λ h. group_went (r.2 h) more (c.step_in-third.ensures.walks h),
      λ h. group_went (r.3 h) more (c.step_in-fourth.ensures.walks h),
      omega (
        arith,
        r.4,
        c.step_in-first.ensures.steps,
        c.step_in-second.ensures.steps,
        c.step_in-third.ensures.steps,
        c.step_in-fourth.ensures.steps,
      ),
    )

pub loop-words-preserved : goal.loop-words-preserved
loop-words-preserved g c =
    let all : c.loop-place.place ≡ c.group_len-read.result = omega arith in
    let r = c.loop-place.invariant in (
      λ h. group_ends (r.0 h) all,
      λ h. group_ends (r.1 h) all,
      λ h. group_ends (r.2 h) all,
      λ h. group_ends (r.3 h) all,
      omega (arith, all, c.group_len-read.ensures.within),
      r.4,
    )

pub loop-words-smaller : goal.loop-words-smaller
loop-words-smaller g c =
    omega (
      arith,
      c.group_len-read.ensures.some,
      c.group_len-read.ensures.within,
      ap (λ (xs : List ℕ). length xs) c.places-places.ensures.places,
    )

pub end_in-taken-requires-clause-lanes : goal.end_in-taken-requires-clause-lanes
end_in-taken-requires-clause-lanes g c =
    c.requires.lanes.enough

pub end_in-taken-requires-clause-few : goal.end_in-taken-requires-clause-few
end_in-taken-requires-clause-few g c =
    λ h. lane_took_few (c.loop-words.invariant.0 h)
    (omega (arith, c.loop-words.invariant.4, c.places-places.ensures.bound))

pub end_in-taken-requires-2-clause-lanes : goal.end_in-taken-requires-2-clause-lanes
end_in-taken-requires-2-clause-lanes g c =
    c.requires.lanes.enough

pub end_in-taken-requires-2-clause-few : goal.end_in-taken-requires-2-clause-few
end_in-taken-requires-2-clause-few g c =
    λ h. lane_took_few (c.loop-words.invariant.1 h)
    (omega (arith, c.loop-words.invariant.4, c.places-places.ensures.bound))

pub end_in-taken-requires-3-clause-lanes : goal.end_in-taken-requires-3-clause-lanes
end_in-taken-requires-3-clause-lanes g c =
    c.requires.lanes.enough

pub end_in-taken-requires-3-clause-few : goal.end_in-taken-requires-3-clause-few
end_in-taken-requires-3-clause-few g c =
    λ h. lane_took_few (c.loop-words.invariant.2 h)
    (omega (arith, c.loop-words.invariant.4, c.places-places.ensures.bound))

pub end_in-taken-requires-4-clause-lanes : goal.end_in-taken-requires-4-clause-lanes
end_in-taken-requires-4-clause-lanes g c =
    c.requires.lanes.enough

pub end_in-taken-requires-4-clause-few : goal.end_in-taken-requires-4-clause-few
end_in-taken-requires-4-clause-few g c =
    λ h. lane_took_few (c.loop-words.invariant.3 h)
    (omega (arith, c.loop-words.invariant.4, c.places-places.ensures.bound))

pub returns-clause-rows : goal.returns-clause-rows
returns-clause-rows g c =
    let w = c.loop-words.invariant in
    let over = c.is_left.ensures in
    let done = c.loop-words-test.false in
    let lanes = c.requires.lanes in
    let table = c.args.table.now in
    let count : ℕ = c.args.count in
    λ k within. each_of_fours
    (λ k. k < count → EndsAt table c.args.trie (key_at table c.args.keys.now k)
    (slice_index c.end_in-taken-4.new.rows k))
    (λ i h own. let there : 0 < g.row.FOURS = omega (arith, own, h, lanes.enough) in
    lane_ends (w.0 there) (four_over (w.0 there) w.4 (over.first done) there) i _ h own
    (c.end_in-taken-4.ensures.others (0 + i) (omega (arith, h))
    ∙ c.end_in-taken-3.ensures.others (0 + i) (omega (arith, h))
    ∙ c.end_in-taken-2.ensures.others (0 + i) (omega (arith, h))
    ∙ c.end_in-taken.ensures.rows there i h))
    (λ i h own. let there : 1 < g.row.FOURS = omega (arith, own, h, lanes.enough) in
    lane_ends (w.1 there) (four_over (w.1 there) w.4 (over.second done) there) i _ h own
    (c.end_in-taken-4.ensures.others (4 + i) (omega (arith, h))
    ∙ c.end_in-taken-3.ensures.others (4 + i) (omega (arith, h))
    ∙ c.end_in-taken-2.ensures.rows there i h))
    (λ i h own. let there : 2 < g.row.FOURS = omega (arith, own, h, lanes.enough) in
    lane_ends (w.2 there) (four_over (w.2 there) w.4 (over.third done) there) i _ h own
    (c.end_in-taken-4.ensures.others (8 + i) (omega (arith, h))
    ∙ c.end_in-taken-3.ensures.rows there i h))
    (λ i h own. let there : 3 < g.row.FOURS = omega (arith, own, h, lanes.enough) in
    lane_ends (w.3 there) (four_over (w.3 there) w.4 (over.fourth done) there) i _ h own
    (c.end_in-taken-4.ensures.rows there i h))
    k (omega (arith, within, lanes.enough, lanes.few)) within

pub returns-clause-taken : goal.returns-clause-taken
returns-clause-taken g c =
    let w = c.loop-words.invariant in
    let over = c.is_left.ensures in
    let done = c.loop-words-test.false in
    let lanes = c.requires.lanes in
    let count : ℕ = c.args.count in
    let t = λ (k : ℕ). walk_transitions c.args.table.now c.args.trie (key_at c.args.table.now c.args.keys.now k) in
    omega (
      arith,
      c.end_in-taken.ensures.taken,
      c.end_in-taken-2.ensures.taken,
      c.end_in-taken-3.ensures.taken,
      c.end_in-taken-4.ensures.taken,
      sum_agree (λ i. slice_index c.loop-words.first.taken i) (λ i. t (0 + i)) (own_lanes count 0)
          (λ i h. let own : 0 + i < count = own_below count 0 i h in
          let few : i < 4 = omega (arith, h, own_few count 0) in
          let there : 0 < g.row.FOURS = omega (arith, own, lanes.enough) in
          own_took (w.0 there) (four_over (w.0 there) w.4 (over.first done) there) i few own),
      sum_agree (λ i. slice_index c.loop-words.second.taken i) (λ i. t (4 + i)) (own_lanes count 4)
          (λ i h. let own : 4 + i < count = own_below count 4 i h in
          let few : i < 4 = omega (arith, h, own_few count 4) in
          let there : 1 < g.row.FOURS = omega (arith, own, lanes.enough) in
          own_took (w.1 there) (four_over (w.1 there) w.4 (over.second done) there) i few own),
      sum_agree (λ i. slice_index c.loop-words.third.taken i) (λ i. t (8 + i)) (own_lanes count 8)
          (λ i h. let own : 8 + i < count = own_below count 8 i h in
          let few : i < 4 = omega (arith, h, own_few count 8) in
          let there : 2 < g.row.FOURS = omega (arith, own, lanes.enough) in
          own_took (w.2 there) (four_over (w.2 there) w.4 (over.third done) there) i few own),
      sum_agree (λ i. slice_index c.loop-words.fourth.taken i) (λ i. t (12 + i)) (own_lanes count 12)
          (λ i h. let own : 12 + i < count = own_below count 12 i h in
          let few : i < 4 = omega (arith, h, own_few count 12) in
          let there : 3 < g.row.FOURS = omega (arith, own, lanes.enough) in
          own_took (w.3 there) (four_over (w.3 there) w.4 (over.fourth done) there) i few own),
      sum_of_fours t count (omega (arith, lanes.enough, lanes.few)),
    )

pub returns-clause-limit : goal.returns-clause-limit
returns-clause-limit g c =
    let lanes = c.requires.lanes in
    omega (
      arith,
      c.end_in-taken.ensures.limit,
      c.end_in-taken-2.ensures.limit,
      c.end_in-taken-3.ensures.limit,
      c.end_in-taken-4.ensures.limit,
      own_of_fours c.args.count (omega (arith, lanes.enough, lanes.few)),
    )

pub returns-clause-steps : goal.returns-clause-steps
returns-clause-steps g c =
    omega (
      arith,
      c.loop-words.invariant.5,
      counted_is c.loop-words.first.taken c.lanes_of-own_first.result c.lanes_of-own_first.ensures.within,
      ap (λ (own : ℕ). sum_below (λ (i : ℕ). slice_index c.loop-words.first.taken i) own)
          c.lanes_of-own_first.ensures.value,
      c.end_in-taken.ensures.taken,
      counted_is c.loop-words.second.taken c.lanes_of-own_second.result c.lanes_of-own_second.ensures.within,
      ap (λ (own : ℕ). sum_below (λ (i : ℕ). slice_index c.loop-words.second.taken i) own)
          c.lanes_of-own_second.ensures.value,
      c.end_in-taken-2.ensures.taken,
      counted_is c.loop-words.third.taken c.lanes_of-own_third.result c.lanes_of-own_third.ensures.within,
      ap (λ (own : ℕ). sum_below (λ (i : ℕ). slice_index c.loop-words.third.taken i) own)
          c.lanes_of-own_third.ensures.value,
      c.end_in-taken-3.ensures.taken,
      counted_is c.loop-words.fourth.taken c.lanes_of-own_fourth.result c.lanes_of-own_fourth.ensures.within,
      ap (λ (own : ℕ). sum_below (λ (i : ℕ). slice_index c.loop-words.fourth.taken i) own)
          c.lanes_of-own_fourth.ensures.value,
      c.end_in-taken-4.ensures.taken,
    )
