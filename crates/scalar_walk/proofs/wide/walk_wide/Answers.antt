use Rattle.std.proofs.Common.{◌≡◌, ◌⊎◌, ◌+◌, ◌*◌, ◌<◌, ◌≤◌, ℕ, List, arith, ap, sym, ◌∙◌, length, subst, inl, inr, [], ◌∷◌}
use Rattle.std.specs.Prelude.{slice_index}
use Rattle.flat_table.specs.Batch.{key_at}
use Rattle.flat_table.specs.Walk.{walk_transitions}
use Rattle.flat_table.proofs.Offered.{transitions_bound}
use Rattle.std.proofs.lemmas.List.{get_or-replicate}
use Rattle.std.proofs.lemmas.Bool.{cases_lt}
use Rattle.scalar_walk.specs.Wide.{going, together}
use Rattle.scalar_walk.proofs.InStep.{way_of}
use Rattle.scalar_walk.proofs.Counted.{four_of}
use Rattle.scalar_walk.proofs.LaneWalks.{SomeKeys}
use Rattle.scalar_walk.proofs.Ranks.{AreRead, Ranks, all_taken, all_took, fours_of, none_took, ranks_begin, ranks_closed}
use Rattle.scalar_walk.proofs.Ranks.{ranks_count, ranks_over, ranks_read, ranks_ready, ranks_rows}
use Rattle.scalar_walk.proofs.Ranks.{ranks_there, ranks_went, sum_few}
use Rattle.scalar_walk.proofs.Ways.{IsWay}
use Rattle.scalar_walk.proofs.wide.walk_wide.Goals.{then-loop-n-test+else-left-gt0, else-loop-n-test}
use Rattle.scalar_walk.proofs.wide.walk_wide.Goals as goal

pub loop-n-init : goal.loop-n-init
loop-n-init g c =
    let way = way_of c.args.table.now c.args.trie c.places-places.result.now c.words-words.result.now in
    let is_way : IsWay way = record {
      sound = c.root.ensures.sound;
      there = c.requires.trie;
      places_are = c.places-places.ensures.places;
      words_are = c.words-words.ensures;
    } in
    let keys_are : SomeKeys way c.args.keys.now c.args.count = record {
      whole = c.requires.keys;
      some = c.requires.lanes.some;
      bytes = λ k. omega (arith, c.type_inv.keys k);
    } in
    let begun = c.begin.ensures in
    let no : ℕ = 0 in
    let low = λ (j : ℕ) (past : c.args.count ≤ j) (h : j < 64). begun.lows j past ∙ c.none-lanes.ensures.lows j h in
    let none : together (0 ∷ 0 ∷ 0 ∷ 0 ∷ []) ≡ 0 = four_of (slice_index (0 ∷ 0 ∷ 0 ∷ 0 ∷ [])) in (
      ranks_begin is_way keys_are c.requires.lanes.few c.root.ensures.value begun.words
          (λ j past h. omega (arith, low j past h, begun.highs j past, c.none-lanes.ensures.highs j h))
          (λ j h. elim (cases_lt j c.args.count) [
            | inl own ↦ begun.small j own
            | inr past ↦ omega (arith, low j past h)
          ])
          begun.keys c.args.rows.now,
      omega arith,
      c.requires.room,
      none ∙ sym (none_took way c.args.keys.now c.args.count),
      λ i h. let zero : slice_index (0 ∷ 0 ∷ 0 ∷ 0 ∷ []) i ≡ 0 = get_or-replicate 4 i no no h in omega (arith, zero),
      omega (arith, none),
    )

pub read-requires-clause-keys : goal.read-requires-clause-keys
read-requires-clause-keys g c j h =
    let r = c.loop-n.invariant.0 in
    let next = c.group_len-read.ensures in
    ranks_there r c.key_len-len.ensures.value next.some next.within next.follow c.from-from.ensures j
    (omega (arith, h, c.div_ceil-fours.ensures, r.few, r.most))

pub loop-place-init : goal.loop-place-init
loop-place-init g c =
    let way = way_of c.args.table.now c.args.trie c.places-places.result.now c.words-words.result.now in
    let l = c.loop-n.invariant in
    let next = c.group_len-read.ensures in
    let same : c.loop-n.n ≡ c.loop-n.n + 0 = omega arith in
    let fours : c.div_ceil-fours.result ≡ fours_of c.loop-n.left = omega (arith, c.div_ceil-fours.ensures) in (
      subst (λ (m : ℕ). Ranks way c.args.keys.now c.args.count c.loop-n.left m c.loop-n.lanes c.loop-n.rows) same l.0,
      subst
          (λ (f : ℕ). AreRead way c.args.keys.now f c.loop-n.n c.group_len-read.result c.loop-n.lanes.keys
          c.read.new.groups)
          fours
          (ranks_read c.loop-n.lanes c.read.new.groups c.key_len-len.ensures.value next.within next.follow
          c.from-from.ensures c.read.ensures),
      l.2,
      l.3 ∙ ap (λ (m : ℕ). all_took way c.args.keys.now c.args.count m) same,
      λ i h. omega (arith, l.4 i h),
      l.5,
    )

pub take-taken-requires-clause-ready : goal.take-taken-requires-clause-ready
take-taken-requires-clause-ready g c f i there few =
    let l = c.loop-place.invariant in
    let fours : c.div_ceil-fours.result ≡ fours_of c.loop-n.left = omega (arith, c.div_ceil-fours.ensures) in
    ranks_ready l.0 l.1 c.loop-place-test.true c.walks_stay.ensures c.aim.new.at
    (λ f i there few. c.aim.ensures f i (omega (arith, there, fours)) few) f i (omega (arith, there, fours)) few

pub loop-place-preserved : goal.loop-place-preserved
loop-place-preserved g c =
    let way = way_of c.args.table.now c.args.trie c.places-places.result.now c.words-words.result.now in
    let l = c.loop-place.invariant in
    let took = c.take-taken.ensures in
    let fours : c.div_ceil-fours.result ≡ fours_of c.loop-n.left = omega (arith, c.div_ceil-fours.ensures) in
    let n : ℕ = c.loop-n.n + c.loop-place.place in
    let next : n + 1 ≡ c.loop-n.n + (c.loop-place.place + 1) = omega arith in
    let within : n < length way.places = omega (arith, l.1.within, c.loop-place-test.true) in (
      ranks_went l.0 l.1 c.loop-place-test.true c.walks_stay.ensures c.aim.new.at
          (λ f i there few. c.aim.ensures f i (omega (arith, there, fours)) few)
          (λ f i there few. took.words f i (omega (arith, there, fours)) few)
          (λ j past. took.others j (omega (arith, past, fours)))
          (λ j h. took.small j (omega (arith, h, fours))) took.keys,
      subst
          (λ (numbers : List ℕ). AreRead way c.args.keys.now (fours_of c.loop-n.left) c.loop-n.n c.group_len-read.result
          numbers c.read.new.groups)
          (sym took.keys) l.1,
      l.2,
      omega (
        arith,
        took.taken,
        ap (λ (f : ℕ). going c.loop-place.lanes (4 * f)) fours,
        l.3,
        ranks_count l.0 within,
        ap (λ (m : ℕ). all_took way c.args.keys.now c.args.count m) next,
      ),
      λ i h. omega (arith, took.few i h, l.4 i h, fours, l.0.few, l.0.most),
      omega (arith, took.steps, took.taken, l.5),
    )

pub loop-n-preserved-then-ended-left : goal.loop-n-preserved-then-ended-left
loop-n-preserved-then-ended-left g c =
    let way = way_of c.args.table.now c.args.trie c.places-places.result.now c.words-words.result.now in
    let l = c.loop-place.invariant in
    let all : c.loop-place.place ≡ c.group_len-read.result = omega arith in
    let closed = c.close_ranks-left.ensures in (
      subst
          (λ (place : ℕ). Ranks way c.args.keys.now c.args.count c.close_ranks-left.result (c.loop-n.n + place)
          c.close_ranks-left.new.self c.close_ranks-left.new.rows)
          all (ranks_closed l.0 closed.closed closed.over),
      omega (arith, c.group_len-read.ensures.within),
      closed.closed.written.len ∙ l.2,
      l.3 ∙ ap (λ (place : ℕ). all_took way c.args.keys.now c.args.count (c.loop-n.n + place)) all,
      λ i h. omega (arith, l.4 i h, all),
      l.5,
    )

pub loop-n-preserved : goal.loop-n-preserved
loop-n-preserved g c =
    let way = way_of c.args.table.now c.args.trie c.places-places.result.now c.words-words.result.now in
    let l = c.loop-place.invariant in
    let all : c.loop-place.place ≡ c.group_len-read.result = omega arith in (
      subst
          (λ (place : ℕ). Ranks way c.args.keys.now c.args.count c.loop-n.left (c.loop-n.n + place) c.loop-place.lanes
          c.loop-n.rows)
          all l.0,
      omega (arith, c.group_len-read.ensures.within),
      l.2,
      l.3 ∙ ap (λ (place : ℕ). all_took way c.args.keys.now c.args.count (c.loop-n.n + place)) all,
      λ i h. omega (arith, l.4 i h, all),
      l.5,
    )

pub returns-clause-rows : goal.returns-clause-rows
returns-clause-rows g c =
    let l = c.loop-n.invariant in
    let past : (c.loop-n.n ≡ length c.places-places.result.now) ⊎ (c.loop-n.left ≡ 0) =
    elim c.loop-n-test.branch [
      | then-loop-n-test+else-left-gt0 w ↦ inr (omega (arith, w.if-left-gt0.false))
      | else-loop-n-test w ↦ inl (omega (arith, w.loop-n-test.false, l.1))
    ] in
    ranks_rows l.0 (ranks_over l.0 past) c.write_rows.ensures

pub returns-clause-taken : goal.returns-clause-taken
returns-clause-taken g c =
    let l = c.loop-n.invariant in
    let past : (c.loop-n.n ≡ length c.places-places.result.now) ⊎ (c.loop-n.left ≡ 0) =
    elim c.loop-n-test.branch [
      | then-loop-n-test+else-left-gt0 w ↦ inr (omega (arith, w.if-left-gt0.false))
      | else-loop-n-test w ↦ inl (omega (arith, w.loop-n-test.false, l.1))
    ] in
    c.sum_of.ensures ∙ l.3 ∙ all_taken c.args.count (ranks_over l.0 past)

pub returns-clause-limit : goal.returns-clause-limit
returns-clause-limit g c =
    let table = c.args.table.now in
    let few = sum_few (λ k. walk_transitions table c.args.trie (key_at table c.args.keys.now k)) c.args.count
    (λ k h. omega (
      arith,
      transitions_bound table c.args.trie (key_at table c.args.keys.now k),
      c.places-places.ensures.bound,
      ap (λ (xs : List ℕ). length xs) c.places-places.ensures.places,
    )) in
    omega (arith, few, returns-clause-taken g c)
