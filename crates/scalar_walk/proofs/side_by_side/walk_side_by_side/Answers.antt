use Rattle.std.proofs.Common.{ℕ, List, length, arith, ap, ◌∙◌, ◌&&◌, eqb, not, refl}
use Rattle.table_sizes.specs.Groups.{max_key_len}
use Rattle.flat_table.specs.Word.{is_match}
use Rattle.scalar_walk.proofs.Ways.{IsWay}
use Rattle.scalar_walk.proofs.InStep.{way_of}
use Rattle.scalar_walk.proofs.LaneWalks.{SomeKeys}
use Rattle.scalar_walk.proofs.Sides.{at_most_one, rows_of, side_byte, side_node, side_there, sides_begin, sides_end}
use Rattle.scalar_walk.proofs.Sides.{sides_few, sides_go, sides_limit, sides_more, sides_took, so_many}
use Rattle.scalar_walk.proofs.Sides.{two_keys}
use Rattle.scalar_walk.proofs.side_by_side.walk_side_by_side.Goals as goal

pub loop-words-init : goal.loop-words-init
loop-words-init g c =
    let way = way_of c.args.table.now c.args.trie c.places-places.result.now c.words-words.result.now in
    let is_way : IsWay way = record {
      sound = c.root-root.ensures.sound;
      there = c.requires.trie;
      places_are = c.places-places.ensures.places;
      words_are = c.words-words.ensures;
    } in
    let keys_are : SomeKeys way c.args.keys.now c.args.count = record {
      whole = c.requires.keys;
      some = omega (arith, two_keys (so_many c.requires.three c.requires.count));
      bytes = λ k. omega (arith, c.type_inv.keys k);
    } in
    record {
      sides = sides_begin is_way keys_are (not (eqb g.row.THREE 0)) (not (eqb g.row.FOUR 0)) c.root-root.ensures.value;
      counted = omega arith;
    }

pub is_one_on_way-requires-clause-first : goal.is_one_on_way-requires-clause-first
is_one_on_way-requires-clause-first g c =
    side_node c.loop-words.invariant.sides.one refl

pub is_one_on_way-requires-clause-second : goal.is_one_on_way-requires-clause-second
is_one_on_way-requires-clause-second g c =
    side_node c.loop-words.invariant.sides.two refl

pub is_one_on_way-requires-clause-third : goal.is_one_on_way-requires-clause-third
is_one_on_way-requires-clause-third g c =
    side_node c.loop-words.invariant.sides.next

pub is_one_on_way-requires-clause-fourth : goal.is_one_on_way-requires-clause-fourth
is_one_on_way-requires-clause-fourth g c =
    side_node c.loop-words.invariant.sides.last

pub offset_bounds-places-n : goal.offset_bounds-places-n
offset_bounds-places-n g c =
    let s = c.loop-words.invariant.sides in
    let more = sides_more s c.is_one_on_way.ensures c.loop-words-test.true in
    omega (arith, more, c.places-places.ensures.bound)

pub bounds-places-n : goal.bounds-places-n
bounds-places-n g c =
    sides_more c.loop-words.invariant.sides c.is_one_on_way.ensures c.loop-words-test.true

pub bounds-keys-of_first : goal.bounds-keys-of_first
bounds-keys-of_first g c =
    let s = c.loop-words.invariant.sides in
    let more = sides_more s c.is_one_on_way.ensures c.loop-words-test.true in
    side_byte s.one more c.from-at.ensures c.begin_of-of_first.ensures
    c.key_len-len.ensures.value

pub go_on-first-requires-clause-node : goal.go_on-first-requires-clause-node
go_on-first-requires-clause-node g c =
    side_node c.loop-words.invariant.sides.one

pub go_on-first-requires-clause-there : goal.go_on-first-requires-clause-there
go_on-first-requires-clause-there g c =
    let s = c.loop-words.invariant.sides in
    let more = sides_more s c.is_one_on_way.ensures c.loop-words-test.true in
    side_there s.one more c.from-at.ensures c.begin_of-of_first.ensures
    c.key_len-len.ensures.value

pub go_on-first-requires-clause-few : goal.go_on-first-requires-clause-few
go_on-first-requires-clause-few g c =
    let s = c.loop-words.invariant.sides in
    let more = sides_more s c.is_one_on_way.ensures c.loop-words-test.true in
    let few = sides_few s max_key_len (omega (arith, more, c.places-places.ensures.bound)) in
    omega (arith, few)

pub bounds-keys-of_second : goal.bounds-keys-of_second
bounds-keys-of_second g c =
    let s = c.loop-words.invariant.sides in
    let more = sides_more s c.is_one_on_way.ensures c.loop-words-test.true in
    side_byte s.two more c.from-at.ensures c.begin_of-of_second.ensures
    c.key_len-len.ensures.value

pub go_on-second-requires-clause-node : goal.go_on-second-requires-clause-node
go_on-second-requires-clause-node g c =
    side_node c.loop-words.invariant.sides.two

pub go_on-second-requires-clause-there : goal.go_on-second-requires-clause-there
go_on-second-requires-clause-there g c =
    let s = c.loop-words.invariant.sides in
    let more = sides_more s c.is_one_on_way.ensures c.loop-words-test.true in
    side_there s.two more c.from-at.ensures c.begin_of-of_second.ensures
    c.key_len-len.ensures.value

pub go_on-second-requires-clause-few : goal.go_on-second-requires-clause-few
go_on-second-requires-clause-few g c =
    let s = c.loop-words.invariant.sides in
    let more = sides_more s c.is_one_on_way.ensures c.loop-words-test.true in
    let few = sides_few s max_key_len (omega (arith, more, c.places-places.ensures.bound)) in
    omega (arith, few, c.go_on-first.ensures.taken, at_most_one (not (is_match c.loop-words.first)))

pub bounds-keys-of_third : goal.bounds-keys-of_third
bounds-keys-of_third g c =
    let s = c.loop-words.invariant.sides in
    let more = sides_more s c.is_one_on_way.ensures c.loop-words-test.true in
    side_byte s.next more c.from-at.ensures c.begin_of-of_third.ensures
    c.key_len-len.ensures.value

pub go_on-third-requires-clause-node : goal.go_on-third-requires-clause-node
go_on-third-requires-clause-node g c =
    side_node c.loop-words.invariant.sides.next

pub go_on-third-requires-clause-there : goal.go_on-third-requires-clause-there
go_on-third-requires-clause-there g c =
    let s = c.loop-words.invariant.sides in
    let more = sides_more s c.is_one_on_way.ensures c.loop-words-test.true in
    side_there s.next more c.from-at.ensures c.begin_of-of_third.ensures
    c.key_len-len.ensures.value

pub go_on-third-requires-clause-few : goal.go_on-third-requires-clause-few
go_on-third-requires-clause-few g c =
    let s = c.loop-words.invariant.sides in
    let more = sides_more s c.is_one_on_way.ensures c.loop-words-test.true in
    let few = sides_few s max_key_len (omega (arith, more, c.places-places.ensures.bound)) in
    omega (
      arith,
      few,
      c.go_on-first.ensures.taken,
      at_most_one (not (is_match c.loop-words.first)),
      c.go_on-second.ensures.taken,
      at_most_one (not (is_match c.loop-words.second)),
    )

pub bounds-keys-of_fourth : goal.bounds-keys-of_fourth
bounds-keys-of_fourth g c =
    let s = c.loop-words.invariant.sides in
    let more = sides_more s c.is_one_on_way.ensures c.loop-words-test.true in
    side_byte s.last more c.from-at.ensures c.begin_of-of_fourth.ensures
    c.key_len-len.ensures.value

pub go_on-fourth-requires-clause-node : goal.go_on-fourth-requires-clause-node
go_on-fourth-requires-clause-node g c =
    side_node c.loop-words.invariant.sides.last

pub go_on-fourth-requires-clause-there : goal.go_on-fourth-requires-clause-there
go_on-fourth-requires-clause-there g c =
    let s = c.loop-words.invariant.sides in
    let more = sides_more s c.is_one_on_way.ensures c.loop-words-test.true in
    side_there s.last more c.from-at.ensures c.begin_of-of_fourth.ensures
    c.key_len-len.ensures.value

pub go_on-fourth-requires-clause-few : goal.go_on-fourth-requires-clause-few
go_on-fourth-requires-clause-few g c =
    let s = c.loop-words.invariant.sides in
    let more = sides_more s c.is_one_on_way.ensures c.loop-words-test.true in
    let few = sides_few s max_key_len (omega (arith, more, c.places-places.ensures.bound)) in
    omega (
      arith,
      few,
      c.go_on-first.ensures.taken,
      at_most_one (not (is_match c.loop-words.first)),
      c.go_on-second.ensures.taken,
      at_most_one (not (is_match c.loop-words.second)),
      c.go_on-third.ensures.taken,
      at_most_one (not (eqb g.row.THREE 0) && not (is_match c.loop-words.third)),
    )

pub overflow_add-n : goal.overflow_add-n
overflow_add-n g c =
    let s = c.loop-words.invariant.sides in
    let more = sides_more s c.is_one_on_way.ensures c.loop-words-test.true in
    omega (arith, more, c.places-places.ensures.bound)

pub loop-words-smaller : goal.loop-words-smaller
loop-words-smaller g c =
    let s = c.loop-words.invariant.sides in
    let more = sides_more s c.is_one_on_way.ensures c.loop-words-test.true in
    omega (arith, more, ap (λ (xs : List ℕ). length xs) c.places-places.ensures.places)

pub loop-words-preserved : goal.loop-words-preserved
loop-words-preserved g c =
    let s = c.loop-words.invariant.sides in
    let more = sides_more s c.is_one_on_way.ensures c.loop-words-test.true in
    record {
      sides = sides_go s more c.from-at.ensures c.key_len-len.ensures.value c.begin_of-of_first.ensures
          c.begin_of-of_second.ensures c.begin_of-of_third.ensures c.begin_of-of_fourth.ensures
          c.go_on-first.ensures.word c.go_on-second.ensures.word c.go_on-third.ensures.word c.go_on-fourth.ensures.word
          (omega (
            arith,
            c.go_on-first.ensures.taken,
            c.go_on-second.ensures.taken,
            c.go_on-third.ensures.taken,
            c.go_on-fourth.ensures.taken,
          ));
      counted = omega (
        arith,
        c.loop-words.invariant.counted,
        c.go_on-first.ensures.steps,
        c.go_on-second.ensures.steps,
        c.go_on-third.ensures.steps,
        c.go_on-fourth.ensures.steps,
      );
    }

pub returns-clause-taken : goal.returns-clause-taken
returns-clause-taken g c =
    sides_took c.loop-words.invariant.sides (so_many c.requires.three c.requires.count) c.is_one_on_way.ensures
    c.loop-words-test.false

pub returns-clause-limit : goal.returns-clause-limit
returns-clause-limit g c =
    let s = c.loop-words.invariant.sides in
    sides_limit s (so_many c.requires.three c.requires.count)
    (omega (arith, s.one.within, c.places-places.ensures.bound))

pub returns-clause-steps : goal.returns-clause-steps
returns-clause-steps g c =
    c.loop-words.invariant.counted

pub returns-clause-rows : goal.returns-clause-rows
returns-clause-rows g c =
    let s = c.loop-words.invariant.sides in
    let r = rows_of c.index_of.result c.index_of-2.result c.index_of-3.result c.index_of-4.result c.args.rows.now
    (omega arith) in
    sides_end s (so_many c.requires.three c.requires.count) c.is_one_on_way.ensures
    c.loop-words-test.false _ (r.0 ∙ c.index_of.ensures.value) (r.1 ∙ c.index_of-2.ensures.value)
    (r.2 ∙ c.index_of-3.ensures.value) (r.3 ∙ c.index_of-4.ensures.value)
