use Rattle.std.proofs.Common.{◌<◌, ◌+◌, ℕ, List, length, arith, sym, ap, subst, ◌∙◌}
use Rattle.flat_table.proofs.Offered.{places_bound}
use Rattle.scalar_walk.proofs.Walks.{root_walks, at_node, one_more, byte_there, word_there, walks_on, row_of_match}
use Rattle.scalar_walk.proofs.Walks.{Walks, transitions_of_match}
use Rattle.scalar_walk.proofs.Ways.{Way}
use Rattle.scalar_walk.proofs.walk.walk_one.Goals as goal

pub loop-words-init : goal.loop-words-init
loop-words-init g c = record {
  walks = root_walks
      record {
        sound = c.root-word.ensures.sound;
        there = c.requires.trie;
        places_are = c.places-places.ensures.places;
        words_are = c.words-words.ensures;
      } c.args.key.now c.root-word.result c.requires.key (λ k. omega (arith, c.type_inv.key k))
      c.root-word.ensures.value;
  counted = omega arith;
}

pub is_end-requires : goal.is_end-requires
is_end-requires g c = at_node c.loop-words.invariant.walks

pub offset_bounds-places-taken : goal.offset_bounds-places-taken
offset_bounds-places-taken g c =
    omega (arith, one_more c.loop-words.invariant.walks (sym c.is_end.ensures ∙ c.loop-words-test.true))

pub bounds-places-taken : goal.bounds-places-taken
bounds-places-taken g c = one_more c.loop-words.invariant.walks (sym c.is_end.ensures ∙ c.loop-words-test.true)

pub bounds-key-from : goal.bounds-key-from
bounds-key-from g c =
    byte_there c.loop-words.invariant.walks (sym c.is_end.ensures ∙ c.loop-words-test.true) c.from.ensures

pub place_after-place-requires : goal.place_after-place-requires
place_after-place-requires g c = at_node c.loop-words.invariant.walks (sym c.is_end.ensures ∙ c.loop-words-test.true)

pub take_word-word-requires : goal.take_word-word-requires
take_word-word-requires g c =
    word_there c.loop-words.invariant.walks (sym c.is_end.ensures ∙ c.loop-words-test.true) c.from.ensures
    c.place_after-place.ensures

pub overflow_add-taken : goal.overflow_add-taken
overflow_add-taken g c =
    omega (arith, one_more c.loop-words.invariant.walks (sym c.is_end.ensures ∙ c.loop-words-test.true))

pub loop-words-smaller : goal.loop-words-smaller
loop-words-smaller g c =
    let on : c.loop-words.taken < length c.places-places.result.now =
    one_more c.loop-words.invariant.walks (sym c.is_end.ensures ∙ c.loop-words-test.true) in
    omega (arith, on, ap (λ (xs : List ℕ). length xs) c.places-places.ensures.places)

pub loop-words-preserved : goal.loop-words-preserved
loop-words-preserved g c =
    let way : Way = record {
      table = c.args.table.now;
      trie = c.args.trie;
      places = c.places-places.result.now;
      words = c.words-words.result.now;
    } in
    record {
      walks = subst (λ (word : ℕ). Walks way c.args.key.now (c.loop-words.taken + 1) word)
          (sym c.take_word-word.ensures.word)
          (walks_on c.loop-words.invariant.walks (sym c.is_end.ensures ∙ c.loop-words-test.true) c.from.ensures
          c.place_after-place.ensures);
      counted = omega (arith, c.loop-words.invariant.counted, c.take_word-word.ensures.steps);
    }

pub overflow_cast-result-2 : goal.overflow_cast-result-2
overflow_cast-result-2 g c = omega (arith, ap (λ (xs : List ℕ). length xs) c.places-places.ensures.places)

pub returns-clause-row : goal.returns-clause-row
returns-clause-row g c =
    c.index_of.ensures.value
    ∙ row_of_match c.loop-words.invariant.walks (sym c.is_end.ensures ∙ c.loop-words-test.false)

pub returns-clause-taken : goal.returns-clause-taken
returns-clause-taken g c =
    transitions_of_match c.loop-words.invariant.walks (sym c.is_end.ensures ∙ c.loop-words-test.false)

pub returns-clause-steps : goal.returns-clause-steps
returns-clause-steps g c =
    omega (arith, transitions_of_match c.loop-words.invariant.walks (sym c.is_end.ensures ∙ c.loop-words-test.false))

pub returns-clause-there : goal.returns-clause-there
returns-clause-there g c =
    omega (
      arith,
      c.loop-words.invariant.walks.stands.row (sym c.is_end.ensures ∙ c.loop-words-test.false),
      c.index_of.ensures.value,
    )

pub returns-clause-short : goal.returns-clause-short
returns-clause-short g c = omega (arith, places_bound c.args.table.now c.args.trie)

pub returns-clause-limit : goal.returns-clause-limit
returns-clause-limit g c = omega (arith, ap (λ (xs : List ℕ). length xs) c.places-places.ensures.places)
