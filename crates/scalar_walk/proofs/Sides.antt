-- Two to four walks side by side, each of a key of its own.
use Rattle.std.proofs.Common.{◌≡◌, ◌⊎◌, ℕ, zero, suc, ◌+◌, ◌*◌, ◌<◌, ◌≤◌, Bool, true, false, List, [], ◌∷◌, refl, sym, ap, ◌∙◌}
use Rattle.std.proofs.Common.{arith, subst, length, drop, inl, inr, get_or, set}
use Rattle.std.specs.Prelude.{slice_index, if◌then◌else◌, ◌&&◌, ◌||◌, not}
use Rattle.std.proofs.lemmas.List.{get_or-take, get_or-drop}
use Rattle.std.proofs.Math.Nat.{eq-or-lt_of_le, mul-le-mul_right}
use Rattle.table_sizes.specs.Groups.{max_key_len}
use Rattle.flat_table.specs.Word.{index_of, is_match, is_node, next_place}
use Rattle.flat_table.specs.Table.{level_of, places_of}
use Rattle.flat_table.specs.Walk.{moved, root_of, transitions_after, walk_transitions}
use Rattle.flat_table.specs.Batch.{key_at}
use Rattle.flat_table.proofs.Offered.{Stands, begins, ends_at_match, row_at_match, transitions_at_match}
use Rattle.scalar_walk.specs.Lanes.{lane_key, sum_below}
use Rattle.scalar_walk.specs.Rows.{EndsAt, walks_below}
use Rattle.scalar_walk.proofs.Below.{sum_more, sum_none}
use Rattle.scalar_walk.proofs.LaneWalks.{SomeKeys}
use Rattle.scalar_walk.proofs.LaneKeys.{lane_own, lane_within}
use Rattle.scalar_walk.proofs.Walks.{leads_to_node}
use Rattle.scalar_walk.proofs.Ways.{Way, IsWay, Step, step, count_of_places, place_in_key}

-- the key that a lane walks of so many
abbrev pub key_of : Way → List ℕ → ℕ → ℕ → List ℕ
key_of way keys count lane = key_at way.table keys (lane_key count lane)

-- a walk of a lane's key, if it is there, stands at the word after n bytes
pub record Side (there : Bool) (way : Way) (keys : List ℕ) (count lane n word : ℕ) : Type 0 where
  pub is_way : IsWay way
  pub keys_are : SomeKeys way keys count
  pub within : n ≤ length way.places
  pub stands : there ≡ true → Stands way.table way.trie (key_of way keys count lane) n word

-- how many words it took for them
abbrev pub took_of : Bool → Way → List ℕ → ℕ → ℕ
took_of there way key n = if there then transitions_after way.table way.trie key n else 0

-- it begins at the root
side_begins : {way : Way} {keys : List ℕ} {count root : ℕ} → IsWay way → SomeKeys way keys count → (there : Bool)
    (lane : ℕ) → root ≡ root_of way.table way.trie → Side there way keys count lane 0 root
side_begins {way = way} {keys = keys} {count = count} w k there lane is = record {
  is_way = w;
  keys_are = k;
  within = omega arith;
  stands = λ h. subst (Stands way.table way.trie (key_of way keys count lane) 0) (sym is)
      (begins way.table way.trie (key_of way keys count lane) w.sound w.there);
}

-- and has taken nothing
side_none : (there : Bool) (way : Way) (key : List ℕ) → took_of there way key 0 ≡ 0
side_none true way key = refl
side_none false way key = refl

module _ {there : Bool} {way : Way} {keys : List ℕ} {count lane n word : ℕ}
    (s : Side there way keys count lane n word) where
  -- where no match stands, a node does
  pub side_node : there ≡ true → is_match word ≡ false → is_node word ≡ true
  side_node h no_match = leads_to_node (level_of way.table way.trie n) word ((s.stands h).level no_match)

  -- and there is a place more
  side_more : there ≡ true → is_match word ≡ false → n < length way.places
  side_more h no_match =
      elim (eq-or-lt_of_le s.within) [
        | inl e ↦
            let key : List ℕ = key_of way keys count lane in
            let all : n ≡ length (places_of way.table way.trie) = e ∙ count_of_places way s.is_way in
            let last = subst (λ (k : ℕ). Stands way.table way.trie key k word) all (s.stands h) in
            let match = ends_at_match way.table way.trie key s.is_way.sound s.is_way.there word last in
            absurd (cc (match, no_match))
        | inr below ↦ below
      ]

  module _ {from at len : ℕ} (more : n < length way.places) (from_is : from ≡ slice_index way.places n)
      (at_is : at ≡ lane_key count lane * len) (len_is : len ≡ way.table.key_len) where
    -- where the key begins
    begun : at ≡ lane_key count lane * way.table.key_len
    begun = at_is ∙ ap (λ (size : ℕ). lane_key count lane * size) len_is

    -- the next byte is one of the keys
    pub side_byte : at + from < length keys
    side_byte =
        omega (
          arith,
          mul-le-mul_right way.table.key_len (lane_within count lane s.keys_are.some),
          place_in_key s.is_way n from more from_is,
          begun,
          s.keys_are.whole,
        )

    -- what it brings
    side_step : there ≡ true → Step way (key_of way keys count lane) n from (slice_index keys (at + from)) word
    side_step h =
        let size : ℕ = way.table.key_len in
        let begin : ℕ = lane_key count lane * size in
        let byte : slice_index keys (at + from) ≡ slice_index (key_of way keys count lane) from =
        ap (λ (k : ℕ). slice_index keys (k + from)) begun
        ∙ sym (get_or-take size (drop begin keys) from 0 (place_in_key s.is_way n from more from_is)
        ∙ get_or-drop begin keys from 0) in
        step s.is_way (key_of way keys count lane) n from (slice_index keys (at + from)) word more from_is byte
        (s.keys_are.bytes (at + from)) (s.stands h)

    -- the word to which it leads is there
    pub side_there : there ≡ true → is_match word ≡ false →
        next_place word (slice_index keys (at + from)) < length way.words
    side_there h no_match = (side_step h).in_words no_match

    -- the walk stands at it then
    side_goes : {next : ℕ} → (there ≡ true → next ≡ moved way.words word (slice_index keys (at + from))) →
        Side there way keys count lane (n + 1) next
    side_goes is = record {
      is_way = s.is_way;
      keys_are = s.keys_are;
      within = omega (arith, more);
      stands = λ h. subst (Stands way.table way.trie (key_of way keys count lane) (n + 1)) (sym (is h))
          (side_step h).next;
    }

    -- and has taken one word more, if it was on its way
    side_takes : took_of there way (key_of way keys count lane) (n + 1)
        ≡ took_of there way (key_of way keys count lane) n + (if there && not (is_match word) then 1 else 0)
    side_takes = takes there (is_match word) _ _ (λ h. (side_step h).steps)
      where
        takes : (b match : Bool) (m k : ℕ) → (b ≡ true → m ≡ k + (if match then 0 else 1)) →
            (if b then m else 0) ≡ (if b then k else 0) + (if b && not match then 1 else 0)
        takes true true m k is = is refl
        takes true false m k is = is refl
        takes false match m k is = refl

  module _ (h : there ≡ true) (own : lane < count) (match : is_match word ≡ true) where
    -- a match ends it at the row that it names
    side_ends : {row : ℕ} → row ≡ index_of word → EndsAt way.table way.trie (key_at way.table keys lane) row
    side_ends {row = row} is =
        let key : List ℕ = key_of way keys count lane in
        let at = s.stands h in
        subst (λ (k : ℕ). EndsAt way.table way.trie (key_at way.table keys k) row) (lane_own count lane own)
        record {
          is = is ∙ ap index_of at.is ∙ sym (row_at_match way.table way.trie key n (rw (sym at.is) match));
          there = omega (arith, is, at.row match);
        }

    -- after all its transitions
    side_took : took_of there way (key_of way keys count lane) n
        ≡ walk_transitions way.table way.trie (key_at way.table keys lane)
    side_took =
        let key : List ℕ = key_of way keys count lane in
        ap (λ (b : Bool). took_of b way key n) h
        ∙ sym (transitions_at_match way.table way.trie key n (rw (sym (s.stands h).is) match))
        ∙ ap (λ (k : ℕ). walk_transitions way.table way.trie (key_at way.table keys k)) (lane_own count lane own)

-- ---- two walks and, if they are there, a third and a fourth

-- how many keys they walk
abbrev pub count_of : Bool → Bool → ℕ
count_of three four = if four then 4 else if three then 3 else 2

-- where they stand after n bytes each, and how many words they took together
pub record Sides (three four : Bool) (way : Way) (keys : List ℕ) (count n first second third fourth taken : ℕ) : Type 0
  where
    pub one : Side true way keys count 0 n first
    pub two : Side true way keys count 1 n second
    pub next : Side three way keys count 2 n third
    pub last : Side four way keys count 3 n fourth
    pub taken_is : taken ≡ took_of true way (key_of way keys count 0) n + took_of true way (key_of way keys count 1) n
        + took_of three way (key_of way keys count 2) n + took_of four way (key_of way keys count 3) n
    pub few : taken ≤ 2 * n + (if three then n else 0) + (if four then n else 0)

-- they begin at the root
pub sides_begin : {way : Way} {keys : List ℕ} {count root : ℕ} → IsWay way → SomeKeys way keys count →
    (three four : Bool) → root ≡ root_of way.table way.trie → Sides three four way keys count 0 root root root root 0
sides_begin {way = way} {keys = keys} {count = count} w k three four is = record {
  one = side_begins w k true 0 is;
  two = side_begins w k true 1 is;
  next = side_begins w k three 2 is;
  last = side_begins w k four 3 is;
  taken_is = omega (
    arith,
    side_none true way (key_of way keys count 0),
    side_none true way (key_of way keys count 1),
    side_none three way (key_of way keys count 2),
    side_none four way (key_of way keys count 3),
  );
  few = omega arith;
}

-- a test counts as at most 1
pub at_most_one : (b : Bool) → (if b then 1 else 0) ≤ 1
at_most_one true = omega arith
at_most_one false = omega arith

-- so does that of a walk, and as nothing if it isn't there
pub at_most_there : (there b : Bool) (n : ℕ) →
    (if there then n else 0) + (if there && b then 1 else 0) ≤ (if there then n + 1 else 0)
at_most_there true true n = omega arith
at_most_there true false n = omega arith
at_most_there false b n = omega arith

-- what is counted if something is there is no more than it
pub at_most_all : (b : Bool) (k : ℕ) → (if b then k else 0) ≤ k
at_most_all true k = omega arith
at_most_all false k = omega arith

-- one of four walks is on its way
on_way : (a b there c here d : Bool) → (not a || not b || there && not c || here && not d) ≡ true →
    (a ≡ false) ⊎ ((b ≡ false) ⊎ (((there ≡ true) × (c ≡ false)) ⊎ ((here ≡ true) × (d ≡ false))))
on_way false b there c here d e = inl refl
on_way true false there c here d e = inr (inl refl)
on_way true true true false here d e = inr (inr (inl (refl, refl)))
on_way true true true true true false e = inr (inr (inr (refl, refl)))
on_way true true false c true false e = inr (inr (inr (refl, refl)))
on_way true true true true true true e = absurd (cc e)
on_way true true true true false d e = absurd (cc e)
on_way true true false c true true e = absurd (cc e)
on_way true true false c false d e = absurd (cc e)

-- none of four walks is
pub record NoneOnWay (a b there c here d : Bool) : Type 0 where
  pub one : a ≡ true
  pub two : b ≡ true
  pub next : there ≡ true → c ≡ true
  pub last : here ≡ true → d ≡ true

none_on_way : (a b there c here d : Bool) → (not a || not b || there && not c || here && not d) ≡ false →
    NoneOnWay a b there c here d
none_on_way false b there c here d e = absurd (cc e)
none_on_way true false there c here d e = absurd (cc e)
none_on_way true true true false here d e = absurd (cc e)
none_on_way true true true true true false e = absurd (cc e)
none_on_way true true false c true false e = absurd (cc e)
none_on_way true true true true true true e = record {
  one = refl;
  two = refl;
  next = λ h. refl;
  last = λ h. refl;
}
none_on_way true true true true false d e = record {
  one = refl;
  two = refl;
  next = λ h. refl;
  last = λ h. absurd (cc h);
}
none_on_way true true false c true true e = record {
  one = refl;
  two = refl;
  next = λ h. absurd (cc h);
  last = λ h. refl;
}
none_on_way true true false c false d e = record {
  one = refl;
  two = refl;
  next = λ h. absurd (cc h);
  last = λ h. absurd (cc h);
}

module _ {three four : Bool} {way : Way} {keys : List ℕ} {count n first second third fourth taken : ℕ}
    (s : Sides three four way keys count n first second third fourth taken) where
  -- as long as one is on its way there is a place more
  pub sides_more : {some : Bool} → some ≡ (not (is_match first) || not (is_match second)
      || three && not (is_match third) || four && not (is_match fourth)) → some ≡ true → n < length way.places
  sides_more is e =
      elim (on_way (is_match first) (is_match second) three (is_match third) four (is_match fourth) (sym is ∙ e)) [
        | inl free ↦ side_more s.one refl free
        | inr later ↦
            elim later [
              | inl free ↦ side_more s.two refl free
              | inr rest ↦
                  elim rest [
                    | inl free ↦ side_more s.next free.0 free.1
                    | inr free ↦ side_more s.last free.0 free.1
                  ]
            ]
      ]

  -- they took few words so far
  pub sides_few : (m : ℕ) → n < m → taken + 3 ≤ 4 * m
  sides_few m below = omega (arith, s.few, below, at_most_all three n, at_most_all four n)

  -- each goes on by its byte
  pub sides_go : {from len at_first at_second at_third at_fourth : ℕ} → n < length way.places →
      from ≡ slice_index way.places n → len ≡ way.table.key_len → at_first ≡ lane_key count 0 * len →
      at_second ≡ lane_key count 1 * len → at_third ≡ lane_key count 2 * len → at_fourth ≡ lane_key count 3 * len →
      {next_first next_second next_third next_fourth now : ℕ} →
      (true ≡ true → next_first ≡ moved way.words first (slice_index keys (at_first + from))) →
      (true ≡ true → next_second ≡ moved way.words second (slice_index keys (at_second + from))) →
      (three ≡ true → next_third ≡ moved way.words third (slice_index keys (at_third + from))) →
      (four ≡ true → next_fourth ≡ moved way.words fourth (slice_index keys (at_fourth + from))) →
      now ≡ taken + (if true && not (is_match first) then 1 else 0) + (if true && not (is_match second) then 1 else 0)
      + (if three && not (is_match third) then 1 else 0) + (if four && not (is_match fourth) then 1 else 0) →
      Sides three four way keys count (n + 1) next_first next_second next_third next_fourth now
  sides_go more from_is len_is first_at second_at third_at fourth_at first_is second_is third_is fourth_is now_is =
      record {
        one = side_goes s.one more from_is first_at len_is first_is;
        two = side_goes s.two more from_is second_at len_is second_is;
        next = side_goes s.next more from_is third_at len_is third_is;
        last = side_goes s.last more from_is fourth_at len_is fourth_is;
        taken_is = omega (
          arith,
          now_is,
          s.taken_is,
          side_takes s.one more from_is first_at len_is,
          side_takes s.two more from_is second_at len_is,
          side_takes s.next more from_is third_at len_is,
          side_takes s.last more from_is fourth_at len_is,
        );
        few = omega (
          arith,
          now_is,
          s.few,
          at_most_one (true && not (is_match first)),
          at_most_one (true && not (is_match second)),
          at_most_there three (not (is_match third)) n,
          at_most_there four (not (is_match fourth)) n,
        );
      }

module _ (a b c d : ℕ) where
  -- four rows are written at the first four places
  pub rows_of : (rows : List ℕ) → 4 ≤ length rows → (get_or (set (set (set (set rows 0 a) 1 b) 2 c) 3 d) 0 0 ≡ a)
      × (get_or (set (set (set (set rows 0 a) 1 b) 2 c) 3 d) 1 0 ≡ b)
      × (get_or (set (set (set (set rows 0 a) 1 b) 2 c) 3 d) 2 0 ≡ c)
      × (get_or (set (set (set (set rows 0 a) 1 b) 2 c) 3 d) 3 0 ≡ d)
  rows_of [] len = absurd (omega (arith, len))
  rows_of (x ∷ []) len = absurd (omega (arith, len))
  rows_of (x ∷ y ∷ []) len = absurd (omega (arith, len))
  rows_of (x ∷ y ∷ z ∷ []) len = absurd (omega (arith, len))
  rows_of (x ∷ y ∷ z ∷ u ∷ rows) len = (refl, refl, refl, refl)

-- where a fourth walk is there, so is a third, and there are so many keys
pub record Counted (three four : Bool) (count : ℕ) : Type 0 where
  pub third_before : four ≡ true → three ≡ true
  pub count_is : count ≡ count_of three four

-- so it is
pub so_many : {three four : Bool} {count : ℕ} → (four ≡ true → three ≡ true) → count ≡ count_of three four →
    Counted three four count
so_many before is = record { third_before = before; count_is = is }

module _ {three four : Bool} {count : ℕ} (c : Counted three four count) where
  -- there are at least two keys
  pub two_keys : 1 < count
  two_keys = two three four c.count_is
    where
      two : (b d : Bool) → count ≡ count_of b d → 1 < count
      two b true e = omega (arith, e)
      two true false e = omega (arith, e)
      two false false e = omega (arith, e)

  -- the third is there if its walk is
  pub third_key : three ≡ true → 2 < count
  third_key = third three four c.count_is
    where
      third : (b d : Bool) → count ≡ count_of b d → b ≡ true → 2 < count
      third b true e h = omega (arith, e)
      third true false e h = omega (arith, e)
      third false false e h = absurd (cc h)

  -- and the fourth
  pub fourth_key : four ≡ true → 3 < count
  fourth_key = fourth four c.count_is
    where
      fourth : (d : Bool) → count ≡ count_of three d → d ≡ true → 3 < count
      fourth true e h = omega (arith, e)
      fourth false e h = absurd (cc h)

-- what holds of two keys and, if they are there, of a third and a fourth holds of each
each_of_four : (three four : Bool) (P : ℕ → Type 0) {count : ℕ} → Counted three four count → P 0 → P 1 →
    (three ≡ true → P 2) → (four ≡ true → P 3) → (k : ℕ) → k < count → P k
each_of_four three four P c first second third fourth zero h = first
each_of_four three four P c first second third fourth (suc zero) h = second
each_of_four true four P c first second third fourth (suc (suc zero)) h = third refl
each_of_four false true P c first second third fourth (suc (suc zero)) h = absurd (cc (c.third_before refl))
each_of_four false false P c first second third fourth (suc (suc zero)) h = absurd (omega (arith, c.count_is, h))
each_of_four three true P c first second third fourth (suc (suc (suc zero))) h = fourth refl
each_of_four true false P c first second third fourth (suc (suc (suc zero))) h = absurd (omega (arith, c.count_is, h))
each_of_four false false P c first second third fourth (suc (suc (suc zero))) h = absurd (omega (arith, c.count_is, h))
each_of_four three true P c first second third fourth (suc (suc (suc (suc k)))) h =
    absurd (omega (arith, c.count_is, h))
each_of_four true false P c first second third fourth (suc (suc (suc (suc k)))) h =
    absurd (omega (arith, c.count_is, h))
each_of_four false false P c first second third fourth (suc (suc (suc (suc k)))) h =
    absurd (omega (arith, c.count_is, h))

module _ {three four : Bool} {way : Way} {keys : List ℕ} {count n first second third fourth taken : ℕ}
    (s : Sides three four way keys count n first second third fourth taken) (c : Counted three four count)
    {some : Bool} (is : some ≡ (not (is_match first) || not (is_match second) || three && not (is_match third)
    || four && not (is_match fourth))) (none : some ≡ false) where
  -- each of them has ended
  all_ended : NoneOnWay (is_match first) (is_match second) three (is_match third) four (is_match fourth)
  all_ended =
      none_on_way (is_match first) (is_match second) three (is_match third) four (is_match fourth) (sym is ∙ none)

  -- where none is on its way each has ended
  pub sides_end : (rows : List ℕ) → slice_index rows 0 ≡ index_of first → slice_index rows 1 ≡ index_of second →
      slice_index rows 2 ≡ index_of third → slice_index rows 3 ≡ index_of fourth → (k : ℕ) → k < count →
      EndsAt way.table way.trie (key_at way.table keys k) (slice_index rows k)
  sides_end rows first_is second_is third_is fourth_is =
      each_of_four three four (λ k. EndsAt way.table way.trie (key_at way.table keys k) (slice_index rows k)) c
      (side_ends s.one refl (omega (arith, two_keys c)) all_ended.one first_is)
      (side_ends s.two refl (two_keys c) all_ended.two second_is)
      (λ h. side_ends s.next h (third_key c h) (all_ended.next h) third_is)
      (λ h. side_ends s.last h (fourth_key c h) (all_ended.last h) fourth_is)

  -- and together they took all their transitions
  pub sides_took : taken ≡ walks_below way.table way.trie keys count
  sides_took =
      let t = λ (k : ℕ). walk_transitions way.table way.trie (key_at way.table keys k) in
      s.taken_is
      ∙ sum_of t three four _ _ _ _ c.third_before c.count_is
      (side_took s.one refl (omega (arith, two_keys c)) all_ended.one)
      (side_took s.two refl (two_keys c) all_ended.two)
      (λ h. side_took s.next h (third_key c h) (all_ended.next h))
      (λ h. side_took s.last h (fourth_key c h) (all_ended.last h))
    where
      sum_of : (t : ℕ → ℕ) (b d : Bool) (w x y z : ℕ) → (d ≡ true → b ≡ true) → count ≡ count_of b d → w ≡ t 0 →
          x ≡ t 1 → (b ≡ true → (if b then y else 0) ≡ t 2) → (d ≡ true → (if d then z else 0) ≡ t 3) →
          w + x + (if b then y else 0) + (if d then z else 0) ≡ sum_below t count
      sum_of t true true w x y z before e w_is x_is y_is z_is =
          omega (
            arith,
            ap (λ (n : ℕ). sum_below t n) e,
            sum_more t 3,
            sum_more t 2,
            sum_more t 1,
            sum_more t 0,
            sum_none t,
            w_is,
            x_is,
            y_is refl,
            z_is refl,
          )
      sum_of t true false w x y z before e w_is x_is y_is z_is =
          omega (
            arith,
            ap (λ (n : ℕ). sum_below t n) e,
            sum_more t 2,
            sum_more t 1,
            sum_more t 0,
            sum_none t,
            w_is,
            x_is,
            y_is refl,
          )
      sum_of t false true w x y z before e w_is x_is y_is z_is = absurd (cc (before refl))
      sum_of t false false w x y z before e w_is x_is y_is z_is =
          omega (arith, ap (λ (n : ℕ). sum_below t n) e, sum_more t 1, sum_more t 0, sum_none t, w_is, x_is)

-- they took at most as many as so many keys may have bytes
pub sides_limit : {three four : Bool} {way : Way} {keys : List ℕ} {count n first second third fourth taken : ℕ} →
    Sides three four way keys count n first second third fourth taken → Counted three four count → n ≤ max_key_len →
    taken ≤ count * max_key_len
sides_limit {three = three} {four = four} {count = count} {n = n} {taken = taken} s c short =
    most three four c.third_before c.count_is s.few
  where
    most : (b d : Bool) → (d ≡ true → b ≡ true) → count ≡ count_of b d →
        taken ≤ 2 * n + (if b then n else 0) + (if d then n else 0) → taken ≤ count * max_key_len
    most true true before e few = omega (arith, ap (λ (k : ℕ). k * max_key_len) e, few, short)
    most true false before e few = omega (arith, ap (λ (k : ℕ). k * max_key_len) e, few, short)
    most false true before e few = absurd (cc (before refl))
    most false false before e few = omega (arith, ap (λ (k : ℕ). k * max_key_len) e, few, short)
