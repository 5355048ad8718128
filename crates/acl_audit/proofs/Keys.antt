-- Keys with bytes 0 from a place on, which stand for the states of the place.
use Rattle.std.proofs.Common.{◌≡◌, ℕ, zero, suc, ◌+◌, ◌-◌, ◌<◌, ◌≤◌, List, [], ◌∷◌, ◌++◌, length, map, take}
use Rattle.std.proofs.Common.{get_or, replicate, slice_set, true, false, true≢false, refl, sym, ◌∙◌, ap, subst, arith}
use Rattle.std.proofs.Common.{length-append}
use Rattle.std.specs.List.{flat_map, AllByRecursion, range_with_len}
use Rattle.std.proofs.lemmas.List.{take_more, take_more_set, length-take-le, length-set, length-replicate}
use Rattle.std.proofs.lemmas.List.{get_or-set_other, append_assoc, append-nil, map-append}
use Rattle.field_defs.specs.Layout.{key_len_of}
use Rattle.rule_set.specs.Rule.{RuleSetView}
use Rattle.group_states.specs.Found.{all_bytes, prefixes}
use Rattle.group_states.specs.Kept.{is_wild_place}
use Rattle.group_states.specs.Laws.{IsGrouped}
use Rattle.group_states.specs.Levels.{reached}
use Rattle.group_states.specs.State.{Held, state, state_step, state_through, same_state, is_live}
use Rattle.list_lemmas.proofs.Each.{all-map, all-flat_map, all_weaker, map_same, map-map}
use Rattle.group_states.proofs.Offered.{AreBytes, IsPrefix, prefixes_are, bytes_below, zeros_small, same_state_refl}
use Rattle.group_states.proofs.Offered.{state_goes_through, same_state_sound}
use Rattle.group_states.proofs.Offered.{held_of, state_is, decoded, packed_state, packed_state_wild}
use Rattle.acl_audit.proofs.Finding.{LeadsAlike, found_by, found_after, found_firsts}
use Rattle.acl_audit.proofs.Least.{longer}

-- ---- lists

-- the first few bytes of a key are bytes
bytes_before : (n : ℕ) (key : List ℕ) → AreBytes key → AreBytes (take n key)
bytes_before zero key small = tt
bytes_before (suc n) [] small = tt
bytes_before (suc n) (b ∷ key) small = (small.0, bytes_before n key small.1)

-- a key with another byte at a place is one of bytes
bytes_with : (key : List ℕ) (i byte : ℕ) → AreBytes key → byte < 256 → AreBytes (slice_set key i byte)
bytes_with [] i byte small below = tt
bytes_with (b ∷ key) zero byte small below = (below, small.1)
bytes_with (b ∷ key) (suc i) byte small below = (small.0, bytes_with key i byte small.1 below)

-- elements that are 0 from a number on
zeros_after : (key : List ℕ) (n count : ℕ) → n + count ≤ length key → ((i : ℕ) → n ≤ i → get_or key i 0 ≡ 0)
    → take (n + count) key ≡ take n key ++ replicate count 0
zeros_after key n zero within none = (let e : n + 0 ≡ n = omega arith in
    ap (λ m. take m key) e ∙ sym (append-nil (take n key)))
zeros_after key n (suc count) within none =
    let e : n + suc count ≡ n + 1 + count = omega arith in
    ap (λ m. take m key) e
    ∙ zeros_after key (n + 1) count (omega (arith, within)) (λ i from. none i (omega (arith, from)))
    ∙ ap (λ l. l ++ replicate count 0)
    (take_more key n 0 (omega (arith, within)) ∙ ap (λ b. take n key ++ b ∷ []) (none n (omega arith)))
    ∙ append_assoc (take n key) (0 ∷ []) (replicate count 0)

-- lists of one element each, joined and mapped, are the elements mapped one by one
flat_map-singles : {X Y Z : Type 0} (f : Y → Z) (h : X → Y) (xs : List X)
    → map f (flat_map (λ x. h x ∷ []) xs) ≡ map (λ x. f (h x)) xs
flat_map-singles f h [] = refl
flat_map-singles f h (x ∷ xs) = ap (λ l. f (h x) ∷ l) (flat_map-singles f h xs)

-- a key with each byte at a place
abbrev pub written : ℕ → List (List ℕ) → List (List ℕ)
written place keys = flat_map (λ key. map (slice_set key place) all_bytes) keys

-- A key of so many bytes, with bytes 0 from a place on.
pub record KeyFrom (len place : ℕ) (key : List ℕ) : Type 0 where
  pub long : length key ≡ len
  pub bytes : AreBytes key
  pub none : (i : ℕ) → place ≤ i → get_or key i 0 ≡ 0

-- what is 0 from a place on is 0 from a later one on
pub key_later : (len place next : ℕ) (key : List ℕ) → place ≤ next → KeyFrom len place key → KeyFrom len next key
key_later len place next key later is = record {
  long = is.long;
  bytes = is.bytes;
  none = λ i from. is.none i (omega (arith, later, from));
}

-- with a byte set at the place the zeros begin one later
pub key_with : (len place : ℕ) (key : List ℕ) (byte : ℕ) → KeyFrom len place key → byte < 256
    → KeyFrom len (place + 1) (slice_set key place byte)
key_with len place key byte is below = record {
  long = length-set key place byte ∙ is.long;
  bytes = bytes_with key place byte is.bytes below;
  none = λ i from. get_or-set_other key place i byte 0 (λ e. omega (arith, from, e))
      ∙ is.none i (omega (arith, from));
}

-- the bytes before the zeros are a prefix of the place
pub key_begins : (len place : ℕ) (key : List ℕ) → place ≤ len → KeyFrom len place key → IsPrefix place (take place key)
key_begins len place key within is =
    (bytes_before place key is.bytes, length-take-le place key (omega (arith, within, is.long)))

-- the same of keys with each byte at the place
pub keys_with : (len place : ℕ) (keys : List (List ℕ)) → AllByRecursion (KeyFrom len place) keys
    → AllByRecursion (KeyFrom len (place + 1)) (written place keys)
keys_with len place keys are =
    all-flat_map (KeyFrom len (place + 1)) (λ key. map (slice_set key place) all_bytes) keys
    (all_weaker (KeyFrom len place)
    (λ key. AllByRecursion (KeyFrom len (place + 1)) (map (slice_set key place) all_bytes)) keys
    (λ key is. all-map (KeyFrom len (place + 1)) (slice_set key place) all_bytes
    (all_weaker (λ byte. byte < 256) (λ byte. KeyFrom len (place + 1) (slice_set key place byte)) all_bytes
    (λ byte below. key_with len place key byte is below) bytes_below)) are)

-- the first bytes of a key with a byte at a place, and then bytes 0
pub begins_with : (len place next : ℕ) (key : List ℕ) (byte : ℕ) → place < next → next ≤ len → byte < 256
    → KeyFrom len place key
    → take next (slice_set key place byte) ≡ take place key ++ byte ∷ replicate (next - place - 1) 0
begins_with len place next key byte rises within below is =
    let its = key_with len place key byte is below in
    let e : next ≡ place + 1 + (next - place - 1) = omega (arith, rises) in
    ap (λ n. take n (slice_set key place byte)) e
    ∙ zeros_after (slice_set key place byte) (place + 1) (next - place - 1) (omega (arith, rises, within, its.long))
    its.none
    ∙ ap (λ l. l ++ replicate (next - place - 1) 0)
    (take_more_set key place byte (omega (arith, rises, within, is.long)))
    ∙ append_assoc (take place key) (byte ∷ []) (replicate (next - place - 1) 0)

-- the beginnings of the keys with each byte at a place are each beginning with each byte after it
written_begins : (len place : ℕ) (keys : List (List ℕ)) → place < len → AllByRecursion (KeyFrom len place) keys
    → map (take (place + 1)) (written place keys) ≡ flat_map longer (map (take place) keys)
written_begins len place [] within are = refl
written_begins len place (key ∷ keys) within are =
    map-append (take (place + 1)) (map (slice_set key place) all_bytes) (written place keys)
    ∙ (λ i. one i ++ written_begins len place keys within are.1 i)
  where
    singles : {X Y : Type 0} (h : X → Y) (xs : List X) → map h xs ≡ flat_map (λ x. h x ∷ []) xs
    singles h [] = refl
    singles h (x ∷ xs) = ap (λ l. h x ∷ l) (singles h xs)

    one : map (take (place + 1)) (map (slice_set key place) all_bytes) ≡ longer (take place key)
    one = map-map (take (place + 1)) (slice_set key place) all_bytes
        ∙ map_same (λ byte. take (place + 1) (slice_set key place byte)) (λ byte. take place key ++ byte ∷ []) all_bytes
        (all_weaker (λ byte. byte < 256)
        (λ byte. take (place + 1) (slice_set key place byte) ≡ take place key ++ byte ∷ []) all_bytes
        (λ byte below. take_more_set key place byte (omega (arith, within, are.0.long))) bytes_below)
        ∙ singles (λ byte. take place key ++ byte ∷ []) all_bytes

-- a state that isn't live is empty
pub not_live : (s : List Held) → is_live s ≡ false → s ≡ []
not_live [] dead = refl
not_live (h ∷ s) dead = absurd (true≢false dead)

-- ---- what keys lead to

module _ (set : RuleSetView) (group : List ℕ) (is : IsGrouped set group) where
  -- the lists of bytes whose states are found
  abbrev pub states_found : List (List ℕ) → List (List ℕ)
  states_found keys = found_by same_state is_live (state set group) keys

  -- the state after one more byte is the step of the state
  one_on : (key : List ℕ) (byte : ℕ) → length key < key_len_of set.layout → byte < 256
      → state set group (key ++ byte ∷ []) ≡ state_step set (length key) (state set group key) byte
  unfolding state_through
  one_on key byte within below =
      state_goes_through set group key (byte ∷ []) (held_of set group is) (below, tt) (omega (arith, within))

  -- the states of a key with each byte are the steps of its state
  values_longer : (place : ℕ) (key : List ℕ) → place < key_len_of set.layout → IsPrefix place key
      → map (state set group) (longer key) ≡ map (state_step set place (state set group key)) all_bytes
  values_longer place key within begins =
      flat_map-singles (state set group) (λ byte. key ++ byte ∷ []) all_bytes
      ∙ map_same (λ byte. state set group (key ++ byte ∷ [])) (state_step set place (state set group key)) all_bytes
      (all_weaker (λ byte. byte < 256)
      (λ byte. state set group (key ++ byte ∷ []) ≡ state_step set place (state set group key) byte) all_bytes
      (λ byte below. one_on key byte (omega (arith, within, begins.1)) below
      ∙ ap (λ n. state_step set n (state set group key) byte) begins.1) bytes_below)

  -- a dead state leads to none that is live
  steps_of_dead : (place : ℕ) (bytes : List ℕ)
      → AllByRecursion (λ s. is_live s ≡ false) (map (state_step set place []) bytes)
  unfolding state_step
  steps_of_dead place [] = tt
  steps_of_dead place (byte ∷ bytes) = (refl, steps_of_dead place bytes)

  -- what holds of each value holds of each element by its value
  of_mapped : {X : Type 0} (P : X → Type 0) (f : List ℕ → X) (xs : List (List ℕ)) → AllByRecursion P (map f xs)
      → AllByRecursion (λ x. P (f x)) xs
  of_mapped P f [] all = tt
  of_mapped P f (x ∷ xs) all = (all.0, of_mapped P f xs all.1)

  -- the states after one more byte are found from those before it
  pub one_byte_on : (place : ℕ) (keys : List (List ℕ)) → place < key_len_of set.layout
      → AllByRecursion (IsPrefix place) keys
      → states_found (flat_map longer (states_found keys)) ≡ states_found (flat_map longer keys)
  one_byte_on place keys within are = found_after longer_alike keys are
    where
      longer_alike : LeadsAlike same_state is_live (state set group) same_state is_live (state set group) longer
          (IsPrefix place)
      longer_alike = record {
        sound = same_state_sound;
        reflexive = same_state_refl;
        alike = λ x y px py e.
            values_longer place x within px
            ∙ ap (λ s. map (state_step set place s) all_bytes) e ∙ sym (values_longer place y within py);
        dead = λ x px dead.
            of_mapped (λ s. is_live s ≡ false) (state set group) (longer x)
            (subst (AllByRecursion (λ s. is_live s ≡ false))
            (sym (values_longer place x within px
            ∙ ap (λ s. map (state_step set place s) all_bytes) (not_live (state set group x) dead)))
            (steps_of_dead place all_bytes));
      }

  -- Keys whose first bytes lead to all states of a place, each of which they lead to first.
  pub record Lead (place : ℕ) (keys : List (List ℕ)) : Type 0 where
    pub found : states_found (prefixes place) ≡ states_found (map (take place) keys)
    pub keys_are : AllByRecursion (KeyFrom (key_len_of set.layout) place) keys

  -- Keys whose first bytes are the least that lead to the states of a place, in their order.
  pub record AreLeast (place : ℕ) (keys : List (List ℕ)) : Type 0 where
    pub begin : map (take place) keys ≡ states_found (prefixes place)
    pub keys_are : AllByRecursion (KeyFrom (key_len_of set.layout) place) keys

  -- the prefixes of the next place are those of the place with each byte
  next_prefixes : (place : ℕ) → prefixes (place + 1) ≡ flat_map longer (prefixes place)
  unfolding prefixes
  next_prefixes place = (let e : place + 1 ≡ suc place = omega arith in ap prefixes e)

  -- the first bytes of such keys are prefixes of the place
  begins_all : (place : ℕ) (keys : List (List ℕ)) → place ≤ key_len_of set.layout
      → AllByRecursion (KeyFrom (key_len_of set.layout) place) keys
      → AllByRecursion (IsPrefix place) (map (take place) keys)
  begins_all place keys within are =
      all-map (IsPrefix place) (take place) keys
      (all_weaker (KeyFrom (key_len_of set.layout) place) (λ key. IsPrefix place (take place key)) keys
      (λ key its. key_begins (key_len_of set.layout) place key within its) are)

  -- such keys with each byte at the place lead to the states of the next place
  pub lead_first : (place : ℕ) (keys : List (List ℕ)) → place < key_len_of set.layout → AreLeast place keys
      → Lead (place + 1) (written place keys)
  lead_first place keys within least = record {
    found = ap (λ ks. states_found ks) (next_prefixes place)
        ∙ sym (one_byte_on place (prefixes place) within (prefixes_are place))
        ∙ ap (λ ks. states_found (flat_map longer ks)) (sym least.begin)
        ∙ ap (λ ks. states_found ks)
        (sym (written_begins (key_len_of set.layout) place keys within least.keys_are));
    keys_are = keys_with (key_len_of set.layout) place keys least.keys_are;
  }

  -- at a place at which all rules are wild every byte does what byte 0 does
  wild_alike : (key : List ℕ) (byte : ℕ) → AreBytes key → byte < 256 → length key < key_len_of set.layout
      → is_wild_place set group (length key) ≡ true
      → state set group (key ++ byte ∷ []) ≡ state set group (key ++ 0 ∷ [])
  wild_alike key byte small below within wild =
      let held = held_of set group is in
      let long : length (key ++ byte ∷ []) ≡ length (key ++ 0 ∷ []) =
      length-append key (byte ∷ []) ∙ sym (length-append key (0 ∷ [])) in
      let packed : packed_state set group (key ++ byte ∷ []) ≡ packed_state set group (key ++ 0 ∷ []) =
      packed_state_wild set group key byte held small below within wild
      ∙ sym (packed_state_wild set group key 0 held small (omega arith) within wild) in
      state_is set group (key ++ byte ∷ []) held
      ∙ (λ i. map (decoded set (long i)) (packed i))
      ∙ sym (state_is set group (key ++ 0 ∷ []) held)

  -- the key with each byte but 0
  others : List ℕ → List (List ℕ)
  others key = flat_map (λ byte. (key ++ byte ∷ []) ∷ []) (range_with_len 1 255)

  -- at a wild place each byte leads to the state to which byte 0 leads
  later_alike : (first count : ℕ) → first + count ≤ 256 → (key : List ℕ) → AreBytes key
      → length key < key_len_of set.layout → is_wild_place set group (length key) ≡ true
      → AllByRecursion (λ k. state set group k ≡ state set group (key ++ 0 ∷ []))
      (flat_map (λ byte. (key ++ byte ∷ []) ∷ []) (range_with_len first count))
  later_alike first zero small key bytes within wild = tt
  later_alike first (suc count) small key bytes within wild = (
    wild_alike key first bytes (omega (arith, small)) within wild,
    later_alike (first + 1) count (omega (arith, small)) key bytes within wild,
  )

  -- at a wild place keys with each byte lead to the states that keys with byte 0 lead to
  wild_on : (place : ℕ) (keys : List (List ℕ)) → place < key_len_of set.layout
      → is_wild_place set group place ≡ true → AllByRecursion (IsPrefix place) keys
      → states_found (flat_map longer keys) ≡ states_found (map (λ key. key ++ 0 ∷ []) keys)
  unfolding all_bytes others
  wild_on place keys within wild are =
      found_firsts same_state is_live (state set group) same_state_refl (λ key. key ++ 0 ∷ []) others (IsPrefix place)
      (λ key begins. later_alike 1 255 (omega arith) key begins.0 (omega (arith, within, begins.1))
      (ap (is_wild_place set group) begins.1 ∙ wild)) keys are

  -- keys that lead to a wild place's states lead to those of the next place
  pub lead_on : (place : ℕ) (keys : List (List ℕ)) → place < key_len_of set.layout
      → is_wild_place set group place ≡ true → Lead place keys → Lead (place + 1) keys
  lead_on place keys within wild lead =
      let begins = begins_all place keys (omega (arith, within)) lead.keys_are in
      record {
        found = ap (λ ks. states_found ks) (next_prefixes place)
            ∙ sym (one_byte_on place (prefixes place) within (prefixes_are place))
            ∙ ap (λ ks. states_found (flat_map longer ks)) lead.found
            ∙ one_byte_on place (map (take place) keys) within begins
            ∙ wild_on place (map (take place) keys) within wild begins
            ∙ ap (λ ks. states_found ks)
            (map-map (λ key. key ++ 0 ∷ []) (take place) keys
            ∙ map_same (λ key. take place key ++ 0 ∷ []) (take (place + 1)) keys
            (all_weaker (KeyFrom (key_len_of set.layout) place)
            (λ key. take place key ++ 0 ∷ [] ≡ take (place + 1) key) keys
            (λ key its. sym (take_more key place 0 (omega (arith, within, its.long))
            ∙ ap (λ b. take place key ++ b ∷ []) (its.none place (omega arith)))) lead.keys_are));
        keys_are = all_weaker (KeyFrom (key_len_of set.layout) place) (KeyFrom (key_len_of set.layout) (place + 1)) keys
            (λ key its. key_later (key_len_of set.layout) place (place + 1) key (omega arith) its) lead.keys_are;
      }

  -- and so over all places of a gap
  pub lead_over : (place count : ℕ) (keys : List (List ℕ)) → place + count ≤ key_len_of set.layout
      → ((k : ℕ) → place ≤ k → k < place + count → is_wild_place set group k ≡ true) → Lead place keys
      → Lead (place + count) keys
  lead_over place zero keys within wild lead =
      (let e : place ≡ place + 0 = omega arith in subst (λ n. Lead n keys) e lead)
  lead_over place (suc count) keys within wild lead =
      let e : place + 1 + count ≡ place + suc count = omega arith in
      subst (λ n. Lead n keys) e
      (lead_over (place + 1) count keys (omega (arith, within))
      (λ k from below. wild k (omega (arith, from)) (omega (arith, below)))
      (lead_on place keys (omega (arith, within)) (wild place (omega arith) (omega arith)) lead))

  -- what a state reaches by a byte is the state of the key with the byte
  pub reached_by : (place next : ℕ) (key : List ℕ) (byte : ℕ) → place < next → next ≤ key_len_of set.layout → byte < 256
      → KeyFrom (key_len_of set.layout) place key
      → reached set place next (state set group (take place key)) byte
      ≡ state set group (take next (slice_set key place byte))
  unfolding reached
  reached_by place next key byte rises within below its =
      let zeros : List ℕ = replicate (next - place - 1) 0 in
      let begins = key_begins (key_len_of set.layout) place key (omega (arith, rises, within)) its in
      let count : length zeros ≡ next - place - 1 = length-replicate (next - place - 1) 0 in
      sym (ap (state set group) (begins_with (key_len_of set.layout) place next key byte rises within below its)
      ∙ state_goes_through set group (take place key) (byte ∷ zeros) (held_of set group is)
      (below, zeros_small (next - place - 1)) (omega (arith, count, begins.1, rises, within))
      ∙ ap (λ n. state_through set n (state set group (take place key)) (byte ∷ zeros)) begins.1)
