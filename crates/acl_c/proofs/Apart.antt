-- Keys that stand apart: their bytes one after the other, and what is said of each.
use Rattle.std.proofs.Common.{◌≡◌, ℕ, suc, ◌+◌, ◌-◌, ◌*◌, ◌/◌, ◌<◌, ◌≤◌, ◌==◌, List, [], ◌∷◌, ◌++◌, true, take}
use Rattle.std.proofs.Common.{drop, length, get_or}
use Rattle.std.proofs.Common.{refl, fold, length-append, nat_lt, Some, false, All, subst, sym, ap, ◌∙◌, arith}
use Rattle.std.proofs.Common.{append-nil, length-take, length-drop, sum_by}
use Rattle.std.proofs.Math.Nat.{mul-le-mul, mul-le-mul_left, mul-le-mul_right, mul-div_cancel}
use Rattle.std.proofs.Math.Seq.{take-add}
use Rattle.std.specs.Prelude.{flat_map}
use Rattle.std.specs.List.{range_with_len}
use Rattle.std.proofs.lemmas.Bool.Decides.{nat_tests}
use Rattle.std.proofs.lemmas.Bool.{and_parts}
use Rattle.std.proofs.lemmas.Grind.{flat_map-append}
use Rattle.std.proofs.lemmas.List.{take_at, drop_at, drop_all, drop-drop, take_more, take-append-drop, get_or_default}
use Rattle.std.proofs.lemmas.List.Elements.{All-append, All-take}
use Rattle.std.proofs.lemmas.List.Folds.{list_all-append}
use Rattle.std.proofs.lemmas.List.Sums.{sum_by-append, sum_by-cons}
use Rattle.list_lemmas.proofs.Positions.{WrittenTo}
use Rattle.table_sizes.specs.Groups.{max_key_len}
use Rattle.table_sizes.specs.Sizes.{max_tries, max_keys}
use Rattle.flat_table.specs.Table.{TableView}
use Rattle.flat_table.specs.Walk.{key_transitions, most_of_key}
use Rattle.flat_table.specs.Batch.{KeysFit, keys_in, key_verdicts, first_verdicts, batch_verdicts}
use Rattle.flat_table.specs.Batch.{first_transitions, batch_transitions}
use Rattle.flat_table.proofs.Offered.{batch_bound}
use Rattle.acl_c.specs.declared.keys.Key.{Key}
use Rattle.acl_c.specs.Codes.{ok}
use Rattle.acl_c.specs.Batch.{lengths_code, batch_code}
use Rattle.acl_c.specs.Keys.{packed, are_of_len, keys_code, each_verdicts, each_transitions}
use Rattle.acl_c.proofs.Lengths.{fits}

-- the keys before a place have the length that all have, and so have those after it
both_of_len : (len at : ℕ) (keys : List Key) → are_of_len len keys ≡ true →
    (are_of_len len (take at keys) ≡ true) × (are_of_len len (drop at keys) ≡ true)
both_of_len len at keys all =
    let two : are_of_len len (take at keys ++ drop at keys) ≡ true =
    ap (λ (ks : List Key). are_of_len len ks) (take-append-drop at keys) ∙ all in
    and_parts (are_of_len len (take at keys)) (are_of_len len (drop at keys))
    (sym (list_all-append _ (take at keys) (drop at keys)) ∙ two)

-- and so have some keys from a place on
pub part_of_len : (len at n : ℕ) (keys : List Key) → are_of_len len keys ≡ true →
    are_of_len len (take n (drop at keys)) ≡ true
part_of_len len at n keys all = (both_of_len len n (drop at keys) (both_of_len len at keys all).1).0

-- the bytes of one key more
pub packed_more : (keys : List Key) (place : ℕ) (d : Key) → place < length keys →
    packed (take (place + 1) keys) ≡ packed (take place keys) ++ (get_or keys place d).bytes.now
packed_more keys place d here =
    ap (λ (ks : List Key). packed ks) (take_more keys place d here)
    ∙ flat_map-append (λ (key : Key). key.bytes.now) (take place keys) (get_or keys place d ∷ [])
    ∙ ap (λ (bytes : List ℕ). packed (take place keys) ++ bytes) (append-nil _)

-- what a function gives of the first elements, and of some more
pub parts_more : {A B : Type 0} (f : A → List B) (xs : List A) (at end : ℕ) → at ≤ end →
    flat_map f (take end xs) ≡ flat_map f (take at xs) ++ flat_map f (take (end - at) (drop at xs))
parts_more f xs at end later =
    let whole : end ≡ at + (end - at) = omega arith in
    ap (λ (n : ℕ). flat_map f (take n xs)) whole
    ∙ ap (λ ys. flat_map f ys) (take-add at (end - at) xs)
    ∙ flat_map-append f (take at xs) (take (end - at) (drop at xs))

-- and their sum
pub sum_more : {A : Type 0} (f : A → ℕ) (xs : List A) (at end : ℕ) → at ≤ end →
    sum_by f (take end xs) ≡ sum_by f (take at xs) + sum_by f (take (end - at) (drop at xs))
sum_more f xs at end later =
    let whole : end ≡ at + (end - at) = omega arith in
    ap (λ (n : ℕ). sum_by f (take n xs)) whole
    ∙ ap (λ ys. sum_by f ys) (take-add at (end - at) xs)
    ∙ sum_by-append f (take at xs) (take (end - at) (drop at xs))

-- how many keys some more are
pub length_part : {A : Type 0} (xs : List A) (at end : ℕ) → end ≤ length xs →
    length (take (end - at) (drop at xs)) ≡ end - at
length_part xs at end within = omega (arith, within, length-take (end - at) (drop at xs), length-drop at xs)

-- the room for the verdicts of some keys more
pub room_of_part : {A : Type 0} (out : List ℕ) (xs : List A) (at end count : ℕ) → at ≤ end → end ≤ length xs →
    length out ≡ length xs * count →
    length (take (end * count - at * count) (drop (at * count) out)) ≡ length (take (end - at) (drop at xs)) * count
room_of_part out xs at end count later within room =
    let fits : end * count ≤ length xs * count = mul-le-mul_right count within in
    let before : at * count ≤ end * count = mul-le-mul_right count later in
    let split : end * count ≡ at * count + (end - at) * count =
    (let whole : end ≡ at + (end - at) = omega arith in ap (λ (n : ℕ). n * count) whole ∙ omega arith) in
    omega (arith, length-take (end * count - at * count) (drop (at * count) out), length-drop (at * count) out)
    ∙ ap (λ (n : ℕ). n * count) (sym (length_part xs at end within))

-- and where they end
pub end_of_part : {A : Type 0} (out piece : List ℕ) (xs : List A) (at end count : ℕ) → at ≤ end → end ≤ length xs →
    length out ≡ length xs * count → length piece ≡ length (take (end * count - at * count) (drop (at * count) out)) →
    end * count ≡ at * count + length piece
end_of_part out piece xs at end count later within room is =
    let fits : end * count ≤ length xs * count = mul-le-mul_right count within in
    let before : at * count ≤ end * count = mul-le-mul_right count later in
    omega (arith, is, room, length-take (end * count - at * count) (drop (at * count) out), length-drop {A = ℕ})

-- what is written in front of bytes are bytes, if all together are
pub front_bytes : {old front out : List ℕ} {at : ℕ} → WrittenTo old at front out → ((k : ℕ) → get_or out k 0 < 256) →
    All (λ (byte : ℕ). byte < 256) front
front_bytes {old = old} {front = front} {out = out} {at = at} written fits =
    let all : All (λ (byte : ℕ). byte < 256) out = λ k d below. rw (get_or_default out k d 0 below) (fits k) in
    subst (λ (bytes : List ℕ). All (λ (byte : ℕ). byte < 256) bytes)
    (ap (λ (bytes : List ℕ). take at bytes) written.is ∙ take_at front (drop at old) at written.len)
    (All-take (λ (byte : ℕ). byte < 256) at out all)

-- where all is written, nothing of what was there is left
pub written_all : {old front out : List ℕ} {at : ℕ} → WrittenTo old at front out → length old ≤ at → out ≡ front
written_all {old = old} {front = front} {at = at} written whole =
    written.is ∙ ap (λ (rest : List ℕ). front ++ rest) (drop_all at old whole) ∙ append-nil front

-- the bytes of some keys more are bytes
pub bytes_more : (keys : List Key) (at end : ℕ) → at ≤ end → All (λ (byte : ℕ). byte < 256) (packed (take at keys)) →
    All (λ (byte : ℕ). byte < 256) (packed (take (end - at) (drop at keys))) →
    All (λ (byte : ℕ). byte < 256) (packed (take end keys))
bytes_more keys at end later first more =
    let all = All-append (λ (byte : ℕ). byte < 256) (packed (take at keys)) (packed (take (end - at) (drop at keys)))
    first more in
    subst (λ (bytes : List ℕ). All (λ (byte : ℕ). byte < 256) bytes)
    (sym (parts_more (λ (key : Key). key.bytes.now) keys at end later)) all

-- ---- the keys one after the other, as a batch

-- so many bytes they are
pub packed_len : (len : ℕ) (keys : List Key) → are_of_len len keys ≡ true → length (packed keys) ≡ length keys * len
packed_len len [] all = omega arith
packed_len len (key ∷ keys) all =
    let (one, rest) = and_parts (length key.bytes.now == len) (are_of_len len keys) all in
    let this : length key.bytes.now ≡ len = grind (arith, nat_tests, one) in
    let more : suc (length keys) * len ≡ len + length keys * len = omega arith in
    length-append key.bytes.now (packed keys) ∙ (λ i. this i + packed_len len keys rest i) ∙ sym more

module _ (len : ℕ) (all : List ℕ) where
  -- the key of a number among all bytes
  key_of : ℕ → List ℕ
  key_of k = take len (drop (k * len) all)

  -- where the bytes of some keys begin, there is the first of them, and then those of the others
  first_key : (first : ℕ) (key : Key) (keys : List Key) → are_of_len len (key ∷ keys) ≡ true →
      drop (first * len) all ≡ packed (key ∷ keys) →
      (take len (drop (first * len) all) ≡ key.bytes.now) × (drop ((first + 1) * len) all ≡ packed keys)
      × (are_of_len len keys ≡ true)
  first_key first key keys lens is =
      let (one, rest) = and_parts (length key.bytes.now == len) (are_of_len len keys) lens in
      let this : length key.bytes.now ≡ len = grind (arith, nat_tests, one) in
      let next : (first + 1) * len ≡ first * len + len = omega arith in (
        ap (λ (bytes : List ℕ). take len bytes) is ∙ take_at key.bytes.now (packed keys) len this,
        ap (λ (n : ℕ). drop n all) next
            ∙ sym (drop-drop len (first * len) all)
            ∙ ap (λ (bytes : List ℕ). drop len bytes) is
            ∙ drop_at key.bytes.now (packed keys) len this,
        rest,
      )

  -- what is said of each key by its number is what is said of it
  pub said_of_each : (F : List ℕ → List ℕ) (first : ℕ) (keys : List Key) → are_of_len len keys ≡ true →
      drop (first * len) all ≡ packed keys →
      flat_map (λ k. F (take len (drop (k * len) all))) (range_with_len first (length keys))
      ≡ flat_map (λ key. F key.bytes.now) keys
  said_of_each F first [] lens is = refl
  said_of_each F first (key ∷ keys) lens is =
      let (this, next, rest) = first_key first key keys lens is in
      λ i. F (this i) ++ said_of_each F (first + 1) keys rest next i

  -- and what is counted
  pub counted_of_each : (F : List ℕ → ℕ) (so_far first : ℕ) (keys : List Key) → are_of_len len keys ≡ true →
      drop (first * len) all ≡ packed keys →
      fold (λ total k. total + F (take len (drop (k * len) all))) so_far (range_with_len first (length keys))
      ≡ so_far + sum_by (λ key. F key.bytes.now) keys
  counted_of_each F so_far first [] lens is = omega arith
  counted_of_each F so_far first (key ∷ keys) lens is =
      let (this, next, rest) = first_key first key keys lens is in
      let one : ℕ = F (take len (drop (first * len) all)) in
      let here : one ≡ F key.bytes.now = ap F this in
      let sum : sum_by (λ key. F key.bytes.now) (key ∷ keys) ≡ F key.bytes.now + sum_by (λ key. F key.bytes.now) keys =
      sum_by-cons (λ (key : Key). F key.bytes.now) key keys in
      counted_of_each F (so_far + one) (first + 1) keys rest next ∙ omega (arith, here, sum)

-- how many keys the bytes are
pub keys_packed : (len : ℕ) (keys : List Key) → 0 < len → are_of_len len keys ≡ true →
    length (packed keys) / len ≡ length keys
keys_packed len keys some lens = ap (λ (n : ℕ). n / len) (packed_len len keys lens) ∙ mul-div_cancel (length keys) some

-- so there is room for the verdicts of each, if the lengths have no fault
pub room_for : (len categories room : ℕ) (keys : List Key) → 0 < len → are_of_len len keys ≡ true →
    lengths_code len (length keys * len) categories room ≡ ok → room ≡ length keys * categories
room_for len categories room keys some lens none =
    let fit = fits len (packed keys) categories room
    (ap (λ (n : ℕ). lengths_code len n categories room) (packed_len len keys lens) ∙ none) in
    fit.room_fits ∙ ap (λ (n : ℕ). n * categories) (keys_packed len keys some lens)

-- and no fault is answered
pub answers : (table : TableView) (lanes : ℕ) (keys : List Key) (categories walk room : ℕ) → length keys ≤ max_keys →
    are_of_len table.key_len keys ≡ true →
    batch_code table.key_len lanes (length keys * table.key_len) categories walk room ≡ ok →
    ok ≡ keys_code (Some table) lanes keys categories walk room
answers table lanes keys categories walk room few lens none =
    let within : nat_lt max_keys (length keys) ≡ false = grind (arith, nat_tests, few) in
    rw (within, lens) (sym none)

-- ---- the verdicts of a table

module _ (table : TableView) (keys : List Key) (some : 0 < table.key_len)
    (lens : are_of_len table.key_len keys ≡ true) where
  -- the first key begins where the bytes do
  begins : drop (0 * table.key_len) (packed keys) ≡ packed keys
  begins = let none : 0 * table.key_len ≡ 0 = omega arith in ap (λ (n : ℕ). drop n (packed keys)) none

  -- the verdicts of the packed keys are those of each
  pub packed_verdicts : (count : ℕ) → batch_verdicts table count (packed keys) ≡ each_verdicts table count keys
  packed_verdicts count =
      ap (λ (n : ℕ). first_verdicts table count (packed keys) n) (keys_packed table.key_len keys some lens)
      ∙ said_of_each table.key_len (packed keys) (λ key. key_verdicts table count key) 0 keys lens begins

  -- and so are the transitions
  pub packed_transitions : batch_transitions table (packed keys) ≡ each_transitions table keys
  packed_transitions =
      ap (λ (n : ℕ). first_transitions table (packed keys) n) (keys_packed table.key_len keys some lens)
      ∙ counted_of_each table.key_len (packed keys) (λ key. key_transitions table key) 0 0 keys lens begins
      ∙ omega arith

  -- which are at most so many
  pub transitions_bound : table.key_len ≤ max_key_len → length table.roots ≤ max_tries →
      each_transitions table keys ≤ length keys * (max_tries * max_key_len)
  transitions_bound short few =
      let each : most_of_key table ≤ max_tries * max_key_len = mul-le-mul few short in
      let same : keys_in table (packed keys) * most_of_key table ≡ length keys * most_of_key table =
      ap (λ (n : ℕ). n * most_of_key table) (keys_packed table.key_len keys some lens) in
      let most : length keys * most_of_key table ≤ length keys * (max_tries * max_key_len) =
      mul-le-mul_left (length keys) each in
      omega (arith, batch_bound table (packed keys), packed_transitions, same, most)

  -- and their lengths fit
  pub packed_fit : (count room : ℕ) → length keys ≤ max_keys → room ≡ length keys * count →
      KeysFit table.key_len (packed keys) count room
  packed_fit count room few is =
      let n = keys_packed table.key_len keys some lens in
      record {
        whole = packed_len table.key_len keys lens ∙ ap (λ (k : ℕ). k * table.key_len) (sym n);
        few = omega (arith, n, few);
        room_fits = is ∙ ap (λ (k : ℕ). k * count) (sym n);
      }
