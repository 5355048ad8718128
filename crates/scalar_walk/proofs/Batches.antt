-- The verdicts of a batch, some keys after others.
use Rattle.std.proofs.Common.{◌≡◌, ℕ, zero, suc, ◌+◌, ◌-◌, ◌*◌, ◌/◌, ◌<◌, ◌≤◌, List, [], ◌∷◌, ◌++◌, sym, ap, ◌∙◌}
use Rattle.std.proofs.Common.{Bool}
use Rattle.std.proofs.Common.{arith}
use Rattle.std.proofs.Common.{add-one, subst, length, take, drop, fold, append_assoc, append-nil, length-append}
use Rattle.std.proofs.Common.{length-take, length-drop}
use Rattle.std.specs.Prelude.{flat_map}
use Rattle.std.specs.List.{range_with_len}
use Rattle.std.proofs.lemmas.Grind.{flat_map-append}
use Rattle.std.proofs.lemmas.List.{length-map, drop-drop, drop-take, drop_all, take-take}
use Rattle.std.proofs.lemmas.List.Sums.{fold-append}
use Rattle.std.proofs.lemmas.List.FromFn.{length-range_with_len}
use Rattle.std.proofs.Math.Nat.{mul-le-mul_right, div-mul-le_self, div_self}
use borrow.Rule.Slice.PartMut.{put_mid}
use Rattle.list_lemmas.proofs.Positions.{range-push}
use Rattle.table_sizes.specs.Groups.{max_key_len}
use Rattle.flat_table.specs.Table.{TableView}
use Rattle.flat_table.specs.Walk.{key_transitions}
use Rattle.flat_table.specs.Batch.{key_at, key_verdicts, first_verdicts, first_transitions, batch_transitions}
use Rattle.flat_table.specs.Batch.{most_of_batch, keys_in}
use Rattle.flat_table.proofs.Offered.{batch_bound}
use Rattle.table_sizes.specs.Sizes.{max_tries}
use Rattle.scalar_walk.specs.Rows.{key_winners, first_winners}
use Rattle.scalar_walk.proofs.Below.{piece_put}
use Rattle.scalar_walk.proofs.InStep.{key_alone}

-- what a function gives for each of the first n keys, one after the other
abbrev pub pieces_of : {A : Type 0} → (List ℕ → List A) → TableView → List ℕ → ℕ → List A
pieces_of f table keys n = flat_map (λ k. f (key_at table keys k)) (range_with_len 0 n)

-- so many for each key
abbrev pub IsEven : {A : Type 0} → (List ℕ → List A) → ℕ → Type 0
IsEven f count = (key : List ℕ) → length (f key) ≡ count

-- each key has as many verdicts as categories are asked for
pub verdicts_len : (table : TableView) (count : ℕ) → IsEven (key_verdicts table count) count
verdicts_len table count key = length-map (range_with_len 0 count) _ ∙ length-range_with_len 0 count

-- and as many marks
pub winners_len : (table : TableView) (count : ℕ) → IsEven (key_winners table count) count
winners_len table count key = length-map (range_with_len 0 count) _ ∙ length-range_with_len 0 count

module _ {A : Type 0} (f : List ℕ → List A) (table : TableView) (keys : List ℕ) where
  -- one more key adds its piece to those of the first keys
  pub key_more : (k : ℕ) → pieces_of f table keys (k + 1) ≡ pieces_of f table keys k ++ f (key_at table keys k)
  key_more k =
      ap (λ (ks : List ℕ). flat_map (λ j. f (key_at table keys j)) ks) (range-push 0 k)
      ∙ flat_map-append (λ j. f (key_at table keys j)) (range_with_len 0 k) ((0 + k) ∷ [])
      ∙ ap (λ (vs : List A). pieces_of f table keys k ++ vs) (append-nil _
      ∙ ap (λ (j : ℕ). f (key_at table keys j)) (omega arith))

  -- the pieces of the first keys are as long together
  pub pieces_len : {count : ℕ} → IsEven f count → (k : ℕ) → length (pieces_of f table keys k) ≡ k * count
  pieces_len even zero = omega arith
  pieces_len {count = count} even (suc k) =
      subst (λ (n : ℕ). length (pieces_of f table keys n) ≡ n * count) (add-one k)
      (ap (λ (vs : List A). length vs) (key_more k)
      ∙ omega (
        arith,
        length-append (pieces_of f table keys k) (f (key_at table keys k)),
        pieces_len even k,
        even (key_at table keys k),
      ))

-- one more key adds its transitions to those of the first keys
pub transitions-more : (table : TableView) (keys : List ℕ) (k : ℕ) →
    first_transitions table keys (k + 1) ≡ first_transitions table keys k + key_transitions table (key_at table keys k)
transitions-more table keys k =
    ap (λ (ks : List ℕ). fold (λ total j. total + key_transitions table (key_at table keys j)) 0 ks) (range-push 0 k)
    ∙ fold-append (λ total j. total + key_transitions table (key_at table keys j)) 0 (range_with_len 0 k) ((0 + k) ∷ [])
    ∙ ap (λ (j : ℕ). first_transitions table keys k + key_transitions table (key_at table keys j)) (omega arith)

-- ---- a part of a batch: m keys from key k on

-- the part, as the code cuts it by the length of a key
abbrev pub part_of : {A : Type 0} → List A → ℕ → ℕ → ℕ → List A
part_of keys len k m = take ((k + m) * len - k * len) (drop (k * len) keys)

-- its key j is that of the batch
part_key : (table : TableView) (keys : List ℕ) (len k m j : ℕ) → len ≡ table.key_len → j < m →
    key_at table (part_of keys len k m) j ≡ key_at table keys (k + j)
part_key table keys len k m j e within =
    let n : ℕ = table.key_len in
    let rest : ℕ = m - (j + 1) in
    let count : m ≡ j + 1 + rest = omega (arith, within) in
    let whole : (k + m) * n - k * n ≡ j * n + (n + rest * n) =
    ap (λ (c : ℕ). (k + c) * n - k * n) count ∙ omega arith in
    ap (λ (l : ℕ). key_at table (part_of keys l k m) j) e
    ∙ ap (λ (c : ℕ). take n (drop (j * n) (take c (drop (k * n) keys)))) whole
    ∙ ap (λ (xs : List ℕ). take n xs) (drop-take (j * n) (n + rest * n) (drop (k * n) keys))
    ∙ take-take n (n + rest * n) (drop (j * n) (drop (k * n) keys)) (omega arith)
    ∙ ap (λ (xs : List ℕ). take n xs) (drop-drop (j * n) (k * n) keys ∙ ap (λ (c : ℕ). drop c keys) (omega arith))

module _ (table : TableView) (keys : List ℕ) (len k m : ℕ) (e : len ≡ table.key_len) where
  -- the pieces of keys that go on in a part are those before it, and then the part's
  part_pieces : {A : Type 0} (f : List ℕ → List A) (n : ℕ) → n ≤ m →
      pieces_of f table keys (k + n) ≡ pieces_of f table keys k ++ pieces_of f table (part_of keys len k m) n
  part_pieces f zero h = ap (λ (j : ℕ). pieces_of f table keys j) (omega arith)
      ∙ sym (append-nil (pieces_of f table keys k))
  part_pieces f (suc n) h =
      let part : List ℕ = part_of keys len k m in
      let more : pieces_of f table part (suc n) ≡ pieces_of f table part n ++ f (key_at table part n) =
      rw (add-one n) at (key_more f table part n) in
      ap (λ (j : ℕ). pieces_of f table keys j) (omega arith)
      ∙ key_more f table keys (k + n)
      ∙ (λ i. part_pieces f n (omega (arith, h)) i ++ f (sym (part_key table keys len k m n e (omega (arith, h))) i))
      ∙ append_assoc (pieces_of f table keys k) (pieces_of f table part n) (f (key_at table part n))
      ∙ ap (λ (xs : List _). pieces_of f table keys k ++ xs) (sym more)

  -- and so are the transitions
  part_transitions : (n : ℕ) → n ≤ m → first_transitions table keys (k + n)
      ≡ first_transitions table keys k + first_transitions table (part_of keys len k m) n
  part_transitions zero h =
      let none : k + 0 ≡ k = omega arith in
      omega (arith, ap (λ (j : ℕ). first_transitions table keys j) none)
  part_transitions (suc n) h =
      let part : List ℕ = part_of keys len k m in
      let more : first_transitions table part (suc n)
      ≡ first_transitions table part n + key_transitions table (key_at table part n) =
      rw (add-one n) at (transitions-more table part n) in
      let at : k + suc n ≡ k + n + 1 = omega arith in
      omega (
        arith,
        ap (λ (j : ℕ). first_transitions table keys j) at,
        transitions-more table keys (k + n),
        part_transitions n (omega (arith, h)),
        ap (λ (key : List ℕ). key_transitions table key) (part_key table keys len k m n e (omega (arith, h))),
        more,
      )

-- the pieces of the first k keys are written
pub record KeysTo {A : Type 0} (f : List ℕ → List A) (table : TableView) (keys : List ℕ) (count k : ℕ)
    (old out : List A) : Type 0 where
  pub is : out ≡ pieces_of f table keys k ++ drop (k * count) old

-- before the first key all is as it was
pub keys_none : {A : Type 0} (f : List ℕ → List A) (table : TableView) (keys : List ℕ) (count k : ℕ)
    (old : List A) → k ≡ 0 → KeysTo f table keys count k old old
keys_none f table keys count k old none =
    subst (λ (n : ℕ). KeysTo f table keys count n old old) (sym none) record {
      is = let zero_is : 0 ≡ 0 * count = omega arith in ap (λ (n : ℕ). drop n old) zero_is;
    }

-- those of m keys more
part_written : {A : Type 0} {f : List ℕ → List A} {table : TableView} {keys : List ℕ} {count k : ℕ}
    {old out : List A} → KeysTo f table keys count k old out → IsEven f count → (m : ℕ) {len : ℕ} {piece : List A} →
    len ≡ table.key_len → piece ≡ pieces_of f table (part_of keys len k m) m →
    KeysTo f table keys count (k + m) old (put_mid (k * count) ((k + m) * count - k * count) out piece)
part_written {f = f} {table = table} {keys = keys} {count = count} {k = k} {old = old} w even m {len = len}
    {piece = piece} e piece_is =
    let part : List ℕ = part_of keys len k m in
    let long : length piece ≡ m * count = ap length piece_is ∙ pieces_len f table part even m in
    record {
      is = piece_put record { is = w.is; len = pieces_len f table keys even k } piece ((k + m) * count)
          (omega (arith, long))
          ∙ ap (λ (xs : List _). xs ++ drop ((k + m) * count) old)
          (ap (λ (xs : List _). pieces_of f table keys k ++ xs) piece_is
          ∙ sym (part_pieces table keys len k m e f m (omega arith)));
    }

-- those of all keys
pub all_written : {A : Type 0} {f : List ℕ → List A} {table : TableView} {keys : List ℕ} {count k n : ℕ}
    {old out : List A} → KeysTo f table keys count k old out → k ≡ n → length old ≡ n * count →
    out ≡ pieces_of f table keys n
all_written {f = f} {table = table} {keys = keys} {count = count} {k = k} {old = old} w all room =
    let past : length old ≤ k * count = omega (arith, room, ap (λ (j : ℕ). j * count) all) in
    w.is ∙ ap (λ (xs : List _). pieces_of f table keys k ++ xs) (drop_all (k * count) old past)
    ∙ append-nil (pieces_of f table keys k) ∙ ap (λ (j : ℕ). pieces_of f table keys j) all

-- the verdicts and the marks of the first k keys are written, and their transitions counted
pub record Classified (table : TableView) (keys : List ℕ) (count marks k : ℕ) (old out : List ℕ)
    (old_won won : List Bool) (taken begun steps : ℕ) : Type 0 where
  pub verdicts : KeysTo (key_verdicts table count) table keys count k old out
  pub winners : KeysTo (key_winners table marks) table keys marks k old_won won
  pub taken_is : taken ≡ first_transitions table keys k
  pub most : taken ≤ k * (max_tries * max_key_len)
  pub counted : steps ≡ begun + taken

-- before the first key none is classified
pub classified_none : (table : TableView) (keys : List ℕ) (count marks k : ℕ) (out : List ℕ) (won : List Bool)
    (steps : ℕ) → k ≡ 0 → Classified table keys count marks k out out won won 0 steps steps
classified_none table keys count marks k out won steps none = record {
  verdicts = keys_none (key_verdicts table count) table keys count k out none;
  winners = keys_none (key_winners table marks) table keys marks k won none;
  taken_is = sym (ap (λ (j : ℕ). first_transitions table keys j) none);
  most = omega arith;
  counted = omega arith;
}

-- the verdicts and the marks of m keys, and the transitions of their walks
pub record PartClassified (table : TableView) (part : List ℕ) (count marks m : ℕ) (verdicts : List ℕ)
    (won : List Bool) (taken steps new_steps : ℕ) : Type 0 where
  pub verdicts_are : verdicts ≡ first_verdicts table count part m
  pub winners_are : won ≡ first_winners table marks part m
  pub taken_is : taken ≡ first_transitions table part m
  pub most : taken ≤ m * (max_tries * max_key_len)
  pub counted : new_steps ≡ steps + taken

-- m keys more
pub keys_more : {table : TableView} {keys old out : List ℕ} {old_won won : List Bool}
    {count marks k taken begun steps : ℕ} →
    Classified table keys count marks k old out old_won won taken begun steps →
    {verdicts : List ℕ} {marked : List Bool} {m len more new_steps : ℕ} → len ≡ table.key_len →
    PartClassified table (part_of keys len k m) count marks m verdicts marked more steps new_steps →
    Classified table keys count marks (k + m) old (put_mid (k * count) ((k + m) * count - k * count) out verdicts)
    old_won (put_mid (k * marks) ((k + m) * marks - k * marks) won marked) (taken + more) begun new_steps
keys_more {table = table} {keys = keys} {count = count} {marks = marks} {k = k} c {m = m} {len = len} e p = record {
  verdicts = part_written c.verdicts (verdicts_len table count) m e p.verdicts_are;
  winners = part_written c.winners (winners_len table marks) m e p.winners_are;
  taken_is = omega (arith, c.taken_is, p.taken_is, part_transitions table keys len k m e m (omega arith));
  most = omega (arith, c.most, p.most);
  counted = omega (arith, c.counted, p.counted);
}

-- the room for the verdicts of m keys, as the code cuts it
pub room_of_part : {A : Type 0} (out : List A) (k m n count : ℕ) → length out ≡ n * count → k + m ≤ n →
    length (part_of out count k m) ≡ m * count
room_of_part out k m n count room within =
    let fits : (k + m) * count ≤ n * count = mul-le-mul_right count within in
    omega (
      arith,
      fits,
      room,
      length-take ((k + m) * count - k * count) (drop (k * count) out),
      length-drop (k * count) out,
    )

-- the bytes of m keys more are there
pub keys_fit : (bytes len k m : ℕ) → k + m ≤ bytes / len → (k + m) * len ≤ bytes
keys_fit bytes len k m within =
    omega (arith, mul-le-mul_right len within, div-mul-le_self bytes len)

-- and there is room for their verdicts
pub room_fits : (bytes len count out k m : ℕ) {of old : ℕ} → len ≡ of → out ≡ old → old ≡ bytes / of * count →
    k + m ≤ bytes / len → (k + m) * count ≤ out
room_fits bytes len count out k m is same room within =
    let whole : out ≡ bytes / len * count = same ∙ room ∙ (λ i. bytes / sym is i * count) in
    omega (arith, mul-le-mul_right count within, whole)

-- what all keys take is within their bound
pub taken_bound : (table : TableView) (keys : List ℕ) {taken : ℕ} → taken ≡ batch_transitions table keys →
    taken ≤ most_of_batch table keys
taken_bound table keys is = omega (arith, is, batch_bound table keys)

-- ---- a batch of one key

module _ (table : TableView) (key : List ℕ) (some : 0 < table.key_len) (whole : length key ≡ table.key_len) where
  -- it has one key
  pub one_key : keys_in table key ≡ 1
  one_key = ap (λ (size : ℕ). size / table.key_len) whole ∙ div_self some

  -- which is all of it
  only_key : key_at table key 0 ≡ key
  only_key = key_alone table key (omega (arith, whole))

  -- what a function gives for each key it gives for this one
  pub one_piece_of : {A : Type 0} (f : List ℕ → List A) → f key ≡ pieces_of f table key (keys_in table key)
  one_piece_of f =
      sym (ap (λ (n : ℕ). pieces_of f table key n) one_key
      ∙ append-nil (f (key_at table key 0)) ∙ ap f only_key)

  -- and the transitions are those of its walks
  pub its_transitions : key_transitions table key ≡ batch_transitions table key
  its_transitions =
      omega (
        arith,
        ap (λ (n : ℕ). first_transitions table key n) one_key,
        transitions-more table key 0,
        ap (λ (k : List ℕ). key_transitions table k) only_key,
      )
