-- Keys that stand one after the other, as bytes.
use Rattle.std.proofs.Common.{◌≡◌, ℕ, ◌+◌, ◌*◌, ◌/◌, ◌<◌, List, [], ◌∷◌, ◌++◌, refl, sym, ap, ◌∙◌, arith, length, map}
use Rattle.std.proofs.Common.{take, drop, fold, append_assoc, length-append}
use Rattle.std.specs.Prelude.{flat_map, sum_by, ⊤}
use Rattle.std.specs.List.{concat, range_with_len}
use Rattle.std.proofs.lemmas.List.Folds.{flat_map-map}
use Rattle.std.proofs.Math.Nat.{mul-div_cancel}
use Rattle.std.proofs.Math.Seq.{take-append_seam, drop-append_seam}
use Rattle.field_defs.specs.Layout.{key_len_of}
use Rattle.rule_set.specs.Rule.{RuleSetView}
use Rattle.flat_table.specs.Table.{TableView}
use Rattle.flat_table.specs.Walk.{key_transitions}
use Rattle.flat_table.specs.Batch.{batch_transitions, key_at}
use Rattle.acl_context.specs.Batch.{key_of_batch, verdicts_by_rules}
use Rattle.bench_command.specs.Bench.{transitions_of_keys, verdicts_on_key, verdicts_on_keys}

-- each key has so many bytes
abbrev pub AreOf : ℕ → List (List ℕ) → Type 0
AreOf len [] = ⊤
AreOf len (key ∷ keys) = (length key ≡ len) × AreOf len keys

-- what is made of each element has so many bytes if it has for any
pub AreOf-map : {A : Type 0} (len : ℕ) (f : A → List ℕ) → ((x : A) → length (f x) ≡ len) → (xs : List A) →
    AreOf len (map f xs)
AreOf-map len f each [] = tt
AreOf-map len f each (x ∷ xs) = (each x, AreOf-map len f each xs)

-- keys of so many bytes have together that many for each key
pub length-bytes : (len : ℕ) (keys : List (List ℕ)) → AreOf len keys →
    length (concat keys) ≡ length keys * len
length-bytes len [] are = omega arith
length-bytes len (key ∷ keys) are =
    omega (arith, length-append key (concat keys), are.0, length-bytes len keys (are.1))

-- the keys after some bytes
keys_after : (len first : ℕ) (front : List ℕ) (keys : List (List ℕ)) → length front ≡ first * len →
    AreOf len keys →
    map (λ k. take len (drop (k * len) (front ++ concat keys))) (range_with_len first (length keys)) ≡ keys
keys_after len first front [] before are = refl
keys_after len first front (key ∷ keys) before are =
    let next : length (front ++ key) ≡ (first + 1) * len = omega (arith, length-append front key, before, are.0) in
    let cut : drop (first * len) (front ++ (key ++ concat keys)) ≡ key ++ concat keys =
    rw (sym before) (drop-append_seam front (key ++ concat keys)) in
    let head : take len (drop (first * len) (front ++ (key ++ concat keys))) ≡ key =
    ap (take len) cut ∙ rw (sym (are.0)) (take-append_seam key (concat keys)) in
    let tail = keys_after len (first + 1) (front ++ key) keys next (are.1) in
    ap (λ k. k ∷ map (λ k. take len (drop (k * len) (front ++ (key ++ concat keys))))
    (range_with_len (first + 1) (length keys))) head
    ∙ ap (λ ks. key ∷ ks)
    (ap (λ bytes. map (λ k. take len (drop (k * len) bytes)) (range_with_len (first + 1) (length keys)))
    (sym (append_assoc front key (concat keys)))
    ∙ tail)

-- the keys of their bytes
pub keys_are : (len : ℕ) (keys : List (List ℕ)) → AreOf len keys →
    map (λ k. take len (drop (k * len) (concat keys))) (range_with_len 0 (length keys)) ≡ keys
keys_are len keys are = keys_after len 0 [] keys (omega arith) are

-- a sum over a list that was mapped
sum_by_map : {A B : Type 0} (g : B → ℕ) (f : A → B) (before : ℕ) (xs : List A) →
    fold (λ total x. total + g (f x)) before xs ≡ fold (λ total y. total + g y) before (map f xs)
sum_by_map g f before [] = refl
sum_by_map g f before (x ∷ xs) = sum_by_map g f (before + g (f x)) xs

-- how many keys the bytes are
pub count_is : (len : ℕ) (keys : List (List ℕ)) → 0 < len → AreOf len keys →
    length (concat keys) / len ≡ length keys
count_is len keys some are = ap (λ n. n / len) (length-bytes len keys are) ∙ mul-div_cancel (length keys) some

-- what the rules say of the keys of their bytes
pub verdicts_are : (set : RuleSetView) (count : ℕ) (keys : List (List ℕ)) → 0 < key_len_of set.layout →
    AreOf (key_len_of set.layout) keys →
    verdicts_by_rules set count (concat keys) ≡ verdicts_on_keys set count keys
verdicts_are set count keys some are =
    let len = key_len_of set.layout in
    let at : ℕ → List ℕ = key_of_batch set.layout (concat keys) in
    ap (λ n. flat_map (λ k. verdicts_on_key set count (at k)) (range_with_len 0 n)) (count_is len keys some are)
    ∙ sym (flat_map-map (verdicts_on_key set count) at (range_with_len 0 (length keys)))
    ∙ ap (flat_map (verdicts_on_key set count)) (keys_are len keys are)

-- how many transitions the keys of their bytes take
pub transitions_are : (table : TableView) (keys : List (List ℕ)) → 0 < table.key_len → AreOf table.key_len keys →
    batch_transitions table (concat keys) ≡ transitions_of_keys table keys
transitions_are table keys some are =
    let at : ℕ → List ℕ = key_at table (concat keys) in
    ap (λ n. fold (λ total k. total + key_transitions table (at k)) 0 (range_with_len 0 n))
    (count_is table.key_len keys some are)
    ∙ sum_by_map (key_transitions table) at 0 (range_with_len 0 (length keys))
    ∙ ap (sum_by (key_transitions table)) (keys_are table.key_len keys are)
