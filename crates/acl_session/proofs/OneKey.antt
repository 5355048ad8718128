-- The verdicts of a batch of one key.
use Rattle.std.proofs.Common.{◌≡◌, ℕ, ◌*◌, ◌/◌, ◌<◌, List, length, map, take, drop, ap}
use Rattle.std.proofs.Common.{◌∙◌, arith, append-nil, Option, Some, None}
use Rattle.std.specs.Prelude.{flat_map, IfSome}
use Rattle.std.specs.List.{range_with_len}
use Rattle.std.proofs.Math.Nat.{mul-div_cancel}
use Rattle.std.proofs.lemmas.List.{take_all}
use Rattle.field_defs.specs.Layout.{key_len_of}
use Rattle.rule_set.specs.Rule.{RuleSetView}
use Rattle.rule_set.specs.Winner.{verdict}
use Rattle.flat_table.specs.Batch.{KeysFit, keys_of_len}
use Rattle.flat_table.specs.Table.{TableView}
use Rattle.table_fill.specs.Serves.{Serves}
use Rattle.acl_context.specs.Batch.{key_of_batch, verdicts_by_rules}

-- the bytes are one key
pub one_key : (len : ℕ) (key : List ℕ) → 0 < len → length key ≡ len → keys_of_len len key ≡ 1
one_key len key some is =
    let once : length key ≡ 1 * len = omega (arith, is) in
    ap (λ n. n / len) once ∙ mul-div_cancel 1 some

-- and so they fit
pub one_fits : (len : ℕ) (key : List ℕ) (count room : ℕ) → 0 < len → length key ≡ len → room ≡ count
    → KeysFit len key count room
one_fits len key count room some is same =
    let one = one_key len key some is in
    record {
      whole = rw one (omega (arith, is));
      few = rw one (omega arith);
      room_fits = rw one (omega (arith, same));
    }

-- the verdicts of the batch are those of the key
pub verdicts_of_one : (set : RuleSetView) (count : ℕ) (key : List ℕ) → 0 < key_len_of set.layout
    → length key ≡ key_len_of set.layout
    → verdicts_by_rules set count key ≡ map (verdict set.layout set.rules key) (range_with_len 0 count)
verdicts_of_one set count key some is =
    let of_key : List ℕ → List ℕ = λ k. map (verdict set.layout set.rules k) (range_with_len 0 count) in
    let len = key_len_of set.layout in
    let none : 0 * len ≡ 0 = omega arith in
    let whole : key_of_batch set.layout key 0 ≡ key =
    ap (λ (n : ℕ). take len (drop n key)) none ∙ take_all len key (omega (arith, is)) in
    ap (λ n. flat_map (λ k. of_key (key_of_batch set.layout key k)) (range_with_len 0 n))
    (one_key (key_len_of set.layout) key some is)
    ∙ append-nil (of_key (key_of_batch set.layout key 0))
    ∙ ap of_key whole

-- the table that serves rules says of the key what they say
pub served_one : (table : Option TableView) (set : RuleSetView) (count : ℕ) (key out : List ℕ)
    → 0 < key_len_of set.layout → length key ≡ key_len_of set.layout
    → IfSome table (λ t. Serves set t → out ≡ verdicts_by_rules set count key)
    → IfSome table (λ t. Serves set t → out ≡ map (verdict set.layout set.rules key) (range_with_len 0 count))
served_one None set count key out some is served = tt
served_one (Some table) set count key out some is served = λ serves.
    served serves ∙ verdicts_of_one set count key some is
