-- A table that answers as rules do gives their verdicts for the keys of a batch.
use Rattle.std.proofs.Common.{◌≡◌, ℕ, ◌*◌, ◌/◌, ◌<◌, ◌≤◌, List, map, take, drop, length, get_or, ap, ◌∙◌, arith}
use Rattle.std.proofs.Common.{length-take, length-drop}
use Rattle.std.specs.Prelude.{flat_map}
use Rattle.std.specs.List.{range_with_len}
use Rattle.std.proofs.lemmas.List.{get_or_default}
use Rattle.std.proofs.lemmas.List.Elements.{All-take, All-drop}
use Rattle.std.proofs.Math.Nat.{mul-le-mul_right}
use Rattle.list_lemmas.proofs.Maps.{map_on_range, flat_map_on_range}
use Rattle.field_defs.specs.Layout.{key_len_of}
use Rattle.rule_set.specs.Rule.{RuleSetView}
use Rattle.rule_set.specs.Winner.{verdict}
use Rattle.group_states.specs.Laws.{AreBytes}
use Rattle.table_sizes.specs.Sizes.{row_len}
use Rattle.flat_table.specs.Table.{TableView}
use Rattle.flat_table.specs.Walk.{table_verdict}
use Rattle.flat_table.specs.Batch.{keys_of_len, key_at, key_verdicts, batch_verdicts}
use Rattle.table_fill.specs.Serves.{Serves}
use Rattle.acl_context.specs.Batch.{key_of_batch, verdicts_by_rules}

-- numbers that fit eight bits are bytes
pub are_bytes_from_fits : (keys : List ℕ) → ((k : ℕ) → get_or keys k 0 < 256) → AreBytes keys
are_bytes_from_fits keys fits = λ k d below. rw (get_or_default keys k d 0 below) (fits k)

-- a key of a batch has the layout's length
pub key_length : (set : RuleSetView) (keys : List ℕ) (k : ℕ) →
    length keys ≡ keys_of_len (key_len_of set.layout) keys * key_len_of set.layout →
    k < keys_of_len (key_len_of set.layout) keys →
    length (key_of_batch set.layout keys k) ≡ key_len_of set.layout
key_length set keys k whole below =
    let len = key_len_of set.layout in
    let within = mul-le-mul_right len below in
    length-take len (drop (k * len) keys) ∙ omega (arith, length-drop (k * len) keys, within, whole)

-- the verdicts of the table are those by the rules
pub batch_by_rules : (set : RuleSetView) (table : TableView) (count : ℕ) (keys : List ℕ) → Serves set table →
    count ≤ row_len → AreBytes keys → length keys ≡ keys_of_len (key_len_of set.layout) keys * key_len_of set.layout →
    batch_verdicts table count keys ≡ verdicts_by_rules set count keys
batch_by_rules set table count keys serves few bytes whole =
    let n = keys_of_len (key_len_of set.layout) keys in
    let key = key_of_batch set.layout keys in
    let by_table : ℕ → List ℕ = λ k. key_verdicts table count (key_at table keys k) in
    let by_rules : ℕ → List ℕ = λ k. map (verdict set.layout set.rules (key k)) (range_with_len 0 count) in
    let same_key : (k : ℕ) → key_at table keys k ≡ key k =
    λ k. ap (λ (len : ℕ). take len (drop (k * len) keys)) serves.key_len in
    let are_bytes : (k : ℕ) → AreBytes (key k) =
    λ k. All-take (λ (byte : ℕ). byte < 256) (key_len_of set.layout) (drop (k * key_len_of set.layout) keys)
    (All-drop (λ (byte : ℕ). byte < 256) (k * key_len_of set.layout) keys bytes) in
    ap (λ (len : ℕ). flat_map by_table (range_with_len 0 (length keys / len))) serves.key_len
    ∙ flat_map_on_range by_table by_rules 0 n (λ k from below.
    ap (key_verdicts table count) (same_key k)
    ∙ map_on_range (table_verdict table (key k)) (verdict set.layout set.rules (key k)) 0 count
    (λ category least within. serves.verdicts (key k) category (are_bytes k)
    (key_length set keys k whole (omega (arith, below))) (omega (arith, within, few))))
