-- A table that answers as rules do gives their verdicts for the keys of a batch.
use Rattle.std.proofs.Common.{◌≡◌, ◌↔◌, ℕ, zero, suc, ◌*◌, ◌/◌, ◌<◌, ◌≤◌, ◌==◌, List, map, take, drop, length}
use Rattle.std.proofs.Common.{Option, Some, None, refl, inl, inr, ap, ◌∙◌, arith}
use Rattle.std.specs.Prelude.{flat_map, if◌then◌else◌}
use Rattle.std.specs.List.{range_with_len}
use Rattle.std.proofs.lemmas.Bool.Decides.{eqb_tells}
use Rattle.std.proofs.lemmas.List.Elements.{All-take, All-drop}
use Rattle.list_lemmas.proofs.Maps.{map_on_range, flat_map_on_range}
use Rattle.field_defs.specs.Layout.{key_len_of}
use Rattle.rule_set.specs.Rule.{RuleSetView}
use Rattle.rule_set.specs.Winner.{winner, verdict}
use Rattle.group_states.specs.Laws.{AreBytes}
use Rattle.table_sizes.specs.Sizes.{row_len}
use Rattle.flat_table.specs.Table.{TableView}
use Rattle.flat_table.specs.Walk.{joined, table_verdict}
use Rattle.flat_table.specs.Batch.{keys_in, keys_of_len, key_at, batch_verdicts}
use Rattle.table_fill.specs.Serves.{Serves}
use Rattle.acl_context.specs.Batch.{key_of_batch, verdicts_by_rules}
use Rattle.acl_c.specs.Marks.{none_is_one, table_mark, rules_mark, batch_marks, marks_by_rules as by_rules}
use Rattle.list_lemmas.proofs.Numbers.{whole_of_lengths}
use Rattle.acl_context.proofs.Offered.{key_length}

-- what a table says of each key of a batch and each category is what the rules say, where it is so of every key
batch_agrees : (by_table by_rules : List ℕ → ℕ → ℕ) (set : RuleSetView) (table : TableView) (count : ℕ)
    (keys : List ℕ) → table.key_len ≡ key_len_of set.layout → AreBytes keys →
    length keys ≡ keys_in table keys * table.key_len →
    ((key : List ℕ) (category : ℕ) → AreBytes key → length key ≡ key_len_of set.layout → category < count →
    by_table key category ≡ by_rules key category) →
    flat_map (λ k. map (by_table (key_at table keys k)) (range_with_len 0 count))
    (range_with_len 0 (keys_in table keys))
    ≡ flat_map (λ k. map (by_rules (key_of_batch set.layout keys k)) (range_with_len 0 count))
    (range_with_len 0 (keys_of_len (key_len_of set.layout) keys))
batch_agrees by_table by_rules set table count keys same_len bytes whole_keys same =
    let n = keys_of_len (key_len_of set.layout) keys in
    let whole = whole_of_lengths keys table.key_len (key_len_of set.layout) same_len whole_keys in
    let key = key_of_batch set.layout keys in
    let of_table : ℕ → List ℕ = λ k. map (by_table (key_at table keys k)) (range_with_len 0 count) in
    let of_rules : ℕ → List ℕ = λ k. map (by_rules (key k)) (range_with_len 0 count) in
    let same_key : (k : ℕ) → key_at table keys k ≡ key k =
    λ k. ap (λ (len : ℕ). take len (drop (k * len) keys)) same_len in
    let are_bytes : (k : ℕ) → AreBytes (key k) =
    λ k. All-take (λ (byte : ℕ). byte < 256) (key_len_of set.layout) (drop (k * key_len_of set.layout) keys)
    (All-drop (λ (byte : ℕ). byte < 256) (k * key_len_of set.layout) keys bytes) in
    ap (λ (len : ℕ). flat_map of_table (range_with_len 0 (length keys / len))) same_len
    ∙ flat_map_on_range of_table of_rules 0 n (λ k from below.
    ap (λ (it : List ℕ). map (by_table it) (range_with_len 0 count)) (same_key k)
    ∙ map_on_range (by_table (key k)) (by_rules (key k)) 0 count
    (λ category least within. same (key k) category (are_bytes k)
    (key_length set keys k whole (omega (arith, below))) (omega (arith, within))))

-- the verdicts of the table are those by the rules
pub batch_by_rules : (set : RuleSetView) (table : TableView) (count : ℕ) (keys : List ℕ) → Serves set table →
    count ≤ row_len → AreBytes keys → length keys ≡ keys_in table keys * table.key_len →
    batch_verdicts table count keys ≡ verdicts_by_rules set count keys
batch_by_rules set table count keys serves few bytes whole =
    batch_agrees (table_verdict table) (verdict set.layout set.rules) set table count keys serves.key_len bytes whole
    (λ key category are long below. serves.verdicts key category are long (omega (arith, below, few)))

-- a number that is 0 exactly where there is no place is marked as the place is
one_mark : (word : ℕ) (place : Option ℕ) → (word ≡ 0 ↔ place ≡ None) →
    (if word == 0 then 1 else 0) ≡ none_is_one place
one_mark zero None both = refl
one_mark zero (Some place) both = absurd (cc (both.0 refl))
one_mark (suc word) None both = absurd (omega (arith, both.1 refl))
one_mark (suc word) (Some place) both = elim (eqb_tells (suc word) 0) [
  | inl same ↦ absurd (omega (arith, same.1))
  | inr other ↦ rw other.0 refl
]

-- the marks of the table are those by the rules
pub marks_by_rules : (set : RuleSetView) (table : TableView) (count : ℕ) (keys : List ℕ) → Serves set table →
    count ≤ row_len → AreBytes keys → length keys ≡ keys_in table keys * table.key_len →
    batch_marks table count keys ≡ by_rules set count keys
marks_by_rules set table count keys serves few bytes whole =
    batch_agrees (table_mark table) (rules_mark set) set table count keys serves.key_len bytes whole
    (λ key category are long below.
    one_mark (joined table key category) (winner set.layout set.rules key category)
    (serves.none key category are long (omega (arith, below, few))))
