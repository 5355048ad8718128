-- What is kept of an audit tells the least keys.
use Rattle.std.proofs.Common.{◌≡◌, ℕ, zero, suc, ◌+◌, ◌-◌, ◌*◌, ◌<◌, ◌≤◌, ◌==◌, List, [], ◌∷◌, length, map, take, drop}
use Rattle.std.proofs.Common.{get_or, cond, Bool, true, false, Option, Some, None, refl, sym, ◌∙◌, ap, subst, arith, inl, inr, length-append}
use Rattle.std.specs.List.{AllByRecursion, flat_map, range_with_len}
use Rattle.std.specs.Str.{bytes_eq}
use Rattle.std.proofs.lemmas.Bool.{eqb-true}
use Rattle.std.proofs.lemmas.List.{length-map, get_or_default}
use Rattle.field_defs.specs.Layout.{key_len_of}
use Rattle.list_lemmas.proofs.Maps.{map_by_place}
use Rattle.rule_set.specs.Fault.{categories}
use Rattle.rule_set.specs.Laws.{TheWinnerIsAmongAllPlaces}
use Rattle.rule_set.specs.Rule.{RuleSetView}
use Rattle.table_sizes.specs.Sizes.{row_len}
use Rattle.group_states.specs.Found.{prefixes}
use Rattle.group_states.specs.Kept.{kept_places}
use Rattle.group_states.specs.Laws.{IsGrouped}
use Rattle.group_states.specs.Levels.{levels_of}
use Rattle.group_states.specs.Row.{final_row}
use Rattle.group_states.specs.State.{state, is_live}
use Rattle.list_lemmas.proofs.Each.{all_weaker}
use Rattle.group_states.proofs.Offered.{All-found_in, prefixes_are, IsPrefix}
use Rattle.acl_audit.specs.declared.links.Link.{Link}
use Rattle.acl_audit.specs.Audited.{key_numbered, keys_of, HasKeys}
use Rattle.acl_audit.specs.Firsts.{first_from, number_at, AreFirsts}
use Rattle.acl_audit.specs.Least.{least_key, least_keys, all_rules}
use Rattle.acl_audit.specs.Links.{links_of}
use Rattle.acl_audit.specs.Traced.{traced, keys_traced, AreChained}
use Rattle.acl_audit.proofs.Leading.{rows_found}
use Rattle.acl_audit.proofs.Through.{zero_bytes, rows_values, lead_through}
use Rattle.acl_audit.proofs.Tracing.{are_chained, traced_row, count_last, places_rise, by_place, key_of_number}
use Rattle.acl_audit.proofs.Winning.{row_at, least_by_rows, IsFirst, first_found}

-- keys of one length take so many bytes for each
room_for : (len : ℕ) (keys : List (List ℕ)) → AllByRecursion (λ key. length key ≡ len) keys → (n : ℕ)
    → n ≤ length keys → n * len ≤ length (flat_map (λ key. key) keys)
room_for len keys long zero within = (let e : 0 * len ≡ 0 = omega arith in omega (arith, e))
room_for len [] long (suc n) within = absurd (omega (arith, within))
room_for len (key ∷ keys) long (suc n) within =
    let e : suc n * len ≡ len + n * len = grind arith in
    omega (
      arith,
      e,
      long.0,
      length-append key (flat_map (λ k. k) keys),
      room_for len keys long.1 n (omega (arith, within)),
    )

module _ (set : RuleSetView) (is : IsGrouped set (all_rules set)) (among : TheWinnerIsAmongAllPlaces) where
  -- all rules of the set
  abbrev group : List ℕ
  group = all_rules set

  -- how many bytes a key has
  abbrev len : ℕ
  len = key_len_of set.layout

  -- the least key of each row
  abbrev pub keys : List (List ℕ)
  keys = rows_found set (all_rules set) is (prefixes (key_len_of set.layout))

  -- the links of each kept place
  abbrev levels : List (List Link)
  levels = map links_of (levels_of set (all_rules set)).levels

  -- the rows are those of the keys, in order
  pub rows_are : (levels_of set (all_rules set)).rows ≡ map (row_at set is among 0 0 (omega arith)) keys
  unfolding levels_of
  rows_are = rows_values set (all_rules set) is

  -- each key has as many bytes as the layout says
  pub all_long : AllByRecursion (λ key. length key ≡ key_len_of set.layout) keys
  all_long =
      All-found_in (λ x y. bytes_eq (final_row set (state set (all_rules set) x))
      (final_row set (state set (all_rules set) y)))
      (λ x. is_live (final_row set (state set (all_rules set) x))) (λ key. length key ≡ key_len_of set.layout)
      (prefixes (key_len_of set.layout))
      (all_weaker (IsPrefix (key_len_of set.layout))
      (λ key. is_live (final_row set (state set (all_rules set) key)) ≡ true → length key ≡ key_len_of set.layout)
      (prefixes (key_len_of set.layout)) (λ key begins live. begins.1) (prefixes_are (key_len_of set.layout)))

  -- there are as many rows as keys
  pub row_count : length (levels_of set (all_rules set)).rows ≡ length keys
  row_count = ap length rows_are ∙ length-map keys (row_at set is among 0 0 (omega arith))

  -- each link leads back to one of the place before
  pub chain : AreChained levels
  chain = (let led = lead_through set (all_rules set) is in are_chained led.chained.0 levels led.chained.1)

  -- there is a kept place
  pub some_levels : 0 < length levels
  some_levels = (let led = lead_through set (all_rules set) is in omega (arith, led.some, led.long))

  -- there are links for each kept place
  pub levels_long : length levels ≡ length (kept_places set (all_rules set))
  levels_long = (lead_through set (all_rules set) is).long

  -- the kept places rise
  rising : (d e : ℕ) → d < e → e < length (kept_places set (all_rules set))
      → get_or (kept_places set (all_rules set)) d 0 < get_or (kept_places set (all_rules set)) e 0
  rising = places_rise set (all_rules set) (kept_places set (all_rules set)) (lead_through set (all_rules set) is).gaps

  -- there are as many rows as links of the last place
  pub last_links : length (levels_of set (all_rules set)).rows ≡ length (get_or levels (length levels - 1) [])
  last_links =
      row_count
      ∙ ap length (sym (lead_through set (all_rules set) is).rows)
      ∙ count_last (key_len_of set.layout) levels (kept_places set (all_rules set)) chain levels_long rising some_levels

  -- the key that is read off the links from a row is that of the row
  pub key_read : (row : ℕ) → row < length (levels_of set (all_rules set)).rows
      → traced levels (kept_places set (all_rules set)) (length levels) row (zero_bytes (key_len_of set.layout))
      ≡ get_or keys row (zero_bytes (key_len_of set.layout))
  key_read row below =
      traced_row (key_len_of set.layout) levels (kept_places set (all_rules set)) chain levels_long rising some_levels
      row (omega (arith, below, last_links))
      ∙ ap (λ ks. get_or ks row (zero_bytes (key_len_of set.layout))) (lead_through set (all_rules set) is).rows

  -- and so for all rows
  keys_read : keys_traced levels (kept_places set (all_rules set)) (key_len_of set.layout)
      (length (levels_of set (all_rules set)).rows) ≡ flat_map (λ key. key) keys
  unfolding keys_traced
  keys_read =
      ap (λ n. flat_map (λ row. traced levels (kept_places set (all_rules set)) (length levels) row
      (zero_bytes (key_len_of set.layout))) (range_with_len 0 n)) row_count
      ∙ by_place (λ row. traced levels (kept_places set (all_rules set)) (length levels) row
      (zero_bytes (key_len_of set.layout))) keys (zero_bytes (key_len_of set.layout)) 0
      (λ row below. (let e : 0 + row ≡ row = omega arith in
      ap (λ r. traced levels (kept_places set (all_rules set)) (length levels) r
      (zero_bytes (key_len_of set.layout))) e
      ∙ key_read row (omega (arith, below, row_count))))

  -- the key of a first row's number is the least key
  key_told : (rule category number : ℕ) (found : Option (List ℕ)) → IsFirst keys 0 number found
      → key_numbered (flat_map (λ key. key) keys) (key_len_of set.layout) number ≡ found
  key_told rule category number found (inl (none, is_none)) =
      ap (key_numbered (flat_map (λ key. key) keys) (key_len_of set.layout)) none ∙ sym is_none
  key_told rule category number found (inr (k, below, is_k, is_found)) =
      let e : number ≡ suc k = omega (arith, is_k) in
      ap (key_numbered (flat_map (λ key. key) keys) (key_len_of set.layout)) e
      ∙ differs (suc k == 0) (λ same. omega (arith, eqb-true (suc k) 0 same))
      ∙ ap (λ m. Some (take (key_len_of set.layout) (drop (m * key_len_of set.layout) (flat_map (λ key. key) keys))))
      (let one : suc k - 1 ≡ k = omega arith in one)
      ∙ ap Some (key_of_number (key_len_of set.layout) keys all_long k below)
      ∙ sym is_found
    where
      differs : (b : Bool) → (b ≡ true → ⊥) → {x : Option (List ℕ)} → cond b None x ≡ x
      differs true no_way = absurd (no_way refl)
      differs false no_way = refl

  -- the first row that names a rule is that of the rule's least key
  first_is : (rule category : ℕ) (within : category < row_len)
      → IsFirst keys 0 (first_from 0 (levels_of set (all_rules set)).rows rule category) (least_key set rule category)
  first_is rule category within =
      subst (λ rows. IsFirst keys 0 (first_from 0 rows rule category) (least_key set rule category)) (sym rows_are)
      (subst (IsFirst keys 0 (first_from 0 (map (row_at set is among 0 0 (omega arith)) keys) rule category))
      (sym (least_by_rows set is among rule category within))
      (first_found (row_at set is among 0 0 (omega arith)) rule category 0 keys))

  -- the number of a first row is at most that of all keys
  low_number : (number : ℕ) (found : Option (List ℕ)) → IsFirst keys 0 number found → number ≤ length keys
  low_number number found (inl (none, is_none)) = omega (arith, none)
  low_number number found (inr (k, below, is_k, is_found)) = omega (arith, below, is_k)

  -- numbers of first rows and the keys of the rows tell the least keys
  module _ (firsts : List (List ℕ))
      (are : AreFirsts (levels_of set (all_rules set)).rows (length set.rules) firsts) where
    -- the least keys of a rule are those of its first rows, category by category
    one_rule : (rule : ℕ) → rule < length firsts
        → map (least_key set rule) categories
        ≡ map (key_numbered (flat_map (λ key. key) keys) (key_len_of set.layout)) (get_or firsts rule [])
    unfolding categories
    one_rule rule below =
        let long : length (get_or firsts rule []) ≡ 16 = are.whole rule [] below in
        ap (λ n. map (least_key set rule) (range_with_len 0 n)) (sym long)
        ∙ map_by_place (least_key set rule) (key_numbered (flat_map (λ key. key) keys) (key_len_of set.layout)) 0 0
        (get_or firsts rule [])
        (λ category within. (let e : 0 + category ≡ category = omega arith in
        ap (least_key set rule) e
        ∙ sym (ap (key_numbered (flat_map (λ key. key) keys) (key_len_of set.layout))
        (are.each rule category (omega (arith, below, are.long)) (omega (arith, within, long)))
        ∙ key_told rule category _ _ (first_is rule category (omega (arith, within, long))))))

    -- the keys of all first rows are the least keys of the set
    pub told : keys_of firsts (keys_traced levels (kept_places set (all_rules set)) (key_len_of set.layout)
        (length (levels_of set (all_rules set)).rows)) (key_len_of set.layout) ≡ least_keys set
    unfolding least_keys
    told =
        ap (λ ks. keys_of firsts ks (key_len_of set.layout)) keys_read
        ∙ sym (ap (λ n. map (λ rule. map (least_key set rule) categories) (range_with_len 0 n)) (sym are.long)
        ∙ map_by_place (λ rule. map (least_key set rule) categories)
        (map (key_numbered (flat_map (λ key. key) keys) (key_len_of set.layout))) [] 0 firsts
        (λ rule below. (let e : 0 + rule ≡ rule = omega arith in
        ap (λ r. map (least_key set r) categories) e ∙ one_rule rule below)))

    -- each first row has its key among those that are read off the links
    pub has_keys : HasKeys firsts (keys_traced levels (kept_places set (all_rules set)) (key_len_of set.layout)
        (length (levels_of set (all_rules set)).rows)) (key_len_of set.layout)
    has_keys = subst (λ ks. HasKeys firsts ks (key_len_of set.layout)) (sym keys_read) (record {
      whole = are.whole;
      within = λ rule d below category e inside.
          (let long : length (get_or firsts rule d) ≡ 16 = are.whole rule d below in
          let number : get_or (get_or firsts rule d) category e ≡ number_at firsts rule category =
          get_or_default (get_or firsts rule d) category e 0 inside
          ∙ ap (λ l. get_or l category 0) (get_or_default firsts rule d [] below) in
          let low = low_number _ _ (first_is rule category (omega (arith, inside, long))) in
          let first = are.each rule category (omega (arith, below, are.long)) (omega (arith, inside, long)) in
          subst (λ n. n * key_len_of set.layout ≤ length (flat_map (λ key. key) keys)) (sym (number ∙ first))
          (room_for (key_len_of set.layout) keys all_long _ low));
    })
