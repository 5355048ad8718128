-- What an audit of the merged states of all rules stands on, at each of its calls.
use Rattle.std.proofs.Common.{◌≡◌, ℕ, ◌-◌, ◌^◌, ◌<◌, ◌≤◌, List, [], length, map, get_or, sym, ◌∙◌, ap, subst, All, Option}
use Rattle.std.proofs.Common.{replicate, arith}
use Rattle.std.proofs.lemmas.List.{get_or_default}
use Rattle.std.proofs.lemmas.List.FromFn.{length-map-range_with_len}
use Rattle.std.specs.List.{range_with_len}
use Rattle.field_defs.specs.Layout.{key_len_of}
use Rattle.field_defs.proofs.Offered.{short_keys}
use Rattle.rule_set.specs.Fault.{categories}
use Rattle.rule_set.specs.Rule.{RuleSetView}
use Rattle.table_sizes.specs.Groups.{kept_places as places_of_bits, max_key_len}
use Rattle.table_sizes.specs.Sizes.{max_words, row_len}
use Rattle.group_states.specs.declared.run.Run.{Run}
use Rattle.group_states.specs.Kept.{kept_places}
use Rattle.group_states.specs.Laws.{IsGrouped}
use Rattle.group_states.specs.Levels.{LevelsView, levels_of}
use Rattle.acl_audit.specs.declared.links.Link.{Link}
use Rattle.acl_audit.specs.Audited.{keys_of, HasKeys}
use Rattle.acl_audit.specs.Firsts.{AreFirsts}
use Rattle.acl_audit.specs.Least.{all_rules, least_key, least_keys}
use Rattle.acl_audit.specs.Links.{links_of}
use Rattle.acl_audit.specs.Traced.{traced, keys_traced, key_of_row, AreChained}
use Rattle.acl_audit.specs.Ways.{AreMerged, IsWay}
use Rattle.acl_audit.proofs.Fitting.{all_are_group, places_are, places_below, few_states, few_rows, rows_long, rows_low}
use Rattle.acl_audit.proofs.Telling.{keys, row_count, chain, levels_long, last_links, key_read, told, has_keys}

-- the links of each place, as the code makes them
abbrev pub all_links : LevelsView → List (List Link)
all_links levels = map links_of levels.levels

-- the kept places of the merged states
abbrev pub all_places : RuleSetView → LevelsView → List ℕ
all_places set levels = places_of_bits (key_len_of set.layout) levels.kept

module _ (set : RuleSetView) (levels : LevelsView) (its : AreMerged set levels) where
  -- the rules of the set are one group
  pub grouped : IsGrouped set (all_rules set)
  grouped = record { rules = its.rules; layout = its.layout; group = all_are_group set its.some }

  -- the states of each place are few enough for their numbers
  pub states_fit : levels.words ≤ max_words
      → All (λ (states : List (List Run)). length states ≤ 2 ^ 32) levels.levels
  states_fit within =
      subst (λ (l : LevelsView). All (λ (states : List (List Run)). length states ≤ 2 ^ 32) l.levels) (sym its.merged)
      (few_states set (all_rules set) (subst (λ (l : LevelsView). l.words ≤ max_words) its.merged within))

  -- the rows are few enough for their numbers
  pub rows_few : levels.words ≤ max_words → length levels.rows < 2 ^ 32
  rows_few within =
      subst (λ (l : LevelsView). length l.rows < 2 ^ 32) (sym its.merged)
      (few_rows set (all_rules set) (subst (λ (l : LevelsView). l.words ≤ max_words) its.merged within))

  -- each entry of a row names a rule of the set, or none
  pub rows_fit : All (All (λ entry. entry ≤ length set.rules)) levels.rows
  rows_fit =
      subst (λ (l : LevelsView). All (All (λ entry. entry ≤ length set.rules)) l.rows) (sym its.merged)
      (rows_low set grouped its.among)

  -- each row has an entry for each category
  pub rows_wide : All (λ row. length row ≡ row_len) levels.rows
  rows_wide =
      subst (λ (l : LevelsView). All (λ row. length row ≡ row_len) l.rows) (sym its.merged)
      (rows_long set grouped its.among)

  -- each link leads back to one of the place before
  pub chained_fit : AreChained (all_links levels)
  chained_fit = subst (λ (l : LevelsView). AreChained (map links_of l.levels)) (sym its.merged)
      (chain set grouped its.among)

  -- there are as many rows as links of the last place
  pub last_fit : length levels.rows ≡ length (get_or (all_links levels) (length (all_links levels) - 1) [])
  last_fit =
      subst (λ (l : LevelsView). length l.rows
      ≡ length (get_or (map links_of l.levels) (length (map links_of l.levels) - 1) [])) (sym its.merged)
      (last_links set grouped its.among)

  -- the kept places are those of the group of all rules
  places_same : all_places set levels ≡ kept_places set (all_rules set)
  places_same = ap (λ (l : LevelsView). places_of_bits (key_len_of set.layout) l.kept) its.merged
      ∙ places_are set (all_rules set)

  -- there are as many kept places as lists of links
  pub long_fit : length (all_places set levels) ≡ length (all_links levels)
  long_fit =
      ap length places_same ∙ sym (levels_long set grouped its.among)
      ∙ ap (λ (l : LevelsView). length (map links_of l.levels)) (sym its.merged)

  -- each kept place is one of a key
  pub places_fit : All (λ place. place < key_len_of set.layout) (all_places set levels)
  places_fit = subst (All (λ place. place < key_len_of set.layout)) (sym places_same)
      (places_below set (all_rules set))

  -- the key of a row is the least one that leads there
  pub row_key_is : (row : ℕ) → row < length levels.rows
      → key_of_row set levels row ≡ get_or (keys set grouped its.among) row []
  row_key_is row below =
      let inside : row < length (levels_of set (all_rules set)).rows =
      subst (λ (l : LevelsView). row < length l.rows) its.merged below in
      (λ i. traced (map links_of (its.merged i).levels) (places_same i)
      (length (map links_of (its.merged i).levels)) row
      (replicate (key_len_of set.layout) 0))
      ∙ key_read set grouped its.among row inside
      ∙ get_or_default (keys set grouped its.among) row (replicate (key_len_of set.layout) 0) []
      (omega (arith, inside, row_count set grouped its.among))

  -- the keys that are read off the links are those of the merged states
  keys_same : keys_traced (all_links levels) (all_places set levels) (key_len_of set.layout) (length levels.rows)
      ≡ keys_traced (map links_of (levels_of set (all_rules set)).levels) (kept_places set (all_rules set))
      (key_len_of set.layout) (length (levels_of set (all_rules set)).rows)
  keys_same =
      (λ i. keys_traced (map links_of (its.merged i).levels) (places_same i) (key_len_of set.layout)
      (length (its.merged i).rows))

  -- each first row has its key among them
  pub keys_fit : (firsts : List (List ℕ)) → AreFirsts levels.rows (length set.rules) firsts
      → HasKeys firsts (keys_traced (all_links levels) (all_places set levels) (key_len_of set.layout)
      (length levels.rows)) (key_len_of set.layout)
  keys_fit firsts are =
      subst (λ ks. HasKeys firsts ks (key_len_of set.layout)) (sym keys_same)
      (has_keys set grouped its.among firsts
      (subst (λ (l : LevelsView). AreFirsts l.rows (length set.rules) firsts) its.merged are))

  -- the keys of the first rows are the least keys
  pub keys_told : (firsts : List (List ℕ)) → AreFirsts levels.rows (length set.rules) firsts
      → keys_of firsts (keys_traced (all_links levels) (all_places set levels) (key_len_of set.layout)
      (length levels.rows)) (key_len_of set.layout) ≡ least_keys set
  keys_told firsts are =
      ap (λ ks. keys_of firsts ks (key_len_of set.layout)) keys_same
      ∙ told set grouped its.among firsts
      (subst (λ (l : LevelsView). AreFirsts l.rows (length set.rules) firsts) its.merged are)

-- ---- the way back

module _ (set : RuleSetView) (levels : LevelsView) (links : List (List Link)) (places : List ℕ) (len : ℕ)
    (way : IsWay set levels links places len) where
  -- the keys of a way are no longer than a key may be
  pub way_short : len ≤ max_key_len
  way_short = omega (arith, way.len_is, (short_keys set.layout way.its.layout).1)

  -- the links of a way are chained
  pub way_chained : AreChained links
  way_chained = subst AreChained (sym way.links_are) (chained_fit set levels way.its)

  -- there are as many rows as last links of a way
  pub way_last : length levels.rows ≡ length (get_or links (length links - 1) [])
  way_last =
      subst (λ (ls : List (List Link)). length levels.rows ≡ length (get_or ls (length ls - 1) [])) (sym way.links_are)
      (last_fit set levels way.its)

  -- a way has a kept place for each list of links
  pub way_long : length places ≡ length links
  way_long = ap length way.places_are ∙ long_fit set levels way.its ∙ ap length (sym way.links_are)

  -- each kept place of a way is one of a key
  pub way_within : All (λ place. place < len) places
  way_within =
      subst (λ n. All (λ place. place < n) places) (sym way.len_is)
      (subst (All (λ place. place < key_len_of set.layout)) (sym way.places_are) (places_fit set levels way.its))

  -- the keys that are read off a way are those of the merged states
  way_keys : keys_traced links places len (length levels.rows)
      ≡ keys_traced (all_links levels) (all_places set levels) (key_len_of set.layout) (length levels.rows)
  way_keys = λ i. keys_traced (way.links_are i) (way.places_are i) (way.len_is i) (length levels.rows)

  -- the least keys that the way leads to are those that the audit tells
  pub way_has_keys : (firsts : List (List ℕ)) (all_keys : List ℕ) → AreFirsts levels.rows (length set.rules) firsts
      → all_keys ≡ keys_traced links places len (length levels.rows) → HasKeys firsts all_keys len
  way_has_keys firsts all_keys are keys_are =
      subst (λ n. HasKeys firsts all_keys n) (sym way.len_is)
      (subst (λ ks. HasKeys firsts ks (key_len_of set.layout)) (sym (keys_are ∙ way_keys))
      (keys_fit set levels way.its firsts are))

  -- a way's keys of the first rows are the least keys
  pub way_tells : (firsts : List (List ℕ)) (all_keys : List ℕ) → AreFirsts levels.rows (length set.rules) firsts
      → all_keys ≡ keys_traced links places len (length levels.rows) → keys_of firsts all_keys len ≡ least_keys set
  way_tells firsts all_keys are keys_are =
      (λ i. keys_of firsts ((keys_are ∙ way_keys) i) (way.len_is i)) ∙ keys_told set levels way.its firsts are

-- where there is no rule there is no key
pub no_keys : (set : RuleSetView) → length set.rules ≡ 0 → [] ≡ least_keys set
unfolding least_keys
no_keys set none = ap (λ n. map (λ rule. map (least_key set rule) categories) (range_with_len 0 n)) (sym none)

-- there are keys for each rule
pub count_of_keys : (set : RuleSetView) (all_keys : List (List (Option (List ℕ)))) → all_keys ≡ least_keys set
    → length all_keys ≡ length set.rules
unfolding least_keys
count_of_keys set all_keys are =
    ap length are ∙ length-map-range_with_len (λ rule. map (least_key set rule) categories) 0 (length set.rules)
