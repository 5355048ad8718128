-- The links of all kept places lead from the first byte to the least key of each row.
use Rattle.std.proofs.Common.{◌≡◌, ℕ, zero, suc, ◌+◌, ◌<◌, ◌≤◌, ◌==◌, List, [], ◌∷◌, ◌++◌, length, map, take, get_or}
use Rattle.std.proofs.Common.{replicate, slice_set, Bool, true, false, cond, ◌&&◌, refl, sym, ◌∙◌, ap, subst, arith}
use Rattle.std.specs.List.{AllByRecursion, position_or_len}
use Rattle.std.specs.Str.{bytes_eq}
use Rattle.std.proofs.lemmas.List.{take_all, length-map, length-replicate}
use Rattle.field_defs.specs.Layout.{key_len_of}
use Rattle.field_defs.proofs.Offered.{short_keys}
use Rattle.rule_set.specs.Rule.{RuleSetView}
use Rattle.group_states.specs.declared.run.Run.{Run}
use Rattle.group_states.specs.Found.{found_in, prefixes}
use Rattle.group_states.specs.Kept.{is_wild_place, kept_places}
use Rattle.list_lemmas.proofs.Maps.{map_agree}
use Rattle.group_states.specs.Laws.{IsGrouped}
use Rattle.group_states.specs.Levels.{runs_of, states_at, state_succ, row_succ, level_runs, levels_of}
use Rattle.group_states.specs.Row.{final_row, rows_of}
use Rattle.group_states.specs.State.{Held, state, same_state, is_live}
use Rattle.list_lemmas.proofs.Each.{all_weaker}
use Rattle.list_lemmas.proofs.Tests.{bytes_eq_refl}
use Rattle.group_states.proofs.Offered.{All-found_in, Gaps, HasFirst, kept_places_first, zeros_small, same_state_refl}
use Rattle.acl_audit.specs.declared.links.Link.{Link}
use Rattle.acl_audit.specs.Keyed.{keyed, keys_after}
use Rattle.acl_audit.specs.Links.{is_next, links_of}
use Rattle.acl_audit.proofs.Finding.{found_by, found_by-map, values_found}
use Rattle.acl_audit.proofs.Keys.{KeyFrom, key_later, written, states_found, Lead}
use Rattle.acl_audit.proofs.Keys.{AreLeast, lead_over}
use Rattle.acl_audit.proofs.Leading.{next_begins, next_keys, links_below, live_says, live_says_row, row_for}
use Rattle.acl_audit.proofs.Leading.{rows_found}
use Rattle.acl_audit.proofs.Leading.{level_is, rows_by_states, lead_next}

-- Each link of a level leads back to one of so many states, and so on.
abbrev pub ChainedFrom : ℕ → List (List Link) → Type 0
ChainedFrom count [] = Unit {0}
ChainedFrom count (links ∷ levels) =
    AllByRecursion (λ (link : Link). link.before < count) links × ChainedFrom (length links) levels

-- so many bytes 0
abbrev pub zero_bytes : ℕ → List ℕ
zero_bytes count = replicate count 0

module _ (set : RuleSetView) (group : List ℕ) (is : IsGrouped set group) where
  -- The links of the levels of some places lead from keys to the least keys of all rows.
  pub record IsThrough (places : List ℕ) (keys : List (List ℕ)) (levels : List (List Link)) : Type 0 where
    pub rows : keys_after (key_len_of set.layout) keys places levels
        ≡ rows_found set group is (prefixes (key_len_of set.layout))
    pub chained : ChainedFrom (length keys) levels
    pub long : length levels ≡ length places

  -- the rows are those of the keys that are found by their rows
  pub rows_values : rows_of set group ≡ map (row_for set group is)
      (rows_found set group is (prefixes (key_len_of set.layout)))
  unfolding rows_of
  rows_values = values_found bytes_eq is_live (row_for set group is) (prefixes (key_len_of set.layout))

  -- the states of a place are those of the prefixes that are found by their states
  states_values : (place : ℕ)
      → states_at set group place ≡ map (state set group) (states_found set group is (prefixes place))
  unfolding states_at
  states_values place = values_found same_state is_live (state set group) (prefixes place)

  -- a row comes next exactly if it is live and that is its number
  row_says : (v : List ℕ) (count : ℕ) → is_next count (row_succ (rows_of set group) v)
      ≡ (is_live v && position_or_len (bytes_eq v) (rows_of set group) == count)
  row_says v count = live_says_row count (position_or_len (bytes_eq v) (rows_of set group)) (is_live v)

  -- a state comes next exactly if it is live and that is its number
  state_says : (place : ℕ) (v : List Held) (count : ℕ) → is_next count (state_succ (states_at set group place) v)
      ≡ (is_live v && position_or_len (same_state v) (states_at set group place) == count)
  state_says place v count = live_says count (position_or_len (same_state v) (states_at set group place)) (is_live v)

  -- the first bytes of a whole key are all of it
  whole_keys : (place : ℕ) (keys : List (List ℕ)) → AllByRecursion (KeyFrom (key_len_of set.layout) place) keys
      → map (take (key_len_of set.layout)) keys ≡ keys
  whole_keys place [] are = refl
  whole_keys place (key ∷ keys) are =
      let long = are.0.long in
      λ i. take_all (key_len_of set.layout) key (omega (arith, long)) i ∷ whole_keys place keys are.1 i

  -- the links of all places from one on lead from its least keys to those of the rows
  through : (place : ℕ) (places : List ℕ) (keys : List (List ℕ)) → Gaps set group (place ∷ places)
      → AreLeast set group is place keys
      → IsThrough (place ∷ places) keys
      (map links_of (level_runs set (states_at set group) (rows_of set group) (place ∷ places)))
  unfolding level_runs
  through place [] keys gap least =
      let len : ℕ = key_len_of set.layout in
      let rows : List (List ℕ) = rows_of set group in
      let value : List ℕ → List ℕ = λ key. final_row set (state set group key) in
      let lead = rows_by_states set group is (prefixes (key_len_of set.layout))
      (map (take (key_len_of set.layout)) (written place keys))
      (lead_next set group is place (key_len_of set.layout) keys gap.rises gap.within
      (λ k from below. gap.wild k from below) least).found in
      let begins = next_begins bytes_eq is_live bytes_eq_refl (row_succ rows) rows row_says value len place len keys
      least.keys_are lead rows_values in
      let are = next_keys bytes_eq is_live bytes_eq_refl (row_succ rows) rows row_says value len place len keys
      least.keys_are lead rows_values in
      let below = links_below bytes_eq is_live bytes_eq_refl (row_succ rows) rows row_says value len place len keys
      least.keys_are lead rows_values in
      let same = level_is set group is (row_succ rows) (final_row set) place len keys gap.rises gap.within least in
      subst (λ (level : List (List Run)). IsThrough (place ∷ []) keys (links_of level ∷ [])) (sym same) (record {
        rows = sym (whole_keys (place + 1) _ are) ∙ begins;
        chained = (below, tt);
        long = refl;
      })
  through place (next ∷ places) keys gaps least =
      let len : ℕ = key_len_of set.layout in
      let states = states_at set group next in
      let lead = (lead_next set group is place next keys gaps.0.rises gaps.0.within
      (λ k from below. gaps.0.wild k from below) least).found in
      let begins = next_begins same_state is_live same_state_refl (state_succ states) states (state_says next)
      (state set group) len
      place next keys least.keys_are lead (states_values next) in
      let are = next_keys same_state is_live same_state_refl (state_succ states) states (state_says next)
      (state set group) len
      place next keys least.keys_are lead (states_values next) in
      let below = links_below same_state is_live same_state_refl (state_succ states) states (state_says next)
      (state set group) len
      place next keys least.keys_are lead (states_values next) in
      let same = level_is set group is (state_succ states) (λ s. s) place next keys gaps.0.rises gaps.0.within least in
      let level : List (List Run) = map (λ key. runs_of (λ byte. state_succ (states_at set group next)
      (state set group (take next (slice_set key place byte))))) keys in
      let rest = through next places (map (keyed (key_len_of set.layout) keys place) (links_of level)) gaps.1 (record {
        begin = begins;
        keys_are = all_weaker (KeyFrom (key_len_of set.layout) (place + 1)) (KeyFrom (key_len_of set.layout) next) _
            (λ key its. key_later (key_len_of set.layout) (place + 1) next key (omega (arith, gaps.0.rises)) its) are;
      }) in
      subst (λ (l : List (List Run)). IsThrough (place ∷ next ∷ places) keys
      (links_of l ∷ map links_of (level_runs set (states_at set group) (rows_of set group) (next ∷ places)))) (sym same)
      (record {
        rows = rest.rows;
        chained = (
          below,
          subst (λ n. ChainedFrom n
              (map links_of (level_runs set (states_at set group) (rows_of set group) (next ∷ places))))
              (length-map (links_of level) (keyed (key_len_of set.layout) keys place)) rest.chained,
        );
        long = ap suc rest.long;
      })

  -- ---- the first kept place

  -- each of some bytes 0 is 0
  get_or-zeros : (n i : ℕ) → get_or {A = ℕ} (replicate n 0) i 0 ≡ 0
  get_or-zeros zero i = refl
  get_or-zeros (suc n) zero = refl
  get_or-zeros (suc n) (suc i) = get_or-zeros n i

  -- the key of bytes 0 is a key
  zeros_key : KeyFrom (key_len_of set.layout) 0 (zero_bytes (key_len_of set.layout))
  zeros_key = record {
    long = length-replicate (key_len_of set.layout) 0;
    bytes = zeros_small (key_len_of set.layout);
    none = λ i from. get_or-zeros (key_len_of set.layout) i;
  }

  -- the key of bytes 0, alone
  abbrev start : List (List ℕ)
  start = zero_bytes (key_len_of set.layout) ∷ []

  -- the key of bytes 0, where its first bytes have a live state
  first_keys : ℕ → List (List ℕ)
  first_keys place = found_by same_state is_live (λ key. state set group (take place key)) start

  -- the key of bytes 0 leads to the states of place 0
  start_leads : Lead set group is 0 (zero_bytes (key_len_of set.layout) ∷ [])
  unfolding prefixes
  start_leads = record { found = refl; keys_are = (zeros_key, tt) }

  -- the key of bytes 0 is the least of a place that only wild ones are before
  first_least : (place : ℕ) → place ≤ key_len_of set.layout
      → ((k : ℕ) → k < place → is_wild_place set group k ≡ true) → AreLeast set group is place (first_keys place)
  unfolding first_keys
  first_least place within wild =
      let e : 0 + place ≡ place = omega arith in
      let lead = subst (λ n. Lead set group is n start) e
      (lead_over set group is 0 place start (omega (arith, within)) (λ k from below. wild k (omega (arith, below)))
      start_leads) in
      record {
        begin = sym (found_by-map same_state is_live (state set group) (take place) start) ∙ sym lead.found;
        keys_are = All-found_in (λ x y. same_state (state set group (take place x)) (state set group (take place y)))
            (λ x. is_live (state set group (take place x))) (KeyFrom (key_len_of set.layout) place) start
            ((λ live. lead.keys_are.0), tt);
      }

  -- each of the first keys is the key of bytes 0
  first_at : (place n : ℕ)
      → get_or (first_keys place) n (zero_bytes (key_len_of set.layout)) ≡ zero_bytes (key_len_of set.layout)
  unfolding first_keys found_in
  first_at place n = by (is_live (state set group (take place (zero_bytes (key_len_of set.layout)))) && true) n
    where
      by : (b : Bool) (n : ℕ)
          → get_or (cond b ([] ++ zero_bytes (key_len_of set.layout) ∷ []) []) n (zero_bytes (key_len_of set.layout))
          ≡ zero_bytes (key_len_of set.layout)
      by true zero = refl
      by true (suc n) = refl
      by false n = refl

  -- each of the keys at the start is the key of bytes 0
  start_at : (n : ℕ) → get_or start n (zero_bytes (key_len_of set.layout)) ≡ zero_bytes (key_len_of set.layout)
  start_at zero = refl
  start_at (suc n) = refl

  -- The links of all levels lead to the least keys of the rows.
  pub record LeadThrough (places : List ℕ) (levels : List (List Link)) : Type 0 where
    pub rows : keys_after (key_len_of set.layout) (zero_bytes (key_len_of set.layout) ∷ []) places levels
        ≡ rows_found set group is (prefixes (key_len_of set.layout))
    pub chained : (count : ℕ) × ChainedFrom count levels
    pub long : length levels ≡ length places
    pub some : 0 < length places
    pub gaps : Gaps set group places

  -- the keys after all places are the same from the start and from the first keys
  from_start : (places : List ℕ) (levels : List (List Link)) (place : ℕ) → 0 < length places
      → length levels ≡ length places
      → keys_after (key_len_of set.layout) start places levels
      ≡ keys_after (key_len_of set.layout) (first_keys place) places levels
  from_start [] levels place some long = absurd (omega (arith, some))
  from_start (p ∷ places) [] place some long = absurd (omega (arith, long))
  from_start (p ∷ places) (links ∷ levels) place some long =
      ap (λ keys. keys_after (key_len_of set.layout) keys places levels)
      (map_agree (keyed (key_len_of set.layout) start p) (keyed (key_len_of set.layout) (first_keys place) p) links
      (λ link. ap (λ k. slice_set k p link.byte) (start_at link.before ∙ sym (first_at place link.before))))

  -- the links of kept places lead from the start to the rows' least keys
  of_places : (places : List ℕ) → HasFirst set group places
      → LeadThrough places (map links_of (level_runs set (states_at set group) (rows_of set group) places))
  of_places [] first = absurd (omega (arith, first.some))
  of_places (place ∷ places) first =
      let all = through place places (first_keys place) first.gaps (first_least place first.within first.before) in
      record {
        rows = from_start (place ∷ places) _ place (omega arith) all.long ∙ all.rows;
        chained = (length (first_keys place), all.chained);
        long = all.long;
        some = omega arith;
        gaps = first.gaps;
      }

  -- so do the links of the group's kept places
  pub lead_through : LeadThrough (kept_places set group) (map links_of (levels_of set group).levels)
  unfolding levels_of
  lead_through =
      of_places (kept_places set group) (kept_places_first set group (short_keys set.layout is.layout).0)
