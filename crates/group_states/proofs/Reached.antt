-- States place by place: what is found by all prefixes is found from the states before, byte by byte.
use Rattle.std.proofs.Common.{◌≡◌, ℕ, zero, suc, ◌+◌, ◌-◌, ◌<◌, ◌≤◌, List, [], ◌∷◌, ◌++◌, length, map, fold, replicate}
use Rattle.std.proofs.Common.{Bool, true, false, cond, true≢false, refl, sym, ◌∙◌, ap, subst, arith, length-append}
use Rattle.std.specs.List.{AllByRecursion, flat_map}
use Rattle.std.specs.Str.{bytes_eq}
use Rattle.std.proofs.lemmas.List.{append_assoc, append-nil, length-replicate}
use Rattle.std.proofs.lemmas.List.Folds.{flat_map-map}
use Rattle.std.proofs.lemmas.List.Concat.{flat_map-append, flat_map_single}
use Rattle.std.proofs.lemmas.List.Sums.{fold-append}
use Rattle.field_defs.specs.Layout.{key_len_of}
use Rattle.rule_set.specs.Rule.{RuleSetView}
use Rattle.list_lemmas.proofs.Tests.{bytes_eq_refl, bytes_eq_sound}
use Rattle.list_lemmas.proofs.Each.{map_same, flat_map_same, all_weaker, map-map, all-append, all-map}
use Rattle.group_states.proofs.Finds.{is_new, NoneNew, all_stays, old_once_found, found_after_found, found_in-map}
use Rattle.group_states.proofs.Finds.{position-map, All-found_in}
use Rattle.group_states.proofs.Packed.{AreBytes}
use Rattle.group_states.proofs.PackedState.{IsHeld, IsEntryAt, packed_state, packed_state_steps, packed_state_wild}
use Rattle.group_states.proofs.PackedState.{packed_entries, decoded, state_is, compared_alike, alive_alike}
use Rattle.group_states.proofs.Prefixes.{bytes_below, IsPrefix}
use Rattle.group_states.proofs.Prefixes.{bytes_push, prefix_push, prefixes_are, of_longer}
use Rattle.group_states.proofs.RestSteps.{state_goes_through}
use Rattle.group_states.proofs.Runs.{same_runs, length-all_bytes}
use Rattle.group_states.specs.Entry.{ColumnView, entries_step, column_at}
use Rattle.group_states.specs.Found.{found_with, found_in, all_bytes, prefixes}
use Rattle.group_states.specs.Kept.{is_wild_place}
use Rattle.group_states.specs.Levels.{states_at, reached, state_succ, row_succ, runs_of}
use Rattle.group_states.specs.Lists.{row_list, successor, level_found, succ_in, state_runs}
use Rattle.group_states.specs.Row.{row_of, final_row, rows_of}
use Rattle.group_states.specs.State.{Held, state, state_through, same_state, is_live}
use Rattle.group_states.specs.declared.run.Run.{Run}
use Rattle.group_states.specs.declared.run.Succ.TheVariants.{Dead, State}

-- ---- the entries of all prefixes

-- what is kept of a group at a place, found by all prefixes of the place
unfoldable pub packed_at : RuleSetView → List ℕ → ℕ → List (List ℕ)
packed_at set group place = found_in bytes_eq is_live (map (packed_state set group) (prefixes place))

-- what holds of the entries of each prefix holds of each that is found
pub all_packed : (set : RuleSetView) (group : List ℕ) (place : ℕ) (P : List ℕ → Type 0)
    → ((key : List ℕ) → IsPrefix place key → P (packed_state set group key))
    → AllByRecursion P (packed_at set group place)
unfolding packed_at
all_packed set group place P holds =
    All-found_in bytes_eq is_live P (map (packed_state set group) (prefixes place))
    (all-map (λ entries. is_live entries ≡ true → P entries) (packed_state set group) (prefixes place)
    (all_weaker (IsPrefix place) (λ key. is_live (packed_state set group key) ≡ true → P (packed_state set group key))
    (prefixes place) (λ key is live. holds key is) (prefixes_are place)))

module _ (set : RuleSetView) (column : ColumnView) (is_last : Bool) where
  -- what entries lead to by each byte
  abbrev pub successors : List ℕ → List (List ℕ)
  successors entries = map (successor set column is_last entries) all_bytes

  -- no entries lead to nothing
  dead_leads_nowhere : (entries : List ℕ) → is_live entries ≡ false → (found : List (List ℕ))
      → NoneNew bytes_eq is_live found (successors entries)
  unfolding successor row_list entries_step
  dead_leads_nowhere [] dead found = by is_last all_bytes
    where
      by : (b : Bool) (bytes : List ℕ)
          → NoneNew bytes_eq is_live found
          (map (λ byte. cond b (row_list set (entries_step column [] byte)) (entries_step column [] byte)) bytes)
      by true [] = tt
      by false [] = tt
      by true (byte ∷ bytes) = (refl, by true bytes)
      by false (byte ∷ bytes) = (refl, by false bytes)
  dead_leads_nowhere (entry ∷ entries) dead found = absurd (let e : true ≡ false = dead in true≢false e)

  -- what is found after those found is what is found after all
  pub level_of_all : (all : List (List ℕ))
      → level_found set column is_last (found_in bytes_eq is_live all)
      ≡ found_in bytes_eq is_live (flat_map successors all)
  unfolding level_found
  level_of_all all = found_after_found bytes_eq is_live bytes_eq_sound bytes_eq is_live bytes_eq_refl successors
      dead_leads_nowhere all

module _ (set : RuleSetView) (group : List ℕ) (held : AllByRecursion (IsHeld set) group) where
  -- the entries one byte on are found from those before
  pub packed_one_on : (place : ℕ) → place < key_len_of set.layout
      → level_found set (column_at set place) false (packed_at set group place) ≡ packed_at set group (place + 1)
  unfolding packed_at successor
  packed_one_on place within =
      let column : ColumnView = column_at set place in
      level_of_all set column false (map (packed_state set group) (prefixes place))
      ∙ ap (found_in bytes_eq is_live)
      (flat_map-map (successors set column false) (packed_state set group) (prefixes place)
      ∙ flat_map_same (λ key. successors set column false (packed_state set group key))
      (λ key. map (λ byte. packed_state set group (key ++ byte ∷ [])) all_bytes) (prefixes place)
      (all_weaker (IsPrefix place) _ (prefixes place)
      (λ key is. map_same (entries_step column (packed_state set group key))
      (λ byte. packed_state set group (key ++ byte ∷ [])) all_bytes
      (all_weaker (λ byte. byte < 256) _ all_bytes
      (λ byte below. ap (λ n. entries_step (column_at set n) (packed_state set group key) byte) (sym is.1)
      ∙ sym (packed_state_steps set group key byte held (omega (arith, is.1)) below))
      bytes_below))
      (prefixes_are place))
      ∙ sym (of_longer (packed_state set group) place))

  -- copies of an element are found once
  copies : (found : List (List ℕ)) (entries : List ℕ) (bytes : List ℕ) → is_new bytes_eq is_live found entries ≡ false
      → fold (found_with bytes_eq is_live) found (map (λ (byte : ℕ). entries) bytes) ≡ found
  copies found entries bytes old = all_stays bytes_eq is_live found (map (λ (byte : ℕ). entries) bytes) (none bytes)
    where
      none : (bs : List ℕ) → NoneNew bytes_eq is_live found (map (λ (byte : ℕ). entries) bs)
      none [] = tt
      none (b ∷ bs) = (old, none bs)

  -- what is repeated is found as if it stood once
  found_once : (bytes : List ℕ) → 0 < length bytes → (found : List (List ℕ)) (all : List (List ℕ)) →
      fold (found_with bytes_eq is_live) found (flat_map (λ entries. map (λ (byte : ℕ). entries) bytes) all)
      ≡ fold (found_with bytes_eq is_live) found all
  found_once [] some found all = absurd (omega arith)
  found_once (b ∷ bs) some found [] = refl
  found_once (b ∷ bs) some found (entries ∷ all) =
      let next : List (List ℕ) = found_with bytes_eq is_live found entries in
      fold-append (found_with bytes_eq is_live) next (map (λ (byte : ℕ). entries) bs)
      (flat_map (λ e. map (λ (byte : ℕ). e) (b ∷ bs)) all)
      ∙ ap (λ f. fold (found_with bytes_eq is_live) f (flat_map (λ e. map (λ (byte : ℕ). e) (b ∷ bs)) all))
      (copies next entries bs (old_once_found bytes_eq is_live bytes_eq_refl found entries))
      ∙ found_once (b ∷ bs) some next all

  -- a place at which all rules are wild changes nothing
  pub packed_past_wild : (place : ℕ) → place < key_len_of set.layout → is_wild_place set group place ≡ true
      → packed_at set group (place + 1) ≡ packed_at set group place
  unfolding packed_at found_in
  packed_past_wild place within wild =
      ap (fold (found_with bytes_eq is_live) [])
      (of_longer (packed_state set group) place
      ∙ flat_map_same (λ key. map (λ byte. packed_state set group (key ++ byte ∷ [])) all_bytes)
      (λ key. map (λ (byte : ℕ). packed_state set group key) all_bytes) (prefixes place)
      (all_weaker (IsPrefix place) _ (prefixes place)
      (λ key is. map_same (λ byte. packed_state set group (key ++ byte ∷ [])) (λ (byte : ℕ). packed_state set group key)
      all_bytes
      (all_weaker (λ byte. byte < 256) _ all_bytes
      (λ byte below. packed_state_wild set group key byte held is.0 below (omega (arith, is.1))
      (ap (is_wild_place set group) is.1 ∙ wild))
      bytes_below))
      (prefixes_are place))
      ∙ sym (flat_map-map (λ entries. map (λ (byte : ℕ). entries) all_bytes) (packed_state set group) (prefixes place)))
      ∙ found_once all_bytes (rw length-all_bytes (omega arith)) [] (map (packed_state set group) (prefixes place))

  -- and neither do some such places, one after the other
  pub packed_past_all : (place count : ℕ) → place + count ≤ key_len_of set.layout
      → ((gap : ℕ) → gap < count → is_wild_place set group (place + gap) ≡ true) →
      packed_at set group (place + count) ≡ packed_at set group place
  packed_past_all place zero within wild = ap (packed_at set group) (omega arith)
  packed_past_all place (suc count) within wild =
      let next : place + suc count ≡ place + count + 1 = omega arith in
      ap (packed_at set group) next ∙ packed_past_wild (place + count) (omega arith) (wild count (omega arith))
      ∙ packed_past_all place count (omega arith) (λ gap below. wild gap (omega arith))

  -- the states of a place are what the entries stand for
  pub states_are : (place : ℕ) → states_at set group place ≡ map (map (decoded set place)) (packed_at set group place)
  unfolding states_at packed_at
  states_are place =
      let entries : List (List ℕ) = map (packed_state set group) (prefixes place) in
      ap (found_in same_state is_live)
      (map_same (state set group) (λ key. map (decoded set place) (packed_state set group key)) (prefixes place)
      (all_weaker (IsPrefix place) _ (prefixes place)
      (λ key is. state_is set group key held ∙ ap (λ n. map (decoded set n) (packed_state set group key)) is.1)
      (prefixes_are place))
      ∙ sym (map-map (map (decoded set place)) (packed_state set group) (prefixes place)))
      ∙ found_in-map bytes_eq is_live same_state is_live (map (decoded set place))
      (AllByRecursion (IsEntryAt set place)) (compared_alike set place) (λ xs _. alive_alike (decoded set place) xs)
      entries
      (all-map (AllByRecursion (IsEntryAt set place)) (packed_state set group) (prefixes place)
      (all_weaker (IsPrefix place) _ (prefixes place)
      (λ key is. subst (λ n. AllByRecursion (IsEntryAt set n) (packed_state set group key)) is.1
      (packed_entries set group key held is.0)) (prefixes_are place)))

-- ---- successors

-- so many zeros are bytes
pub zeros_small : (count : ℕ) → AreBytes (replicate count 0)
zeros_small zero = tt
zeros_small (suc count) = (omega arith, zeros_small count)

-- The places after one up to the next kept one, which lies within the key or at its end, are wild in all rules.
pub record IsGap (set : RuleSetView) (group : List ℕ) (place next : ℕ) : Type 0 where
  pub rises : place < next
  pub within : next ≤ key_len_of set.layout
  pub wild : (between : ℕ) → place < between → between < next → is_wild_place set group between ≡ true

module _ (set : RuleSetView) (group : List ℕ) (held : AllByRecursion (IsHeld set) group) where
  -- bytes at places at which all rules are wild leave the entries as they are
  pub bytes_on : (start bytes : List ℕ) → AreBytes start → AreBytes bytes
      → length start + length bytes ≤ key_len_of set.layout →
      ((gap : ℕ) → gap < length bytes → is_wild_place set group (length start + gap) ≡ true)
      → packed_state set group (start ++ bytes) ≡ packed_state set group start
  bytes_on start [] are more within wild = ap (packed_state set group) (append-nil start)
  bytes_on start (byte ∷ bytes) are more within wild =
      let longer : length (start ++ byte ∷ []) ≡ length start + 1 = length-append start (byte ∷ []) in
      ap (packed_state set group) (sym (append_assoc start (byte ∷ []) bytes))
      ∙ bytes_on (start ++ byte ∷ []) bytes (bytes_push start byte are more.0) more.1 (omega (arith, longer))
      (λ gap below. (let e : length (start ++ byte ∷ []) + gap ≡ length start + suc gap = omega (arith, longer) in
      ap (is_wild_place set group) e ∙ wild (suc gap) (omega arith)))
      ∙ packed_state_wild set group start byte held are more.0 (omega arith)
      ((let e : length start + 0 ≡ length start = omega arith in ap (is_wild_place set group) (sym e))
      ∙ wild 0 (omega arith))

  -- and so do some bytes 0
  pub zeros_on : (key : List ℕ) (count : ℕ) → AreBytes key → length key + count ≤ key_len_of set.layout →
      ((gap : ℕ) → gap < count → is_wild_place set group (length key + gap) ≡ true)
      → packed_state set group (key ++ replicate count 0) ≡ packed_state set group key
  zeros_on key count small within wild =
      let long : length (replicate count 0) ≡ count = length-replicate {A = ℕ} count 0 in
      bytes_on key (replicate count 0) small (zeros_small count) (omega (arith, within, long))
      (λ gap below. wild gap (omega (arith, below, long)))

  module _ (place next : ℕ) (gap : IsGap set group place next) where
    -- a byte 0 for each place of the gap
    abbrev zeros : List ℕ
    zeros = replicate (next - place - 1) 0

    -- there are as many as places in the gap
    zeros_long : length zeros ≡ next - place - 1
    zeros_long = length-replicate {A = ℕ} (next - place - 1) 0

    -- a byte and bytes 0 after a prefix of the place make one of the next place
    all_long : (key : List ℕ) (byte : ℕ) → IsPrefix place key → byte < 256 → length ((key ++ byte ∷ []) ++ zeros) ≡ next
    all_long key byte is below =
        length-append (key ++ byte ∷ []) zeros
        ∙ omega (arith, (prefix_push place key byte is below).1, zeros_long, gap.rises)

    -- with the entries after the byte
    same_entries : (key : List ℕ) (byte : ℕ) → IsPrefix place key → byte < 256
        → packed_state set group ((key ++ byte ∷ []) ++ zeros)
        ≡ entries_step (column_at set place) (packed_state set group key) byte
    same_entries key byte is below =
        let more = prefix_push place key byte is below in
        zeros_on (key ++ byte ∷ []) (next - place - 1) more.0 (omega (arith, more.1, gap.rises, gap.within))
        (λ g under. gap.wild (length (key ++ byte ∷ []) + g) (omega (arith, more.1)) (omega (arith, more.1)))
        ∙ packed_state_steps set group key byte held (omega (arith, is.1, gap.rises, gap.within)) below
        ∙ ap (λ n. entries_step (column_at set n) (packed_state set group key) byte) is.1

    -- the entries after a byte at the place stand for what its state reaches
    pub reached_is : (key : List ℕ) (byte : ℕ) → IsPrefix place key → byte < 256 →
        reached set place next (map (decoded set place) (packed_state set group key)) byte
        ≡ map (decoded set next) (entries_step (column_at set place) (packed_state set group key) byte)
    unfolding reached
    reached_is key byte is below =
        let end : length key + length (byte ∷ zeros) ≤ key_len_of set.layout =
        omega (arith, is.1, zeros_long, gap.rises, gap.within) in
        (λ i. state_through set (sym is.1 i) (start key is i) (byte ∷ zeros))
        ∙ sym (state_goes_through set group key (byte ∷ zeros) held (below, zeros_small (next - place - 1)) end)
        ∙ ap (state set group) (sym (append_assoc key (byte ∷ []) zeros))
        ∙ state_is set group ((key ++ byte ∷ []) ++ zeros) held
        ∙ (λ i. map (decoded set (all_long key byte is below i)) (same_entries key byte is below i))
      where
        start : (k : List ℕ) → IsPrefix place k → map (decoded set place) (packed_state set group k) ≡ state set group k
        start k is = sym (state_is set group k held ∙ ap (λ n. map (decoded set n) (packed_state set group k)) is.1)

    -- and are those of some prefix of the next place
    pub entries_next : (key : List ℕ) (byte : ℕ) → IsPrefix place key → byte < 256
        → AllByRecursion (IsEntryAt set next) (entries_step (column_at set place) (packed_state set group key) byte)
    entries_next key byte is below =
        subst (AllByRecursion (IsEntryAt set next)) (same_entries key byte is below)
        (subst (λ n. AllByRecursion (IsEntryAt set n) (packed_state set group ((key ++ byte ∷ []) ++ zeros)))
        (all_long key byte is below)
        (packed_entries set group ((key ++ byte ∷ []) ++ zeros) held
        (all-append (λ b. b < 256) (key ++ byte ∷ []) zeros (prefix_push place key byte is below).0
        (zeros_small (next - place - 1)))))

    -- the entries of the next kept place are found from those of the place
    pub packed_next : level_found set (column_at set place) false (packed_at set group place) ≡ packed_at set group next
    packed_next =
        let e : place + 1 + (next - place - 1) ≡ next = omega (arith, gap.rises) in
        packed_one_on set group held place (omega (arith, gap.rises, gap.within))
        ∙ sym (packed_past_all set group held (place + 1) (next - place - 1) (omega (arith, gap.rises, gap.within))
        (λ g under. gap.wild (place + 1 + g) (omega arith) (omega (arith, gap.rises))))
        ∙ ap (packed_at set group) e

    -- the runs of the entries are those of their states
    pub runs_next : map (state_runs set (column_at set place) false (packed_at set group next))
        (packed_at set group place)
        ≡ map (λ before. runs_of (λ byte. state_succ (states_at set group next) (reached set place next before byte)))
        (states_at set group place)
    unfolding successor
    runs_next =
        let after : List ℕ → List Run = state_runs set (column_at set place) false (packed_at set group next) in
        let runs : List Held → List Run =
        λ before. runs_of (λ byte. state_succ (states_at set group next) (reached set place next before byte)) in
        map_same after (λ entries. runs (map (decoded set place) entries)) (packed_at set group place)
        (all_packed set group place (λ entries. after entries ≡ runs (map (decoded set place) entries))
        (λ key is. same_runs _ _ (λ byte below. succ_is key byte is below)))
        ∙ sym (map-map runs (map (decoded set place)) (packed_at set group place))
        ∙ ap (map runs) (sym (states_are set group held place))
      where
        all_entries : AllByRecursion (AllByRecursion (IsEntryAt set next)) (packed_at set group next)
        all_entries = all_packed set group next (AllByRecursion (IsEntryAt set next))
            (λ key is. subst (λ n. AllByRecursion (IsEntryAt set n) (packed_state set group key)) is.1
            (packed_entries set group key held is.0))

        succ_is : (key : List ℕ) (byte : ℕ) → IsPrefix place key → byte < 256 →
            succ_in false (packed_at set group next)
            (entries_step (column_at set place) (packed_state set group key) byte)
            ≡ state_succ (states_at set group next)
            (reached set place next (map (decoded set place) (packed_state set group key)) byte)
        succ_is key byte is below =
            let entries : List ℕ = entries_step (column_at set place) (packed_state set group key) byte in
            sym (
            ap (state_succ (states_at set group next)) (reached_is key byte is below)
            ∙ ap (λ states. state_succ states (map (decoded set next) entries)) (states_are set group held next)
            ∙ (λ i. cond (alive_alike (decoded set next) entries i)
            (State (position-map bytes_eq is_live same_state is_live (map (decoded set next))
            (AllByRecursion (IsEntryAt set next)) (compared_alike set next)
            (λ xs _. alive_alike (decoded set next) xs)
            entries (packed_at set group next) (entries_next key byte is below) all_entries i))
            Dead)
            )

-- ---- the end of the key

-- the final row of a state is the row of its entries
row_is : (set : RuleSetView) (place : ℕ) (entries : List ℕ)
    → final_row set (map (decoded set place) entries) ≡ row_list set entries
unfolding final_row row_list decoded
row_is set place [] = refl
row_is set place (entry ∷ entries) =
    ap (row_of set) (map-map (λ (h : Held). h.number) (decoded set place) (entry ∷ entries))

module _ (set : RuleSetView) (group : List ℕ) (held : AllByRecursion (IsHeld set) group) (place : ℕ)
    (gap : IsGap set group place (key_len_of set.layout)) where
  -- dead entries have no row that is new
  dead_row : (entries : List ℕ) → is_live entries ≡ false → (found : List (List ℕ))
      → NoneNew bytes_eq is_live found (row_list set entries ∷ [])
  unfolding row_list
  dead_row [] dead found = (refl, tt)
  dead_row (entry ∷ entries) dead found = absurd (let e : true ≡ false = dead in true≢false e)

  -- the row of some entries
  abbrev one_row : List ℕ → List (List ℕ)
  one_row entries = row_list set entries ∷ []

  -- the rows of what is found are found as the rows of all
  rows_following : (all : List (List ℕ))
      → found_in bytes_eq is_live (flat_map one_row (found_in bytes_eq is_live all))
      ≡ found_in bytes_eq is_live (flat_map one_row all)
  rows_following all = found_after_found bytes_eq is_live bytes_eq_sound bytes_eq is_live bytes_eq_refl one_row dead_row
      all

  -- lists that are joined twice are joined at once
  flat_map-flat_map : {X Y Z : Type 0} (f : Y → List Z) (g : X → List Y) (xs : List X)
      → flat_map f (flat_map g xs) ≡ flat_map (λ x. flat_map f (g x)) xs
  flat_map-flat_map f g [] = refl
  flat_map-flat_map f g (x ∷ xs) = flat_map-append f (g x) (flat_map g xs)
      ∙ ap (λ l. flat_map f (g x) ++ l) (flat_map-flat_map f g xs)

  -- rows over bytes
  rows_after : (entries bytes : List ℕ)
      → flat_map one_row (map (successor set (column_at set place) false entries) bytes)
      ≡ map (successor set (column_at set place) true entries) bytes
  unfolding successor
  rows_after entries [] = refl
  rows_after entries (byte ∷ bytes) =
      ap (λ l. row_list set (entries_step (column_at set place) entries byte) ∷ l) (rows_after entries bytes)

  -- the rows of what entries lead to by each byte are their successors as rows
  all_rows_after : (all : List (List ℕ))
      → flat_map one_row (flat_map (successors set (column_at set place) false) all)
      ≡ flat_map (successors set (column_at set place) true) all
  all_rows_after [] = refl
  all_rows_after (entries ∷ all) =
      flat_map-append one_row (successors set (column_at set place) false entries)
      (flat_map (successors set (column_at set place) false) all)
      ∙ (λ i. rows_after entries all_bytes i ++ all_rows_after all i)

  -- the rows are found from the entries of the last kept place
  pub rows_are : level_found set (column_at set place) true (packed_at set group place) ≡ rows_of set group
  unfolding level_found rows_of packed_at
  rows_are =
      let whole : ℕ = key_len_of set.layout in
      let found : List (List ℕ) → List (List ℕ) = found_in bytes_eq is_live in
      let entries : List (List ℕ) = map (packed_state set group) (prefixes whole) in
      let rows_by_entries : map (λ key. final_row set (state set group key)) (prefixes whole)
      ≡ flat_map one_row entries =
      map_same (λ key. final_row set (state set group key)) (λ key. row_list set (packed_state set group key))
      (prefixes whole)
      (all_weaker (IsPrefix whole) _ (prefixes whole)
      (λ key is. ap (final_row set) (state_is set group key held)
      ∙ row_is set (length key) (packed_state set group key)) (prefixes_are whole))
      ∙ sym (flat_map_single (λ key. row_list set (packed_state set group key)) (prefixes whole))
      ∙ sym (flat_map-map one_row (packed_state set group) (prefixes whole)) in
      let before : List (List ℕ) = packed_at set group place in
      sym (
      ap found rows_by_entries
      ∙ sym (rows_following entries)
      ∙ ap (λ all. found (flat_map one_row all)) (sym (packed_next set group held place whole gap))
      ∙ rows_following (flat_map (successors set (column_at set place) false) before)
      ∙ ap found (all_rows_after before)
      )

  -- the runs of the entries are those of their states
  pub runs_last : map (state_runs set (column_at set place) true (rows_of set group)) (packed_at set group place)
      ≡ map (λ before. runs_of (λ byte. row_succ (rows_of set group)
      (final_row set (reached set place (key_len_of set.layout) before byte)))) (states_at set group place)
  unfolding successor
  runs_last =
      let rows : List (List ℕ) = rows_of set group in
      let after : List ℕ → List Run = state_runs set (column_at set place) true rows in
      let runs : List Held → List Run =
      λ before. runs_of (λ byte. row_succ rows
      (final_row set (reached set place (key_len_of set.layout) before byte))) in
      map_same after (λ entries. runs (map (decoded set place) entries)) (packed_at set group place)
      (all_packed set group place (λ entries. after entries ≡ runs (map (decoded set place) entries))
      (λ key is. same_runs _ _ (λ byte below.
      sym (ap (λ whole. row_succ rows (final_row set whole))
      (reached_is set group held place (key_len_of set.layout) gap key byte is below)
      ∙ ap (row_succ rows) (row_is set (key_len_of set.layout)
      (entries_step (column_at set place) (packed_state set group key) byte))))))
      ∙ sym (map-map runs (map (decoded set place)) (packed_at set group place))
      ∙ ap (map runs) (sym (states_are set group held place))
