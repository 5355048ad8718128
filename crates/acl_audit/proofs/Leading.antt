-- The links of a level lead from the least keys of its states to those of the next ones.
use Rattle.std.proofs.Common.{◌≡◌, ℕ, zero, suc, ◌+◌, ◌-◌, ◌<◌, ◌≤◌, ◌==◌, List, [], ◌∷◌, ◌++◌, length, map, take}
use Rattle.std.proofs.Common.{get_or, replicate, slice_set, Bool, true, false, cond, ◌&&◌, refl, sym, ◌∙◌, ap, subst}
use Rattle.std.proofs.Common.{arith}
use Rattle.std.specs.List.{flat_map, AllByRecursion, position_or_len}
use Rattle.std.specs.Str.{bytes_eq}
use Rattle.std.proofs.lemmas.List.{map-append}
use Rattle.field_defs.specs.Layout.{key_len_of}
use Rattle.rule_set.specs.Rule.{RuleSetView}
use Rattle.group_states.specs.declared.run.Run.{Run}
use Rattle.group_states.specs.declared.run.Succ.{Succ}
use Rattle.group_states.specs.declared.run.Succ.TheVariants.{Dead, State, Row}
use Rattle.group_states.specs.Found.{found_in, all_bytes, prefixes}
use Rattle.group_states.specs.Kept.{is_wild_place}
use Rattle.group_states.specs.Laws.{IsGrouped}
use Rattle.group_states.specs.Levels.{reached, runs_of, states_at}
use Rattle.group_states.specs.Row.{final_row}
use Rattle.group_states.specs.State.{Held, state, same_state, is_live}
use Rattle.list_lemmas.proofs.Each.{all_weaker, map_same, map-map}
use Rattle.list_lemmas.proofs.Tests.{bytes_eq_refl}
use Rattle.group_states.proofs.Offered.{All-found_in, same_runs, same_state_sound}
use Rattle.acl_audit.specs.declared.links.Link.{Link}
use Rattle.acl_audit.specs.Keyed.{keyed}
use Rattle.acl_audit.specs.Links.{is_next, links_of}
use Rattle.acl_audit.proofs.Finding.{LeadsAlike, found_by, found_by-map, found_after, values_found}
use Rattle.acl_audit.proofs.Keys.{KeyFrom, written, keys_with}
use Rattle.acl_audit.proofs.Keys.{not_live, Lead, AreLeast, lead_first, lead_over, reached_by}
use Rattle.acl_audit.proofs.Numbering.{pairs_from, links_are}

-- the keys of the pairs of state and byte are those of the states with each byte
pairs_keyed : (len place : ℕ) (keys : List (List ℕ)) (before : ℕ) (rest : List (List ℕ))
    → ((k : ℕ) → k < length rest → get_or keys (before + k) (replicate len 0) ≡ get_or rest k (replicate len 0))
    → map (keyed len keys place) (pairs_from before (length rest)) ≡ written place rest
pairs_keyed len place keys before [] are = refl
pairs_keyed len place keys before (key ∷ rest) are =
    let here : get_or keys before (replicate len 0) ≡ key =
    (let e : before ≡ before + 0 = omega arith in ap (λ n. get_or keys n (replicate len 0)) e) ∙ are 0 (omega arith) in
    map-append (keyed len keys place) (map (λ byte. record { before = before; byte = byte }) all_bytes)
    (pairs_from (before + 1) (length rest))
    ∙ (λ i. (map-map (keyed len keys place) (λ byte. record { before = before; byte = byte }) all_bytes
    ∙ ap (λ k. map (slice_set k place) all_bytes) here) i
    ++ pairs_keyed len place keys (before + 1) rest
    (λ k below. (let e : before + 1 + k ≡ before + suc k = omega arith in
    ap (λ n. get_or keys n (replicate len 0)) e ∙ are (suc k) (omega (arith, below)))) i)

-- the links of so many states lead back to one of these
pairs_below : (before count limit : ℕ) → before + count ≤ limit
    → AllByRecursion (λ (link : Link). link.before < limit) (pairs_from before count)
pairs_below before zero limit within = tt
pairs_below before (suc count) limit within =
    of_both (map (λ byte. record { before = before; byte = byte }) all_bytes) (pairs_from (before + 1) count)
    (of_bytes all_bytes) (pairs_below (before + 1) count limit (omega (arith, within)))
  where
    of_bytes : (bytes : List ℕ) → AllByRecursion (λ (link : Link). link.before < limit)
        (map (λ byte. record { before = before; byte = byte }) bytes)
    of_bytes [] = tt
    of_bytes (byte ∷ bytes) = (omega (arith, within), of_bytes bytes)

    of_both : (xs ys : List Link) → AllByRecursion (λ (link : Link). link.before < limit) xs
        → AllByRecursion (λ (link : Link). link.before < limit) ys
        → AllByRecursion (λ (link : Link). link.before < limit) (xs ++ ys)
    of_both [] ys all more = more
    of_both (x ∷ xs) ys all more = (all.0, of_both xs ys all.1 more)

-- what holds of all elements holds of those of which something else holds
every : {X : Type 0} (P : X → Type 0) (Q : X → Type 0) (xs : List X) → AllByRecursion P xs
    → AllByRecursion (λ x. Q x → P x) xs
every P Q [] all = tt
every P Q (x ∷ xs) all = ((λ q. all.0), every P Q xs all.1)

module _ {V : Type 0} (same : V → V → Bool) (live : V → Bool) (reflexive : (v : V) → same v v ≡ true)
    (to : V → Succ) (all : List V)
    (says : (v : V) (count : ℕ) → is_next count (to v) ≡ (live v && position_or_len (same v) all == count))
    (value : List ℕ → V) (len place next : ℕ) (keys : List (List ℕ))
    (are : AllByRecursion (KeyFrom len place) keys)
    (lead : found_by same live value (prefixes next)
    ≡ found_by same live value (map (take next) (written place keys)))
    (values : all ≡ map value (found_by same live value (prefixes next))) where
  -- as many bytes 0 as a key has
  abbrev zeros : List ℕ
  zeros = replicate len 0

  -- the value of a key's first bytes
  abbrev of_key : List ℕ → V
  of_key key = value (take next key)

  -- the value of the first bytes of a link's key
  abbrev of_link : Link → V
  of_link link = value (take next (keyed len keys place link))

  -- the runs of each key by the byte at the place
  abbrev pub level : List (List Run)
  level = map (λ key. runs_of (λ byte. to (value (take next (slice_set key place byte))))) keys

  -- the keys of all links are the keys with each byte at the place
  cands : map (keyed len keys place) (pairs_from 0 (length keys)) ≡ written place keys
  cands = pairs_keyed len place keys 0 keys
      (λ k below. (let e : 0 + k ≡ k = omega arith in ap (λ n. get_or keys n zeros) e))

  -- the values of the next place are those of the links
  all_is : all ≡ found_in same live (map of_link (pairs_from 0 (length keys)))
  all_is =
      values ∙ ap (map value) lead
      ∙ sym (values_found same live value (map (take next) (written place keys)))
      ∙ ap (found_in same live) (map-map value (take next) (written place keys)
      ∙ ap (map of_key) (sym cands)
      ∙ map-map of_key (keyed len keys place) (pairs_from 0 (length keys)))

  -- the links of the level are those that are found by their values
  links_found : links_of level ≡ found_by same live of_link (pairs_from 0 (length keys))
  links_found =
      links_are same live reflexive to all says (λ key byte. value (take next (slice_set key place byte)))
      (λ n. get_or keys n zeros) zeros keys (λ k below. refl) all_is

  -- their keys are those that are found among keys with each byte
  keys_found : map (keyed len keys place) (links_of level) ≡ found_by same live of_key (written place keys)
  keys_found =
      ap (map (keyed len keys place)) links_found
      ∙ sym (found_by-map same live of_key (keyed len keys place) (pairs_from 0 (length keys)))
      ∙ ap (λ ks. found_by same live of_key ks) cands

  -- the keys of what the links lead to are the least ones
  pub next_begins : map (take next) (map (keyed len keys place) (links_of level))
      ≡ found_by same live value (prefixes next)
  next_begins =
      ap (map (take next)) keys_found
      ∙ sym (found_by-map same live value (take next) (written place keys))
      ∙ sym lead

  -- their keys have bytes 0 from the next place on
  pub next_keys : AllByRecursion (KeyFrom len (place + 1)) (map (keyed len keys place) (links_of level))
  next_keys =
      subst (AllByRecursion (KeyFrom len (place + 1))) (sym keys_found)
      (All-found_in (λ x y. same (of_key x) (of_key y)) (λ x. live (of_key x)) (KeyFrom len (place + 1))
      (written place keys)
      (every (KeyFrom len (place + 1)) (λ x. live (of_key x) ≡ true) (written place keys)
      (keys_with len place keys are)))

  -- each link comes from a state of the place
  pub links_below : AllByRecursion (λ (link : Link). link.before < length keys) (links_of level)
  links_below =
      subst (AllByRecursion (λ (link : Link). link.before < length keys)) (sym links_found)
      (All-found_in (λ x y. same (of_link x) (of_link y)) (λ x. live (of_link x))
      (λ (link : Link). link.before < length keys) (pairs_from 0 (length keys))
      (every (λ (link : Link). link.before < length keys) (λ x. live (of_link x) ≡ true)
      (pairs_from 0 (length keys)) (pairs_below 0 (length keys) (length keys) (omega arith))))

-- a live value's number is the next one, where it is
pub live_says : (count place : ℕ) (live : Bool)
    → is_next count (cond live (State place) Dead) ≡ (live && place == count)
live_says count place true = refl
live_says count place false = refl

-- a row that may be dead is the next one exactly if it is live and has the number
pub live_says_row : (count place : ℕ) (live : Bool)
    → is_next count (cond live (Row place) Dead) ≡ (live && place == count)
live_says_row count place true = refl
live_says_row count place false = refl

module _ (set : RuleSetView) (group : List ℕ) (is : IsGrouped set group) where
  -- how many bytes a key has
  abbrev len : ℕ
  len = key_len_of set.layout

  -- the row at the end of a key
  abbrev pub row_for : List ℕ → List ℕ
  row_for key = final_row set (state set group key)

  -- the keys whose rows are found
  abbrev pub rows_found : List (List ℕ) → List (List ℕ)
  rows_found keys = found_by bytes_eq is_live (λ key. final_row set (state set group key)) keys

  -- the states of a place are those of the keys that lead to them
  pub states_of : (place : ℕ) (keys : List (List ℕ)) → AreLeast set group is place keys
      → states_at set group place ≡ map (λ key. state set group (take place key)) keys
  unfolding states_at
  states_of place keys least =
      values_found same_state is_live (state set group) (prefixes place)
      ∙ ap (map (state set group)) (sym least.begin)
      ∙ map-map (state set group) (take place) keys

  -- the runs of a level by the keys of its states
  pub level_is : {V : Type 0} (to : V → Succ) (after : List Held → V) (place next : ℕ) (keys : List (List ℕ))
      → place < next
      → next ≤ key_len_of set.layout → AreLeast set group is place keys
      → map (λ before. runs_of (λ byte. to (after (reached set place next before byte)))) (states_at set group place)
      ≡ map (λ key. runs_of (λ byte. to (after (state set group (take next (slice_set key place byte)))))) keys
  level_is to after place next keys rises within least =
      ap (map (λ before. runs_of (λ byte. to (after (reached set place next before byte)))))
      (states_of place keys least)
      ∙ map-map (λ before. runs_of (λ byte. to (after (reached set place next before byte))))
      (λ key. state set group (take place key)) keys
      ∙ map_same
      (λ key. runs_of (λ byte. to (after (reached set place next (state set group (take place key)) byte))))
      (λ key. runs_of (λ byte. to (after (state set group (take next (slice_set key place byte)))))) keys
      (all_weaker (KeyFrom (key_len_of set.layout) place)
      (λ key. runs_of (λ byte. to (after (reached set place next (state set group (take place key)) byte)))
      ≡ runs_of (λ byte. to (after (state set group (take next (slice_set key place byte)))))) keys
      (λ key its. same_runs _ _ (λ byte below.
      ap (λ s. to (after s)) (reached_by set group is place next key byte rises within below its)))
      least.keys_are)

  -- rows are found from the keys whose states are
  pub rows_by_states : (xs ys : List (List ℕ))
      → found_by same_state is_live (state set group) xs ≡ found_by same_state is_live (state set group) ys
      → rows_found xs ≡ rows_found ys
  unfolding final_row
  rows_by_states xs ys e = sym (by_singles xs) ∙ ap (λ ks. rows_found (flat_map (λ key. key ∷ []) ks)) e ∙ by_singles ys
    where
      all_of : (ks : List (List ℕ)) → AllByRecursion (λ key. Unit {0}) ks
      all_of [] = tt
      all_of (k ∷ ks) = (tt, all_of ks)

      singles : (ks : List (List ℕ)) → flat_map (λ key. key ∷ []) ks ≡ ks
      singles [] = refl
      singles (k ∷ ks) = ap (λ l. k ∷ l) (singles ks)

      singly : LeadsAlike same_state is_live (state set group) bytes_eq is_live row_for (λ key. key ∷ [])
          (λ key. Unit {0})
      singly = record {
        sound = same_state_sound;
        reflexive = bytes_eq_refl;
        alike = λ x y _ _ same. ap (λ s. final_row set s ∷ []) same;
        dead = λ x _ dead. (ap (λ s. is_live (final_row set s)) (not_live (state set group x) dead), tt);
      }

      by_singles : (ks : List (List ℕ))
          → rows_found (flat_map (λ key. key ∷ []) (found_by same_state is_live (state set group) ks)) ≡ rows_found ks
      by_singles ks =
          found_after singly ks (all_of ks)
          ∙ ap (λ l. rows_found l) (singles ks)

  -- a gap after a place leads on to the next one
  pub lead_next : (place next : ℕ) (keys : List (List ℕ)) → place < next → next ≤ key_len_of set.layout
      → ((k : ℕ) → place < k → k < next → is_wild_place set group k ≡ true) → AreLeast set group is place keys
      → Lead set group is next (written place keys)
  lead_next place next keys rises within wild least =
      let e : place + 1 + (next - place - 1) ≡ next = omega (arith, rises) in
      subst (λ n. Lead set group is n (written place keys)) e
      (lead_over set group is (place + 1) (next - place - 1) (written place keys) (omega (arith, rises, within))
      (λ k from below. wild k (omega (arith, from)) (omega (arith, below, rises)))
      (lead_first set group is place keys (omega (arith, rises, within)) least))
