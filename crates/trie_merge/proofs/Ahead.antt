-- The words of a state before the last place are told by its entries.
use Rattle.std.proofs.Common.{◌≡◌, ℕ, ◌+◌, ◌-◌, ◌<◌, ◌==◌, List, [], ◌∷◌, length, map, Bool, false, not, Option}
use Rattle.std.proofs.Common.{Some, refl, sym, ◌∙◌, ap, arith}
use Rattle.std.specs.List.{list_any, flat_map, AllByRecursion, sum_by}
use Rattle.std.specs.Option.{option_map}
use Rattle.std.specs.Str.{bytes_eq}
use Rattle.std.proofs.lemmas.Bool.{not-false, eqb-false}
use Rattle.std.proofs.lemmas.List.{length-map}
use Rattle.node_expand.specs.Edges.{edge_step}
use Rattle.node_expand.proofs.Offered.{cuts_are_changes}
use Rattle.rule_set.specs.Rule.{RuleSetView}
use Rattle.table_sizes.specs.Sizes.{cost_of}
use Rattle.list_lemmas.proofs.Maps.{filter_on_range}
use Rattle.list_lemmas.proofs.Options.{from_option_map}
use Rattle.list_lemmas.proofs.Sums.{sum_by-map}
use Rattle.list_lemmas.proofs.Spans.{opposite_tests, or_where, option_map_injective, filter_map_apart}
use Rattle.list_lemmas.proofs.Spans.{filter_map_alike, positions_tell, sum_by_where}
use Rattle.list_lemmas.proofs.Tests.{bytes_eq_refl, bytes_eq_sound}
use Rattle.list_lemmas.proofs.Each.{all_of_parts, all_weaker}
use Rattle.group_states.proofs.Offered.{is_new, none_new_once_found, number_in-entry_of}
use Rattle.group_states.proofs.Offered.{edge_in-entry_of, each_of_bytes}
use Rattle.group_states.specs.Entry.{ColumnView, entry_of, number_in, edge_in, edge_before, value_in, entry_step}
use Rattle.group_states.specs.Entry.{entries_step, is_entry_cut}
use Rattle.group_states.specs.Found.{all_bytes, found_in}
use Rattle.group_states.specs.Levels.{same_succ, is_end, runs_of}
use Rattle.group_states.specs.Lists.{succ_in, successor, level_found, state_runs}
use Rattle.group_states.specs.State.{is_live}
use Rattle.group_states.specs.declared.run.Run.{Run}
use Rattle.trie_merge.specs.Words.{is_change, cost_ahead, RisesFrom, states_words}

-- ---- entries of rising numbers that become the same

module _ (column : ColumnView) where
  -- a step keeps the number
  pub step_number : (entry byte after : ℕ) → entry_step column entry byte ≡ Some after →
      number_in after ≡ number_in entry
  unfolding entry_step
  step_number entry byte after is =
      let (edge, stepped, made) = from_option_map (entry_of (number_in entry))
      (edge_step (value_in column entry) column.size column.place (edge_before column entry) byte) after is in
      ap number_in (sym made) ∙ number_in-entry_of (number_in entry) edge

  -- an entry has a cut at a byte exactly where the byte changes what becomes of it
  cut_where_changed : (entry byte : ℕ) → (is_entry_cut column entry (byte + 1) ≡ false
      → entry_step column entry byte ≡ entry_step column entry (byte + 1))
      × (entry_step column entry byte ≡ entry_step column entry (byte + 1)
      → is_entry_cut column entry (byte + 1) ≡ false)
  unfolding entry_step is_entry_cut
  cut_where_changed entry byte =
      let back : byte + 1 - 1 ≡ byte = omega arith in
      let told = rw back at (cuts_are_changes (value_in column entry) column.size column.place
      (edge_before column entry) (byte + 1) (omega arith)) in (
        λ uncut. ap (option_map (entry_of (number_in entry))) (sym (told.0 uncut)),
        λ same. told.1 (sym (option_map_injective (entry_of (number_in entry)) edge_in
            (edge_in-entry_of (number_in entry)) _ _ same)),
      )

  -- so a byte is marked exactly where the entries change
  pub marked_where_changed : (entries : List ℕ) (byte : ℕ) → RisesFrom 0 entries →
      list_any (λ entry. is_entry_cut column entry (byte + 1)) entries
      ≡ not (bytes_eq (entries_step column entries byte) (entries_step column entries (byte + 1)))
  unfolding entries_step
  marked_where_changed entries byte rise =
      let f : ℕ → Option ℕ = λ entry. entry_step column entry byte in
      let g : ℕ → Option ℕ = λ entry. entry_step column entry (byte + 1) in
      let cut : ℕ → Bool = λ entry. is_entry_cut column entry (byte + 1) in
      opposite_tests _ _
      (λ unmarked. ap (bytes_eq (entries_step column entries byte))
      (sym (filter_map_alike f g cut (λ entry. (cut_where_changed entry byte).0) entries unmarked))
      ∙ bytes_eq_refl (entries_step column entries byte))
      (λ same. filter_map_apart number_in f g (λ entry. step_number entry byte) (λ entry. step_number entry (byte + 1))
      cut (λ entry. (cut_where_changed entry byte).1) 0 entries rise (bytes_eq_sound _ _ same))

-- ---- lists that differ are reached as states that differ

-- two lists that were found have one successor exactly if they are one list
pub apart_where_lists_are : (found : List (List ℕ)) (one other : List ℕ) → is_new bytes_eq is_live found one ≡ false →
    is_new bytes_eq is_live found other ≡ false
    → same_succ (succ_in false found one) (succ_in false found other) ≡ bytes_eq one other
apart_where_lists_are found [] [] known known' = refl
apart_where_lists_are found [] (y ∷ ys) known known' = refl
apart_where_lists_are found (x ∷ xs) [] known known' = refl
apart_where_lists_are found (x ∷ xs) (y ∷ ys) known known' =
    positions_tell bytes_eq bytes_eq_refl bytes_eq_sound (x ∷ xs) (y ∷ ys) found (not-false _ known)
    (not-false _ known')

-- ---- so the words are known

module _ (set : RuleSetView) (column : ColumnView) (states : List (List ℕ)) where
  -- what the states lead to
  abbrev found : List (List ℕ)
  found = level_found set column false states

  -- all that the state leads to is found
  abbrev IsKnown : List ℕ → Type 0
  IsKnown entries = (byte : ℕ) → byte < 256 → is_new bytes_eq is_live found (entries_step column entries byte) ≡ false

  -- the entries of each state are known
  all_known : AllByRecursion IsKnown states
  unfolding level_found found_in successor
  all_known =
      let finds : List ℕ → List (List ℕ) = λ entries. map (successor set column false entries) all_bytes in
      let IsOld : List ℕ → Type 0 = λ list. is_new bytes_eq is_live found list ≡ false in
      all_weaker (λ entries. AllByRecursion IsOld (finds entries)) IsKnown states
      (λ entries. each_of_bytes IsOld (successor set column false entries))
      (all_of_parts IsOld finds states (none_new_once_found bytes_eq is_live bytes_eq_refl [] (flat_map finds states)))

  -- its runs end where the entries change
  cost_is_ahead : (entries : List ℕ) → IsKnown entries
      → cost_ahead column entries ≡ cost_of (length (state_runs set column false found entries))
  unfolding cost_ahead runs_of all_bytes is_change successor
  cost_is_ahead entries known =
      simp length-map (ap (λ (bytes : List ℕ). cost_of (length bytes)) (sym (filter_on_range
      (is_end (λ b. succ_in false found (entries_step column entries b))) (is_change column entries) 0 256
      (λ byte from below. or_where (byte == 255) _ _ (λ other. ap not (apart_where_lists_are found
      (entries_step column entries byte) (entries_step column entries (byte + 1)) (known byte (omega (arith, below)))
      (known (byte + 1) (omega (arith, below, eqb-false byte 255 other)))))))))

  -- so the words of the states of a place before the last are known from their entries
  pub words_are_ahead : sum_by (cost_ahead column) states
      ≡ states_words (map (state_runs set column false found) states)
  words_are_ahead =
      let cost : List Run → ℕ = λ runs. cost_of (length runs) in
      sum_by_where (cost_ahead column) (λ entries. cost (state_runs set column false found entries)) states
      (all_weaker IsKnown _ states cost_is_ahead all_known)
      ∙ sym (sum_by-map cost (state_runs set column false found) states)
