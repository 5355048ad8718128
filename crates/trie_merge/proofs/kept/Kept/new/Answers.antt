use Rattle.std.proofs.Common.{◌≡◌, ℕ, ◌^◌, ◌==◌, List, length, map, Bool, true, not, ◌&&◌, ◌||◌, ◌∙◌, ap, arith}
use Rattle.std.specs.List.{sum_by}
use Rattle.std.proofs.lemmas.List.{length-map}
use Rattle.std.proofs.lemmas.List.Elements.{filter_agree}
use Rattle.std.proofs.lemmas.List.Folds.{list_all-map}
use Rattle.std.proofs.lemmas.List.FromFn.{length-range_with_len, get_or-map-range_with_len}
use Rattle.field_defs.specs.Layout.{key_len_of}
use Rattle.rule_set.specs.Rule.{RuleSetView}
use Rattle.table_sizes.specs.Groups.{group_of}
use Rattle.group_states.specs.Kept.{is_wild_place, is_idle, is_kept, key_places, kept_places, kept_bits}
use Rattle.list_lemmas.proofs.Spans.{list_all_on_range}
use Rattle.trie_merge.specs.Wild.{is_idle_by, is_kept_by, places_by, bits_by}
use Rattle.trie_merge.proofs.kept.Kept.new.Goals as goal

-- what the places that are wild say of the kept groups
module _ (set : RuleSetView) (group : List ℕ) where
  abbrev wild : List Bool
  wild = map (is_wild_place set group) (key_places set)

  length-wild : length wild ≡ key_len_of set.layout
  length-wild = length-map (key_places set) (is_wild_place set group) ∙ length-range_with_len 0 (key_len_of set.layout)

  kept_says : (input : ℕ) → is_kept_by wild input ≡ is_kept set group input
  unfolding is_kept_by is_kept is_idle_by is_idle
  kept_says input =
      let idle : is_idle_by wild input ≡ is_idle set group input =
      rw length-wild (list_all_on_range _ _ 0 (key_len_of set.layout) (λ k from below. ap
      (λ b. not (group_of k == input) || b)
      (get_or-map-range_with_len (is_wild_place set group) 0 (key_len_of set.layout) k k true (omega arith)
      (omega arith)))) in
      λ i. not (idle i) || (input == 0 && list_all-map (λ (is : Bool). is) (is_wild_place set group) (key_places set) i)

  places_say : places_by wild ≡ kept_places set group
  unfolding places_by kept_places
  places_say = rw length-wild (filter_agree _ _ (λ place. kept_says (group_of place)) (key_places set))

  bits_say : bits_by wild ≡ kept_bits set group
  unfolding bits_by kept_bits
  bits_say = rw length-wild (ap (sum_by (λ input. 2 ^ input)) (filter_agree _ _ kept_says _))

pub kept_places-requires : goal.kept_places-requires
kept_places-requires c =
    let long = length-wild c.args.rules.now c.args.group.now in
    omega (arith, ap length (c.as_slice.ensures.value ∙ c.in_ok-wild.ensures), long)

pub kept_bits-bits-requires : goal.kept_bits-bits-requires
kept_bits-bits-requires c =
    let long = ap length (c.as_slice-2.ensures.value ∙ c.in_ok-wild.ensures)
    ∙ length-wild c.args.rules.now c.args.group.now in
    record { some = omega (arith, long); few = omega (arith, long) }

pub returns-clause-places : goal.returns-clause-places
returns-clause-places c =
    c.in_ok-places.ensures ∙ (rw (c.as_slice.ensures.value, c.in_ok-wild.ensures) (places_say _ _))

pub returns-clause-bits : goal.returns-clause-bits
returns-clause-bits c =
    c.kept_bits-bits.ensures ∙ (rw (c.as_slice-2.ensures.value, c.in_ok-wild.ensures) (bits_say _ _))
