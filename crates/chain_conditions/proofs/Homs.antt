-- Chains over other boxes: where what two boxes have in common is kept, so is the flat list.
use Rattle.std.proofs.Common.{◌≡◌, ℕ, zero, suc, List, [], ◌∷◌, ◌++◌, map}
use Rattle.std.proofs.Common.{Option, Some, None, refl, sym, ap, ◌∙◌}
use Rattle.std.specs.Option.{option_map}
use Rattle.std.proofs.lemmas.List.{map-append}
use Rattle.list_chains.specs.declared.chain.Target.{Target}
use Rattle.list_chains.specs.declared.chain.Target.TheVariants.{Decide, Return, Jump, Go}
use Rattle.list_chains.specs.Chains.{ListRule, at_or}
use Rattle.list_chains.specs.Flat.{Entry, Flat, no_entries, target_flat, met_before, shared, parts_flat, met_flat}
use Rattle.list_chains.specs.Flat.{rules_flat, chains_flat, policy_entry, flattened}
use Rattle.chain_conditions.specs.Marked.{over_boxes, over_box}

-- what two boxes have in common is kept
abbrev pub KeepsMeet : {B C : Type 0} → (B → C) → (B → B → Option B) → (C → C → Option C) → Type 0
KeepsMeet {B} f meet others = (one other : B) → others (f one) (f other) ≡ option_map f (meet one other)

module _ {B C : Type 0} (f : B → C) (meet : B → B → Option B) (others : C → C → Option C)
    (keeps : KeepsMeet f meet others) where
  -- the same entries, over the other boxes
  abbrev over : List (Entry B) → List (Entry C)
  over entries = map (over_box f) entries

  -- what is written for the packets of a box
  abbrev Alike : (B → List (Entry B)) → (C → List (Entry C)) → Type 0
  Alike leave its = (box : B) → its (f box) ≡ over (leave box)

  -- by what is written for those that leave
  abbrev AreAlike : Flat B → Flat C → Type 0
  AreAlike flat its = (box : B) (leave : B → List (Entry B)) (left : C → List (Entry C)) → Alike leave left →
      its (f box) left ≡ over (flat box leave)

  -- and for each chain of a list
  abbrev AllAlike : List (Flat B) → List (Flat C) → Type 0
  AllAlike flats its = (place : ℕ) → AreAlike (at_or flats place no_entries) (at_or its place no_entries)

  -- what a box has in common with some others
  more_shared : (met : Option B) (rest : List B) →
      met_before (option_map f met) (map f rest) ≡ map f (met_before met rest)
  more_shared None rest = refl
  more_shared (Some met) rest = refl

  shared_alike : (met : B) (boxes : List B) →
      shared others (f met) (map f boxes) ≡ map f (shared meet met boxes)
  shared_alike met [] = refl
  shared_alike met (box ∷ boxes) =
      rw (keeps met box, shared_alike met boxes) (more_shared (meet met box) (shared meet met boxes))

  -- what a rule leaves out
  parts_alike : (after : B → List (Entry B)) (its : C → List (Entry C)) → Alike after its → (parts : List B)
      (rest : List (Entry B)) → parts_flat its (map f parts) (over rest) ≡ over (parts_flat after parts rest)
  parts_alike after its alike [] rest = refl
  parts_alike after its alike (part ∷ parts) rest =
      ap (parts_flat its (map f parts))
      (ap (λ entries. entries ++ over rest) (alike part) ∙ sym (map-append (over_box f) (after part) rest))
      ∙ parts_alike after its alike parts (after part ++ rest)

  module _ (flats : List (Flat B)) (its : List (Flat C)) (all : AllAlike flats its) where
    -- a target
    target_alike : (userdata : ℕ) (target : Target) (after leave : B → List (Entry B))
        (later left : C → List (Entry C)) → Alike after later → Alike leave left → (met : B) →
        target_flat its userdata target later left (f met) ≡ over (target_flat flats userdata target after leave met)
    target_alike userdata Decide after leave later left a l met = refl
    target_alike userdata Return after leave later left a l met = l met
    target_alike userdata (Jump place) after leave later left a l met = all place met after later a
    target_alike userdata (Go place) after leave later left a l met =
        (λ i. all place met leave left l i ++ l met i)
        ∙ sym (map-append (over_box f) (at_or flats place no_entries met leave) (leave met))

    -- a rule and a box
    met_alike : (rule : ListRule B) (after leave : B → List (Entry B)) (later left : C → List (Entry C)) →
        Alike after later → Alike leave left → (met : Option B) →
        met_flat others its (over_boxes f rule) later left (option_map f met)
        ≡ over (met_flat meet flats rule after leave met)
    met_alike rule after leave later left a l None = refl
    met_alike rule after leave later left a l (Some met) =
        (λ i. parts_flat later (shared_alike met rule.but i)
        (target_alike rule.userdata rule.target after leave later left a l met i))
        ∙ parts_alike after later a (shared meet met rule.but)
        (target_flat flats rule.userdata rule.target after leave met)

    -- some rules
    rules_alike : (rules : List (ListRule B)) →
        AreAlike (rules_flat meet flats rules) (rules_flat others its (map (over_boxes f) rules))
    rules_alike [] box leave left l = refl
    rules_alike (rule ∷ rules) box leave left l =
        let after : B → List (Entry B) = λ m. rules_flat meet flats rules m leave ++ leave m in
        let later : C → List (Entry C) =
        λ m. rules_flat others its (map (over_boxes f) rules) m left ++ left m in
        let afters : Alike after later = λ m.
        (λ i. rules_alike rules m leave left l i ++ l m i)
        ∙ sym (map-append (over_box f) (rules_flat meet flats rules m leave) (leave m)) in
        let here : List (Entry B) = met_flat meet flats rule after leave (meet box rule.inside) in
        let met : met_flat others its (over_boxes f rule) later left (others (f box) (f rule.inside)) ≡ over here =
        ap (met_flat others its (over_boxes f rule) later left) (keeps box rule.inside)
        ∙ met_alike rule after leave later left afters l (meet box rule.inside) in
        (λ i. met i ++ rules_alike rules box leave left l i)
        ∙ sym (map-append (over_box f) here (rules_flat meet flats rules box leave))

    -- each chain of a list
    maps_alike : (chains : List (List (ListRule B))) →
        AllAlike (map (rules_flat meet flats) chains)
        (map (rules_flat others its) (map (map (over_boxes f)) chains))
    maps_alike [] place = λ box leave left l. refl
    maps_alike (chain ∷ chains) zero = rules_alike chain
    maps_alike (chain ∷ chains) (suc place) = maps_alike chains place

  -- at each depth
  chains_alike : (depth : ℕ) (chains : List (List (ListRule B))) →
      AllAlike (chains_flat meet depth chains) (chains_flat others depth (map (map (over_boxes f)) chains))
  chains_alike zero chains = λ place box leave left l. refl
  chains_alike (suc depth) chains =
      maps_alike (chains_flat meet depth chains) (chains_flat others depth (map (map (over_boxes f)) chains))
      (chains_alike depth chains) chains

  -- the flat list
  pub flat_alike : (depth : ℕ) (chains : List (List (ListRule B))) (place policy : ℕ) (box : B) →
      flattened others depth (map (map (over_boxes f)) chains) place policy (f box)
      ≡ over (flattened meet depth chains place policy box)
  flat_alike depth chains place policy box =
      (λ i. chains_alike depth chains place box (policy_entry policy) (policy_entry policy) (λ b. refl) i
      ++ policy_entry policy (f box))
      ∙ sym (map-append (over_box f) (at_or (chains_flat meet depth chains) place no_entries box (policy_entry policy))
      (policy_entry policy box))
