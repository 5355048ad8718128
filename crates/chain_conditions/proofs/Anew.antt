-- What the flat list says holds even if each question is asked anew.
use Rattle.std.proofs.Common.{◌≡◌, ℕ, zero, suc, List, [], ◌∷◌, ◌++◌, map, cond, Bool, true, false, not, ◌&&◌, ◌||◌}
use Rattle.std.proofs.Common.{Option, Some, None, refl, sym, ap, ◌∙◌, inl, inr}
use Rattle.std.specs.List.{list_any}
use Rattle.std.proofs.lemmas.Bool.{cases_Bool, and_parts, and_from}
use Rattle.list_chains.specs.declared.chain.Target.{Target}
use Rattle.list_chains.specs.declared.chain.Target.TheVariants.{Decide, Return, Jump, Go}
use Rattle.list_chains.specs.Chains.{ListRule, at_or, answer_or}
use Rattle.list_chains.specs.Flat.{Entry, first_answer, Flat, no_entries, target_flat, met_before, shared, parts_flat}
use Rattle.list_chains.specs.Flat.{met_flat, rules_flat, chains_flat, policy_entry}
use Rattle.list_chains.specs.FlatLaws.{holds_in, IsMeet}
use Rattle.chain_conditions.specs.Conditions.{Conditional, under, conditional_meet, surely, is_none, category}
use Rattle.chain_conditions.specs.Laws.{ConditionalChains, conditional_list, category_answer}
use Rattle.chain_conditions.specs.Anew.{holds_surely, may_catch, may_miss}
use Rattle.chain_conditions.specs.Anew.{target_always, rules_always, chains_always, always}

-- one of two
or_left : (a b : Bool) → (a ≡ true → b ≡ true) → (not a || b) ≡ true
or_left true b f = f refl
or_left false b f = refl

module _ {B : Type 0} (holds : B → Bool) (test : ℕ → Bool) where
  -- the entries that a packet may be decided by pass a test, and so does what follows if none is sure
  abbrev pass : List (Entry (Conditional B)) → Bool → Bool
  pass [] rest = rest
  pass (entry ∷ entries) rest =
      cond (holds entry.box.box) (test entry.userdata && (is_none entry.box.conditions || pass entries rest))
      (pass entries rest)

  -- two lists in turn
  pass_append : (xs ys : List (Entry (Conditional B))) (rest : Bool) → pass (xs ++ ys) rest ≡ pass xs (pass ys rest)
  pass_append [] ys rest = refl
  pass_append (x ∷ xs) ys rest = rw (pass_append xs ys rest) refl

  -- what is written for a box passes on the packets that aren't in it for sure
  abbrev PassesOn : (Conditional B → List (Entry (Conditional B))) → Type 0
  PassesOn written = (b : Conditional B) (rest : Bool) → holds_surely holds b ≡ false → pass (written b) rest ≡ true →
      rest ≡ true

  -- what is written for packets that leave passes only if they do
  record IsLeave (leave : Conditional B → List (Entry (Conditional B))) (left : Bool) : Type 0 where
    inside : (b : Conditional B) (rest : Bool) → holds b.box ≡ true → pass (leave b) rest ≡ true → left ≡ true
    outside : PassesOn leave

  -- what is written for a chain passes only if its answers do
  record IsFlat (flat : Flat (Conditional B)) (chain : Bool → Bool) : Type 0 where
    inside : (leave : Conditional B → List (Entry (Conditional B))) (left : Bool) → IsLeave leave left →
        (b : Conditional B) (rest : Bool) → (rest ≡ true → left ≡ true) → holds b.box ≡ true →
        pass (flat b leave) rest ≡ true → chain left ≡ true
    outside : (leave : Conditional B → List (Entry (Conditional B))) (left : Bool) → IsLeave leave left →
        PassesOn (λ b. flat b leave)

  -- a chain that isn't there
  nothing_flat : IsFlat no_entries (λ b. b)
  nothing_flat = record {
    inside = λ leave left l b rest r h p. r p;
    outside = λ leave left l b rest h p. p;
  }

  -- an entry
  one_outside : (b : Conditional B) (answer : ℕ) (rest : Bool) → holds_surely holds b ≡ false →
      pass (record { box = b; userdata = answer } ∷ []) rest ≡ true → rest ≡ true
  one_outside b answer rest h p = elim (cases_Bool (holds b.box)) [
    | inl e ↦ elim (cases_Bool (is_none b.conditions)) [
      | inl s ↦ absurd (let both = and_from (holds b.box) (is_none b.conditions) e s in cc)
      | inr s ↦ (and_parts (test answer) rest (sym (rw (e, s) refl) ∙ p)).1
    ]
    | inr e ↦ sym (rw e refl) ∙ p
  ]

  one_inside : (b : Conditional B) (answer : ℕ) (rest : Bool) → holds b.box ≡ true →
      pass (record { box = b; userdata = answer } ∷ []) rest ≡ true → test answer ≡ true
  one_inside b answer rest e p =
      (and_parts (test answer) (is_none b.conditions || rest) (sym (rw e refl) ∙ p)).0

  -- the rest of a chain and what leaves it
  leaves_after : (after : Flat (Conditional B)) (chain : Bool → Bool) → IsFlat after chain →
      (leave : Conditional B → List (Entry (Conditional B))) (left : Bool) → IsLeave leave left →
      IsLeave (λ m. after m leave ++ leave m) (chain left)
  leaves_after after chain flat leave left leaves = record {
    inside = λ b rest h p. flat.inside leave left leaves b (pass (leave b) rest) (leaves.inside b rest h) h
        (sym (pass_append (after b leave) (leave b) rest) ∙ p);
    outside = λ b rest h p. leaves.outside b rest h (flat.outside leave left leaves b (pass (leave b) rest) h
        (sym (pass_append (after b leave) (leave b) rest) ∙ p));
  }

  -- each of some chains
  abbrev AreFlat : List (Flat (Conditional B)) → List (Bool → Bool) → Type 0
  AreFlat flats chains = (place : ℕ) → IsFlat (at_or flats place no_entries) (at_or chains place (λ b. b))

  module _ (flats : List (Flat (Conditional B))) (chains : List (Bool → Bool)) (are : AreFlat flats chains) where
    -- a target passes on the packets that it doesn't get for sure
    target_outside : (userdata : ℕ) (target : Target) (after leave : Conditional B → List (Entry (Conditional B)))
        (next left : Bool) → IsLeave after next → IsLeave leave left →
        PassesOn (target_flat flats userdata target after leave)
    target_outside userdata Decide after leave next left afters leaves b rest h p = one_outside b userdata rest h p
    target_outside userdata Return after leave next left afters leaves b rest h p = leaves.outside b rest h p
    target_outside userdata (Jump place) after leave next left afters leaves b rest h p =
        (are place).outside after next afters b rest h p
    target_outside userdata (Go place) after leave next left afters leaves b rest h p =
        leaves.outside b rest h ((are place).outside leave left leaves b (pass (leave b) rest) h
        (sym (pass_append (at_or flats place no_entries b leave) (leave b) rest) ∙ p))

    -- and for those that it gets, passes only if its answers do
    target_inside : (userdata : ℕ) (target : Target) (after leave : Conditional B → List (Entry (Conditional B)))
        (next left : Bool) → IsLeave after next → IsLeave leave left →
        (b : Conditional B) (rest : Bool) → (rest ≡ true → next ≡ true) → holds b.box ≡ true →
        pass (target_flat flats userdata target after leave b) rest ≡ true →
        target_always test chains userdata target next left ≡ true
    target_inside userdata Decide after leave next left afters leaves b rest r h p = one_inside b userdata rest h p
    target_inside userdata Return after leave next left afters leaves b rest r h p = leaves.inside b rest h p
    target_inside userdata (Jump place) after leave next left afters leaves b rest r h p =
        (are place).inside after next afters b rest r h p
    target_inside userdata (Go place) after leave next left afters leaves b rest r h p =
        (are place).inside leave left leaves b (pass (leave b) rest) (leaves.inside b rest h) h
        (sym (pass_append (at_or flats place no_entries b leave) (leave b) rest) ∙ p)

    -- parts none of which a packet is in for sure pass on
    parts_outside : (after : Conditional B → List (Entry (Conditional B))) → PassesOn after →
        (parts : List (Conditional B))
        (written : List (Entry (Conditional B))) (rest : Bool) → list_any (holds_surely holds) parts ≡ false →
        pass (parts_flat after parts written) rest ≡ true → pass written rest ≡ true
    parts_outside after on [] written rest none p = p
    parts_outside after on (part ∷ parts) written rest none p =
        let both = neither (holds_surely holds part) (list_any (holds_surely holds) parts) none in
        on part (pass written rest) both.0
        (sym (pass_append (after part) written rest)
        ∙ parts_outside after on parts (after part ++ written) rest both.1 p)
      where
        neither : (a b : Bool) → (a || b) ≡ false → (a ≡ false) × (b ≡ false)
        neither true b e = absurd (cc)
        neither false b e = (refl, e)

    -- where a packet is in a part, what goes on after it passes
    parts_missed : (after : Conditional B → List (Entry (Conditional B))) (next : Bool) → IsLeave after next →
        (parts : List (Conditional B)) (written : List (Entry (Conditional B))) (rest : Bool) →
        list_any (λ (it : Conditional B). holds it.box) parts ≡ true →
        pass (parts_flat after parts written) rest ≡ true → next ≡ true
    parts_missed after next afters [] written rest some p = absurd (cc)
    parts_missed after next afters (part ∷ parts) written rest some p =
        elim (cases_Bool (list_any (λ (it : Conditional B). holds it.box) parts)) [
          | inl e ↦ parts_missed after next afters parts (after part ++ written) rest e p
          | inr e ↦ afters.inside part (pass written rest) (last (holds part.box) _ some e)
              (sym (pass_append (after part) written rest)
              ∙ parts_outside after afters.outside parts (after part ++ written) rest (unsure parts e) p)
        ]
      where
        last : (a b : Bool) → (a || b) ≡ true → b ≡ false → a ≡ true
        last true b e f = refl
        last false b e f = absurd (cc)

        unsure : (parts : List (Conditional B)) → list_any (λ (it : Conditional B). holds it.box) parts ≡ false →
            list_any (holds_surely holds) parts ≡ false
        unsure [] e = refl
        unsure (x ∷ xs) e = elim (cases_Bool (holds x.box)) [
          | inl h ↦ absurd (let no : true ≡ false = sym (rw h refl) ∙ e in cc)
          | inr h ↦ rw h (unsure xs (sym (rw h refl) ∙ e))
        ]

    module _ (meet : B → B → Option B) (is_meet : IsMeet holds meet) where
      -- a packet is in what two have in common, or is so for sure, if it is in both
      both_box : IsMeet (λ (it : Conditional B). holds it.box) (conditional_meet meet)
      both_box one other = before (meet one.box other.box) ∙ is_meet one.box other.box
        where
          before : (m : Option B) →
              holds_in (λ (it : Conditional B). holds it.box) (under (one.conditions ++ other.conditions) m) ≡ holds_in
              holds m
          before None = refl
          before (Some box) = refl

      both_surely : IsMeet (holds_surely holds) (conditional_meet meet)
      both_surely one other =
          before (meet one.box other.box)
          ∙ rw (is_meet one.box other.box, none one.conditions other.conditions)
          (four (holds one.box) (holds other.box) (is_none one.conditions) (is_none other.conditions))
        where
          before : (m : Option B) →
              holds_in (holds_surely holds) (under (one.conditions ++ other.conditions) m)
              ≡ (holds_in holds m && is_none (one.conditions ++ other.conditions))
          before None = refl
          before (Some box) = refl

          none : (xs ys : List ℕ) → is_none (xs ++ ys) ≡ (is_none xs && is_none ys)
          none [] ys = refl
          none (x ∷ xs) ys = refl

          four : (a b c d : Bool) → ((a && b) && (c && d)) ≡ ((a && c) && (b && d))
          four true true c d = refl
          four true false true d = refl
          four true false false d = refl
          four false b c d = refl

      -- so of some boxes
      shared_any : (in_it : Conditional B → Bool) → IsMeet in_it (conditional_meet meet) → (met : Conditional B)
          (boxes : List (Conditional B)) →
          list_any in_it (shared (conditional_meet meet) met boxes) ≡ (in_it met && list_any in_it boxes)
      shared_any in_it is met [] = sym (and_false (in_it met))
        where
          and_false : (b : Bool) → (b && false) ≡ false
          and_false true = refl
          and_false false = refl
      shared_any in_it is met (box ∷ boxes) =
          before (conditional_meet meet met box)
          ∙ rw (is met box, shared_any in_it is met boxes) (sym (and_or (in_it met) (in_it box) (list_any in_it boxes)))
        where
          before : (m : Option (Conditional B)) →
              list_any in_it (met_before m (shared (conditional_meet meet) met boxes))
              ≡ (holds_in in_it m || list_any in_it (shared (conditional_meet meet) met boxes))
          before None = refl
          before (Some part) = refl

          and_or : (a b c : Bool) → (a && (b || c)) ≡ ((a && b) || (a && c))
          and_or true b c = refl
          and_or false b c = refl

      -- a rule and another box: what isn't in both for sure goes on
      met_outside : (rule : ListRule (Conditional B)) (after leave : Conditional B → List (Entry (Conditional B)))
          (next left : Bool) → IsLeave after next → IsLeave leave left → (met : Option (Conditional B)) (rest : Bool) →
          holds_in (holds_surely holds) met ≡ false →
          pass (met_flat (conditional_meet meet) flats rule after leave met) rest ≡ true → rest ≡ true
      met_outside rule after leave next left afters leaves None rest h p = p
      met_outside rule after leave next left afters leaves (Some met) rest h p =
          target_outside rule.userdata rule.target after leave next left afters leaves met rest h
          (parts_outside after afters.outside (shared (conditional_meet meet) met rule.but)
          (target_flat flats rule.userdata rule.target after leave met) rest
          (shared_any (holds_surely holds) both_surely met rule.but ∙ rw h refl) p)

      -- what isn't left out for sure passes only if the target's answers do
      met_inside : (rule : ListRule (Conditional B)) (after leave : Conditional B → List (Entry (Conditional B)))
          (next left : Bool) → IsLeave after next → IsLeave leave left → (met : Option (Conditional B)) (rest : Bool) →
          (rest ≡ true → next ≡ true) →
          holds_in (λ (it : Conditional B). holds it.box) met ≡ true → list_any (holds_surely holds) rule.but ≡ false →
          pass (met_flat (conditional_meet meet) flats rule after leave met) rest ≡ true →
          target_always test chains rule.userdata rule.target next left ≡ true
      met_inside rule after leave next left afters leaves None rest r h none p = absurd (cc)
      met_inside rule after leave next left afters leaves (Some met) rest r h none p =
          target_inside rule.userdata rule.target after leave next left afters leaves met rest r h
          (parts_outside after afters.outside (shared (conditional_meet meet) met rule.but)
          (target_flat flats rule.userdata rule.target after leave met) rest
          (shared_any (holds_surely holds) both_surely met rule.but ∙ rw none (and_false (holds_surely holds met))) p)
        where
          and_false : (b : Bool) → (b && false) ≡ false
          and_false true = refl
          and_false false = refl

      -- what may be left out passes only if what goes on does
      met_missed : (rule : ListRule (Conditional B)) (after leave : Conditional B → List (Entry (Conditional B)))
          (next left : Bool) → IsLeave after next → (met : Option (Conditional B)) (rest : Bool) →
          holds_in (λ (it : Conditional B). holds it.box) met ≡ true →
          list_any (λ (it : Conditional B). holds it.box) rule.but ≡ true →
          pass (met_flat (conditional_meet meet) flats rule after leave met) rest ≡ true → next ≡ true
      met_missed rule after leave next left afters None rest h some p = absurd (cc)
      met_missed rule after leave next left afters (Some met) rest h some p =
          parts_missed after next afters (shared (conditional_meet meet) met rule.but)
          (target_flat flats rule.userdata rule.target after leave met) rest
          (shared_any (λ (it : Conditional B). holds it.box) both_box met rule.but ∙ rw (h, some) refl) p

      -- some rules
      rules_are_flat : (rules : List (ListRule (Conditional B))) →
          IsFlat (rules_flat (conditional_meet meet) flats rules) (rules_always test holds chains rules)
      rules_are_flat [] = record {
        inside = λ leave left leaves b rest r h p. r p;
        outside = λ leave left leaves b rest h p. p;
      }
      rules_are_flat (rule ∷ rules) =
          let flat = rules_are_flat rules in
          record {
            inside = λ leave left leaves b rest r h p.
                let next : Bool = rules_always test holds chains rules left in
                let after : Conditional B → List (Entry (Conditional B)) =
                λ met. rules_flat (conditional_meet meet) flats rules met leave ++ leave met in
                let afters = leaves_after (rules_flat (conditional_meet meet) flats rules)
                (rules_always test holds chains rules)
                flat leave left leaves in
                let met : Option (Conditional B) = conditional_meet meet b rule.inside in
                let tail : Bool = pass (rules_flat (conditional_meet meet) flats rules b leave) rest in
                let here : pass (met_flat (conditional_meet meet) flats rule after leave met) tail ≡ true =
                sym (pass_append (met_flat (conditional_meet meet) flats rule after leave met)
                (rules_flat (conditional_meet meet) flats rules b leave) rest) ∙ p in
                let on : tail ≡ true → next ≡ true = flat.inside leave left leaves b rest r h in
                and_from _ _
                (or_left (may_catch holds rule) (target_always test chains rule.userdata rule.target next left) (λ e.
                let parts = and_parts (holds rule.inside.box) (not (list_any (holds_surely holds) rule.but)) e in
                met_inside rule after leave next left afters leaves met tail on
                (both_box b rule.inside ∙ rw (h, parts.0) refl) (not_true _ parts.1) here))
                (or_left (may_miss holds rule) next (λ e. elim (cases_Bool (holds_surely holds rule.inside)) [
                  | inl s ↦ met_missed rule after leave next left afters met tail
                      (both_box b rule.inside
                      ∙ rw (h, (and_parts (holds rule.inside.box) (is_none rule.inside.conditions) s).0) refl)
                      (sym (rw s refl) ∙ e) here
                  | inr s ↦ on (met_outside rule after leave next left afters leaves met tail
                      (both_surely b rule.inside ∙ rw s (nothing (holds_surely holds b))) here)
                ]));
            outside = λ leave left leaves b rest h p.
                let after : Conditional B → List (Entry (Conditional B)) =
                λ met. rules_flat (conditional_meet meet) flats rules met leave ++ leave met in
                let afters = leaves_after (rules_flat (conditional_meet meet) flats rules)
                (rules_always test holds chains rules)
                flat leave left leaves in
                let met : Option (Conditional B) = conditional_meet meet b rule.inside in
                flat.outside leave left leaves b rest h
                (met_outside rule after leave (rules_always test holds chains rules left) left afters leaves met
                (pass (rules_flat (conditional_meet meet) flats rules b leave) rest)
                (both_surely b rule.inside ∙ rw h refl)
                (sym (pass_append (met_flat (conditional_meet meet) flats rule after leave met)
                (rules_flat (conditional_meet meet) flats rules b leave) rest) ∙ p));
          }
        where
          not_true : (b : Bool) → not b ≡ true → b ≡ false
          not_true true e = absurd (cc)
          not_true false e = refl

          nothing : (b : Bool) → (b && false) ≡ false
          nothing true = refl
          nothing false = refl

  module _ (meet : B → B → Option B) (is_meet : IsMeet holds meet) where
    -- every chain of a list
    maps_are_flat : (flats : List (Flat (Conditional B))) (decisions : List (Bool → Bool)) → AreFlat flats decisions →
        (chains : ConditionalChains B) →
        AreFlat (map (rules_flat (conditional_meet meet) flats) chains) (map (rules_always test holds decisions) chains)
    maps_are_flat flats decisions are [] place = nothing_flat
    maps_are_flat flats decisions are (chain ∷ chains) zero = rules_are_flat flats decisions are meet is_meet chain
    maps_are_flat flats decisions are (chain ∷ chains) (suc place) = maps_are_flat flats decisions are chains place

    -- at each depth
    chains_are_flat : (depth : ℕ) (chains : ConditionalChains B) →
        AreFlat (chains_flat (conditional_meet meet) depth chains) (chains_always test holds depth chains)
    chains_are_flat zero chains = λ place. nothing_flat
    chains_are_flat (suc depth) chains =
        maps_are_flat (chains_flat (conditional_meet meet) depth chains) (chains_always test holds depth chains)
        (chains_are_flat depth chains) chains

    -- the policy
    policy_leaves : (policy : ℕ) → IsLeave (policy_entry policy) (test policy)
    policy_leaves policy = record {
      inside = λ b rest h p. one_inside b policy rest h p;
      outside = λ b rest h p. one_outside b policy rest h p;
    }

    -- a list whose entries pass is of chains whose answers do
    pub passed_always : (depth : ℕ) (chains : ConditionalChains B) (place policy : ℕ) (whole : B) → holds whole ≡ true →
        pass (conditional_list meet depth chains place policy whole) true ≡ true →
        always test holds depth chains place policy ≡ true
    passed_always depth chains place policy whole h p =
        let leaves = policy_leaves policy in
        let flat : Flat (Conditional B) = at_or (chains_flat (conditional_meet meet) depth chains) place no_entries in
        (chains_are_flat depth chains place).inside (policy_entry policy) (test policy) leaves (surely whole)
        (pass (policy_entry policy (surely whole)) true)
        (λ e. leaves.inside (surely whole) true h e) h
        (sym (pass_append (flat (surely whole) (policy_entry policy)) (policy_entry policy (surely whole)) true) ∙ p)

  -- the category of the answers that fail the test has one that passes: then all entries pass
  pub category_passes : (entries : List (Entry (Conditional B))) →
      test (category_answer holds (λ answer. not (test answer)) entries) ≡ true → pass entries true ≡ true
  category_passes [] e = refl
  category_passes (x ∷ xs) e = elim (cases_Bool (holds x.box.box)) [
    | inl h ↦ elim (cases_Bool (is_none x.box.conditions)) [
      | inl s ↦ rw (h, s) (and_from (test x.userdata) true (sym (rw (s, h) refl) ∙ e) refl)
      | inr s ↦ elim (cases_Bool (test x.userdata)) [
        | inl t ↦ rw (h, s, t) (category_passes xs (left_out s t))
        | inr t ↦ absurd (let passes : test x.userdata ≡ true = kept s t h in cc)
      ]
    ]
    | inr h ↦ rw h (category_passes xs (skip h))
  ]
    where
      left_out : is_none x.box.conditions ≡ false → test x.userdata ≡ true →
          test (category_answer holds (λ answer. not (test answer)) xs) ≡ true
      left_out s t =
          let out : category (λ answer. not (test answer)) (x ∷ xs) ≡ category (λ answer. not (test answer)) xs =
          rw (s, t) refl in
          sym (ap (λ kept. test (answer_or (first_answer holds kept) 0)) out) ∙ e

      kept : is_none x.box.conditions ≡ false → test x.userdata ≡ false → holds x.box.box ≡ true →
          test x.userdata ≡ true
      kept s t h =
          let first : category_answer holds (λ answer. not (test answer)) (x ∷ xs) ≡ x.userdata = rw (s, t, h) refl in
          sym (ap test first) ∙ e

      skip : holds x.box.box ≡ false → test (category_answer holds (λ answer. not (test answer)) xs) ≡ true
      skip h = elim (cases_Bool (is_none x.box.conditions || not (test x.userdata))) [
        | inl t ↦ sym (rw (t, h) refl) ∙ e
        | inr t ↦ sym (rw t refl) ∙ e
      ]
