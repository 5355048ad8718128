-- Rules that ask more than a box says: the state of a connection, a rate, a set, a mark. Each such
-- question is a condition with a number, and an oracle says for a packet which conditions hold.
-- After Diekmann et al., "Verified iptables Firewall Analysis": nothing is known of the oracle.
use Rattle.std.specs.Prelude.{ℕ, List, [], ◌∷◌, ◌++◌, map}
use Rattle.std.specs.Prelude.{filter, Bool, true, false, ◌&&◌, ◌||◌, ◌==◌}
use Rattle.std.specs.Prelude.{Option, Some, None}
use Rattle.std.specs.List.{list_all, list_any}
use Rattle.list_chains.specs.Flat.{Entry, first_answer}

-- the packets of a box for which some conditions hold
pub record Conditional (B : Type 0) : Type 0 where
  pub box : B
  pub conditions : List ℕ

-- the conditions of a box that has one, or none
abbrev pub conditions_of : Option ℕ → List ℕ
conditions_of None = []
conditions_of (Some condition) = condition ∷ []

-- by an oracle for the packet
abbrev pub holds_by : {B : Type 0} → (B → Bool) → (ℕ → Bool) → Conditional B → Bool
holds_by holds oracle it = holds it.box && list_all oracle it.conditions

-- a box with conditions, if there is a box
abbrev pub under : {B : Type 0} → List ℕ → Option B → Option (Conditional B)
under conditions None = None
under conditions (Some box) = Some (record { box = box; conditions = conditions })

-- what two have in common: what their boxes have, where the conditions of both hold
abbrev pub conditional_meet : {B : Type 0} → (B → B → Option B) → Conditional B → Conditional B →
    Option (Conditional B)
conditional_meet meet one other = under (one.conditions ++ other.conditions)
    (meet one.box other.box)

-- a box without conditions
abbrev pub surely : {B : Type 0} → B → Conditional B
surely box = record { box = box; conditions = [] }

-- there are none
abbrev pub is_none : List ℕ → Bool
is_none [] = true
is_none (x ∷ xs) = false

-- an entry that decides its packets whatever holds
abbrev pub is_sure : {B : Type 0} → Entry (Conditional B) → Bool
is_sure entry = is_none entry.box.conditions

-- the entry without its conditions
abbrev pub plain : {B : Type 0} → Entry (Conditional B) → Entry B
plain entry = record { box = entry.box.box; userdata = entry.userdata }

-- the entry takes part in the category of the answers that pass a test: each sure one does
abbrev pub takes_part : {B : Type 0} → (ℕ → Bool) → Entry (Conditional B) → Bool
takes_part test entry = is_sure entry || test entry.userdata

-- the entries of that category, without their conditions
abbrev pub category : {B : Type 0} → (ℕ → Bool) → List (Entry (Conditional B)) → List (Entry B)
category test entries = map plain (filter (takes_part test) entries)

-- the oracle of which just some conditions hold
abbrev pub only : List ℕ → ℕ → Bool
only conditions x = list_any (λ y. y == x) conditions

-- what the list answers if just the conditions of an entry hold
abbrev pub witnessed : {B : Type 0} → (B → Bool) → List (Entry (Conditional B)) →
    Entry (Conditional B) → Option ℕ
witnessed holds entries entry = first_answer (holds_by holds (only entry.box.conditions)) entries

-- the answers that a packet may have: each for the entry that gives it
abbrev pub possible : {B : Type 0} → (B → Bool) → List (Entry (Conditional B)) → List (Option ℕ)
possible holds entries = map (witnessed holds entries) entries
