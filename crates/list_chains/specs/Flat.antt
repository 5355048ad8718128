-- Chains as one list of boxes, of which the first that a packet is in decides it.
use Rattle.std.specs.Prelude.{ℕ, List, [], ◌∷◌, ◌++◌, map, Bool, Option, Some, None}
use Rattle.std.specs.Prelude.{if◌then◌else◌}
use Rattle.std.proofs.Common.{zero, suc}
use Rattle.list_chains.specs.declared.chain.Target.{Target}
use Rattle.list_chains.specs.declared.chain.Target.TheVariants.{Decide, Return, Jump, Go}
use Rattle.list_chains.specs.Chains.{ListRule, at_or}

-- a box, and the answer for its packets
pub record Entry (B : Type 0) : Type 0 where
  pub box : B
  pub userdata : ℕ

-- the answer of the first entry whose box a packet is in
abbrev pub first_answer : {B : Type 0} → (B → Bool) → List (Entry B) → Option ℕ
first_answer holds [] = None
first_answer holds (entry ∷ entries) =
    if holds entry.box then Some entry.userdata else first_answer holds entries

-- what is written for the packets of a box that come to a chain, by what is written for those of a
-- box that leave it
abbrev pub Flat : Type 0 → Type 0
Flat B = B → (B → List (Entry B)) → List (Entry B)

-- for a chain that isn't there
abbrev pub no_entries : {B : Type 0} → Flat B
no_entries box leave = []

-- for the packets that a rule catches, by what is written for those that go on after it, and for
-- those that leave its chain
abbrev pub target_flat : {B : Type 0} → List (Flat B) → ℕ → Target → (B → List (Entry B)) →
    (B → List (Entry B)) → B → List (Entry B)
target_flat chains userdata Decide after leave met = record { box = met; userdata = userdata } ∷ []
target_flat chains userdata Return after leave met = leave met
target_flat chains userdata (Jump place) after leave met = at_or chains place no_entries met after
target_flat chains userdata (Go place) after leave met =
    at_or chains place no_entries met leave ++ leave met

-- what a box has in common with another, before further boxes
abbrev pub met_before : {B : Type 0} → Option B → List B → List B
met_before None parts = parts
met_before (Some part) parts = part ∷ parts

-- what a box has in common with each of some others
abbrev pub shared : {B : Type 0} → (B → B → Option B) → B → List B → List B
shared meet met [] = []
shared meet met (box ∷ boxes) = met_before (meet met box) (shared meet met boxes)

-- What a rule leaves out of its box goes on after the rule, and is written first: so the rest of
-- the box may be written as the whole of it.
abbrev pub parts_flat : {B : Type 0} → (B → List (Entry B)) → List B → List (Entry B) →
    List (Entry B)
parts_flat after [] rest = rest
parts_flat after (part ∷ parts) rest = parts_flat after parts (after part ++ rest)

-- for what a rule's box and another have in common
abbrev pub met_flat : {B : Type 0} → (B → B → Option B) → List (Flat B) → ListRule B →
    (B → List (Entry B)) → (B → List (Entry B)) → Option B → List (Entry B)
met_flat meet chains rule after leave None = []
met_flat meet chains rule after leave (Some met) =
    parts_flat after (shared meet met rule.but)
    (target_flat chains rule.userdata rule.target after leave met)

-- Packets that fall off the end are left to what follows in the list. Those that return or go
-- elsewhere for good would meet entries there that aren't theirs, so what decides them comes first.
abbrev pub rules_flat : {B : Type 0} → (B → B → Option B) → List (Flat B) → List (ListRule B) →
    Flat B
rules_flat meet chains [] box leave = []
rules_flat meet chains (rule ∷ rules) box leave =
    met_flat meet chains rule (λ m. rules_flat meet chains rules m leave ++ leave m) leave
    (meet box rule.inside)
    ++ rules_flat meet chains rules box leave

-- each chain of a list, where jumps lead through so many chains at most
abbrev pub chains_flat : {B : Type 0} → (B → B → Option B) → ℕ → List (List (ListRule B)) →
    List (Flat B)
chains_flat meet zero chains = []
chains_flat meet (suc depth) chains = map (rules_flat meet (chains_flat meet depth chains)) chains

-- the policy of the first chain
abbrev pub policy_entry : {B : Type 0} → ℕ → B → List (Entry B)
policy_entry policy box = record { box = box; userdata = policy } ∷ []

-- the list of a chain and its policy, for the packets of a box
abbrev pub flattened : {B : Type 0} → (B → B → Option B) → ℕ → List (List (ListRule B)) → ℕ → ℕ →
    B → List (Entry B)
flattened meet depth chains place policy box =
    at_or (chains_flat meet depth chains) place no_entries box (policy_entry policy)
    ++ policy_entry policy box
