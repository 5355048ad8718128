-- Laws of lists with conditions, over the definitions alone.
use Rattle.std.specs.Prelude.{◌&&◌, ◌||◌, [], ◌∷◌, ◌≡◌, ℕ, List}
use Rattle.std.specs.Prelude.{Bool, true, false, not, ◌==◌, Option, Some, None}
use Rattle.std.specs.List.{list_any, list_all}
use Rattle.list_chains.specs.Chains.{ListRule, decides, answer_or}
use Rattle.list_chains.specs.Flat.{Entry, first_answer, flattened}
use Rattle.list_chains.specs.FlatLaws.{IsMeet}
use Rattle.chain_conditions.specs.Conditions.{Conditional, holds_by, conditional_meet, surely}
use Rattle.chain_conditions.specs.Conditions.{category, possible, is_sure, only}

-- chains of rules over boxes with conditions
abbrev pub ConditionalChains : Type 0 → Type 0
ConditionalChains B = List (List (ListRule (Conditional B)))

-- the flat list of chains: no oracle has a part in it
abbrev pub conditional_list : {B : Type 0} → (B → B → Option B) → ℕ → ConditionalChains B → ℕ → ℕ →
    B →
    List (Entry (Conditional B))
conditional_list meet depth chains place policy whole =
    flattened (conditional_meet meet) depth chains place policy (surely whole)

-- what the chains answer for a packet by an oracle
abbrev pub decides_by : {B : Type 0} → (B → Bool) → (ℕ → Bool) → ℕ → ConditionalChains B → ℕ → ℕ → ℕ
decides_by holds oracle depth chains place policy =
    decides (holds_by holds oracle) depth chains place policy

-- One list serves every oracle: its first entry that a packet is in by the oracle has the answer
-- of the chains by that oracle.
abbrev pub TheListIsOneForEveryOracle : Type 0 → Type 0
TheListIsOneForEveryOracle B =
    (holds : B → Bool) (meet : B → B → Option B) → IsMeet holds meet →
    (depth : ℕ) (chains : ConditionalChains B) (place policy : ℕ) (whole : B) →
    holds whole ≡ true → (oracle : ℕ → Bool) →
    first_answer (holds_by holds oracle) (conditional_list meet depth chains place policy whole)
    ≡ Some (decides_by holds oracle depth chains place policy)

-- what the rules of a category answer
abbrev pub category_answer : {B : Type 0} → (B → Bool) → (ℕ → Bool) → List (Entry (Conditional B))
    → ℕ
category_answer holds test entries = answer_or (first_answer holds (category test entries)) 0

-- If an answer that some oracle gives passes a test, so does that of the test's category.
abbrev pub ClassesAreBounds : Type 0 → Type 0
ClassesAreBounds B =
    (holds : B → Bool) (meet : B → B → Option B) → IsMeet holds meet →
    (depth : ℕ) (chains : ConditionalChains B) (place policy : ℕ) (whole : B) →
    holds whole ≡ true → (oracle : ℕ → Bool) (test : ℕ → Bool) →
    test (decides_by holds oracle depth chains place policy) ≡ true →
    test (category_answer holds test (conditional_list meet depth chains place policy whole)) ≡ true

-- Where the category of the answers that pass a test and that of the others have answers of the
-- same kind, every oracle's answer is of that kind.
abbrev pub OneClassIsCertain : Type 0 → Type 0
OneClassIsCertain B =
    (holds : B → Bool) (meet : B → B → Option B) → IsMeet holds meet →
    (depth : ℕ) (chains : ConditionalChains B) (place policy : ℕ) (whole : B) →
    holds whole ≡ true → (test : ℕ → Bool) (kind : Bool) →
    test (category_answer holds test (conditional_list meet depth chains place policy whole)) ≡
    kind →
    test (category_answer holds (λ answer. not (test answer))
    (conditional_list meet depth chains place policy whole)) ≡ kind →
    (oracle : ℕ → Bool) → test (decides_by holds oracle depth chains place policy) ≡ kind

-- it is an answer, and this one
abbrev pub is_answer : ℕ → Option ℕ → Bool
is_answer answer None = false
is_answer answer (Some other) = other == answer

-- The list of possible answers is exact: an oracle gives each (that is how they are made), and
-- each oracle's answer is there, as that of some entry.
abbrev pub EachAnswerIsReached : Type 0 → Type 0
EachAnswerIsReached B =
    (holds : B → Bool) (meet : B → B → Option B) → IsMeet holds meet →
    (depth : ℕ) (chains : ConditionalChains B) (place policy : ℕ) (whole : B) →
    holds whole ≡ true → (oracle : ℕ → Bool) →
    list_any (is_answer (decides_by holds oracle depth chains place policy))
    (possible holds (conditional_list meet depth chains place policy whole)) ≡ true

-- no entry asks all that an unsure one before it asks, as in a list with a condition for each line
abbrev pub is_clear : {B : Type 0} → List (Entry (Conditional B)) → Bool
is_clear [] = true
is_clear (entry ∷ entries) =
    list_all (λ later. is_sure entry
    || not (list_all (only later.box.conditions) entry.box.conditions)) entries && is_clear entries

-- In such a list the answer of every category is that of some oracle.
abbrev pub ClearListsAreExact : Type 0 → Type 0
ClearListsAreExact B =
    (holds : B → Bool) (test : ℕ → Bool) (entries : List (Entry (Conditional B))) (answer : ℕ) →
    is_clear entries ≡ true → first_answer holds (category test entries) ≡ Some answer →
    list_any (is_answer answer) (possible holds entries) ≡ true
