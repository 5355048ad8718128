-- Chains that are found by their names: what names say of the chains that have them.
use Rattle.std.proofs.Common.{◌≡◌, ℕ, zero, suc, ◌+◌, ◌-◌, ◌<◌, ◌≤◌, List, [], ◌∷◌, ◌++◌, length, map, drop, Bool, true, false}
use Rattle.std.proofs.Common.{Option, inl, inr, Some, None, cond, refl, sym, ap, ◌∙◌, arith, get_or, slice_set, is_some}
use Rattle.std.specs.Prelude.{◌&&◌}
use Rattle.std.specs.List.{position_from}
use Rattle.std.specs.Map.{lookup}
use Rattle.std.specs.Str.{bytes_eq}
use Rattle.std.proofs.lemmas.Bool.{cases_Bool}
use Rattle.std.proofs.lemmas.Slice.Eq.{bytes_eq-Decides}
use Rattle.indexmap.specs.IndexMap.{insert_entry}
use Rattle.list_chains.specs.Chains.{or_answer}
use Rattle.iptables_reader.specs.Chains.{ListedChain, is_meant, place_of}
use Rattle.iptables_reader.specs.Places.{ArePlaces, with_place}

-- ---- what passes one test of two

module _ {A : Type 0} (t u : A → Bool) (weaker : (x : A) → t x ≡ false → u x ≡ false) where
  -- the first element fails the test
  pub rest_found : (i : ℕ) (x : A) (xs : List A) (found : Option ℕ) → t x ≡ false
      → position_from t i (x ∷ xs) ≡ found → position_from t (i + 1) xs ≡ found
  rest_found i x xs found e is = sym (ap (λ b. cond b (Some i) (position_from t (i + 1) xs)) e) ∙ is

  -- the first element passes it
  here_found : (i q : ℕ) (x : A) (xs : List A) → t x ≡ true → position_from t i (x ∷ xs) ≡ Some q → i ≡ q
  here_found i q x xs e is =
      let same : Some i ≡ Some q = sym (ap (λ b. cond b (Some i) (position_from t (i + 1) xs)) e) ∙ is in
      cc

  -- if none passes the weaker test, none passes the other
  pub none_stays : (i : ℕ) (xs : List A) → position_from t i xs ≡ None → position_from u i xs ≡ None
  none_stays i [] is = refl
  none_stays i (x ∷ xs) is = elim (cases_Bool (t x)) [
    | inl e ↦ absurd (
        let same : Some i ≡ None = sym (ap (λ b. cond b (Some i) (position_from t (i + 1) xs)) e) ∙ is in
        cc)
    | inr e ↦
        ap (λ b. cond b (Some i) (position_from u (i + 1) xs)) (weaker x e)
        ∙ none_stays (i + 1) xs (rest_found i x xs None e is)
  ]

  -- the first that passes the weaker test stands within the list
  pub first_within : (i q : ℕ) (xs : List A) → position_from t i xs ≡ Some q → (i ≤ q) × (q < i + length xs)
  first_within i q [] is = absurd cc
  first_within i q (x ∷ xs) is = elim (cases_Bool (t x)) [
    | inl e ↦ (let same = here_found i q x xs e is in (omega (arith, same), omega (arith, same)))
    | inr e ↦ (
        let rest = first_within (i + 1) q xs (rest_found i x xs (Some q) e is) in
        (omega (arith, rest.0), omega (arith, rest.1)))
  ]

  -- and none before it passes the other
  pub first_from : (i q : ℕ) (xs : List A) → position_from t i xs ≡ Some q
      → position_from u i xs ≡ position_from u q (drop (q - i) xs)
  first_from i q [] is = absurd cc
  first_from i q (x ∷ xs) is = elim (cases_Bool (t x)) [
    | inl e ↦ (
        let same = here_found i q x xs e is in
        let none : 0 ≡ q - i = omega (arith, same) in
        ap (λ n. position_from u n (x ∷ xs)) same ∙ ap (λ k. position_from u q (drop k (x ∷ xs))) none)
    | inr e ↦ (
        let rest = rest_found i x xs (Some q) e is in
        let one : suc (q - (i + 1)) ≡ q - i = omega (arith, (first_within (i + 1) q xs rest).0) in
        ap (λ b. cond b (Some i) (position_from u (i + 1) xs)) (weaker x e)
        ∙ first_from (i + 1) q xs rest
        ∙ ap (λ k. position_from u q (drop k (x ∷ xs))) one)
  ]

-- a chain that has no other name isn't meant
not_meant : (led : Bool) (name : List ℕ) (chain : ListedChain) → is_meant false name chain ≡ false
    → is_meant led name chain ≡ false
not_meant true name chain e = elim (cases_Bool (bytes_eq chain.name name)) [
  | inl same ↦ absurd (let is : true ≡ false = sym (ap (λ b. b && true) same) ∙ e in cc)
  | inr other ↦ rw other refl
]
not_meant false name chain e = e

-- where no chain has the name, none is meant
pub none_meant : (led : Bool) (name : List ℕ) (chains : List ListedChain) → place_of false name chains ≡ None
    → place_of led name chains ≡ None
none_meant led name chains is =
    none_stays (is_meant false name) (is_meant led name) (not_meant led name) 0 chains is

-- the first chain of the name is there
pub first_is_there : (name : List ℕ) (chains : List ListedChain) (place : ℕ) → place_of false name chains ≡ Some place
    → place < length chains
first_is_there name chains place is =
    let within = first_within (is_meant false name) (is_meant false name) (λ chain e. e) 0 place chains is in
    omega (arith, within.1)

-- and none before it is meant
pub meant_from_first : (led : Bool) (name : List ℕ) (chains : List ListedChain) (place : ℕ)
    → place_of false name chains ≡ Some place
    → place_of led name chains ≡ position_from (is_meant led name) place (drop place chains)
meant_from_first led name chains place is =
    let all : place - 0 ≡ place = omega arith in
    first_from (is_meant false name) (is_meant led name) (not_meant led name) 0 place chains is
    ∙ ap (λ k. position_from (is_meant led name) place (drop k chains)) all

-- ---- one chain more

-- a name more
lookup_more : (test : List ℕ → Bool) (names : List (List ℕ × ℕ)) (name : List ℕ) (place : ℕ)
    → lookup test (names ++ (name, place) ∷ []) ≡ or_answer (lookup test names) (cond (test name) (Some place) None)
lookup_more test [] name place = refl
lookup_more test (entry ∷ names) name place = elim (cases_Bool (test entry.0)) [
  | inl e ↦ rw e refl
  | inr e ↦ rw e (lookup_more test names name place)
]

-- an element more
position_more : {A : Type 0} (test : A → Bool) (i : ℕ) (xs : List A) (x : A)
    → position_from test i (xs ++ x ∷ [])
    ≡ or_answer (position_from test i xs) (cond (test x) (Some (i + length xs)) None)
position_more test i [] x = ap (λ n. cond (test x) (Some n) None) (omega arith)
position_more test i (y ∷ ys) x = elim (cases_Bool (test y)) [
  | inl e ↦ rw e refl
  | inr e ↦ rw e (position_more test (i + 1) ys x
      ∙ ap (λ n. or_answer (position_from test (i + 1) ys) (cond (test x) (Some n) None)) (omega arith))
]

-- a chain has the name that it is asked for
has_name : (name : List ℕ) (chain : ListedChain) → is_meant false name chain ≡ bytes_eq name chain.name
has_name name chain = elim (cases_Bool (bytes_eq chain.name name)) [
  | inl e ↦ rw e (sym ((bytes_eq-Decides name chain.name).1 (sym ((bytes_eq-Decides chain.name name).0 e))))
  | inr e ↦ rw e (elim (cases_Bool (bytes_eq name chain.name)) [
    | inl same ↦ absurd (
        let other = (bytes_eq-Decides chain.name name).1 (sym ((bytes_eq-Decides name chain.name).0 same)) in
        let is = sym e ∙ other in
        cc)
    | inr other ↦ sym other
  ])
]

-- nothing after it changes what is there
or_none : (found : Option ℕ) → or_answer found None ≡ found
or_none None = refl
or_none (Some place) = refl

-- no chains have no names
module _ (names : List (List ℕ × ℕ)) (chains : List ListedChain) (are : ArePlaces names chains)
    (chain : ListedChain) where
  -- what is found with one chain more
  more_found : (name : List ℕ) → place_of false name (chains ++ chain ∷ [])
      ≡ or_answer (lookup (bytes_eq name) names) (cond (bytes_eq name chain.name) (Some (length chains)) None)
  more_found name =
      let count : 0 + length chains ≡ length chains = omega arith in
      position_more (is_meant false name) 0 chains chain
      ∙ ap (λ found. or_answer found (cond (is_meant false name chain) (Some (0 + length chains)) None))
      (sym (are.found name))
      ∙ ap (λ b. or_answer (lookup (bytes_eq name) names) (cond b (Some (0 + length chains)) None))
      (has_name name chain)
      ∙ ap (λ n. or_answer (lookup (bytes_eq name) names) (cond (bytes_eq name chain.name) (Some n) None)) count

  -- its name is there already
  stays_found : (place : ℕ) → lookup (bytes_eq chain.name) names ≡ Some place → (name : List ℕ)
      → lookup (bytes_eq name) names
      ≡ or_answer (lookup (bytes_eq name) names) (cond (bytes_eq name chain.name) (Some (length chains)) None)
  stays_found place there name = elim (cases_Bool (bytes_eq name chain.name)) [
    | inl e ↦ (
        let same = (bytes_eq-Decides name chain.name).0 e in
        let found : lookup (bytes_eq name) names ≡ Some place = ap (λ n. lookup (bytes_eq n) names) same ∙ there in
        rw found refl)
    | inr e ↦ rw e (sym (or_none (lookup (bytes_eq name) names)))
  ]

  -- by whether it is there
  placed : (found : Option ℕ) → lookup (bytes_eq chain.name) names ≡ found
      → ArePlaces (with_place chain.name (length chains) names) (chains ++ chain ∷ [])
  placed None none = record {
    found = λ name.
        ap (λ b. lookup (bytes_eq name) (cond b names (names ++ (chain.name, length chains) ∷ []))) (ap is_some none)
        ∙ lookup_more (bytes_eq name) names chain.name (length chains)
        ∙ sym (more_found name);
  }
  placed (Some place) there = record {
    found = λ name.
        ap (λ b. lookup (bytes_eq name) (cond b names (names ++ (chain.name, length chains) ∷ []))) (ap is_some there)
        ∙ stays_found place there name
        ∙ sym (more_found name);
  }

  -- one chain more, and its name
  pub ArePlaces-more : ArePlaces (with_place chain.name (length chains) names) (chains ++ chain ∷ [])
  ArePlaces-more = placed (lookup (bytes_eq chain.name) names) refl

-- ---- another chain in the place of one

-- the tests pass or fail alike
position_set : {A : Type 0} (test : A → Bool) (i : ℕ) (xs : List A) (place : ℕ) (x d : A) → place < length xs
    → test x ≡ test (get_or xs place d) → position_from test i (slice_set xs place x) ≡ position_from test i xs
position_set test i [] place x d below same = absurd (omega (arith, below))
position_set test i (y ∷ ys) zero x d below same =
    ap (λ b. cond b (Some i) (position_from test (i + 1) ys)) same
position_set test i (y ∷ ys) (suc place) x d below same =
    ap (cond (test y) (Some i)) (position_set test (i + 1) ys place x d (omega (arith, below)) same)

-- of the same name
pub ArePlaces-set : (names : List (List ℕ × ℕ)) (chains : List ListedChain) (place : ℕ) (chain d : ListedChain)
    → ArePlaces names chains → place < length chains → chain.name ≡ (get_or chains place d).name
    → ArePlaces names (slice_set chains place chain)
ArePlaces-set names chains place chain d are below same = record {
  found = λ name.
      are.found name
      ∙ sym (position_set (is_meant false name) 0 chains place chain d below
      (has_name name chain ∙ ap (bytes_eq name) same ∙ sym (has_name name (get_or chains place d))));
}

-- ---- names as keys

-- the names of some keys, with their places
abbrev pub names_of : {K : Type 0} → List (K × ℕ) → (K → List ℕ) → List (List ℕ × ℕ)
names_of entries name_of = map (λ entry. (name_of entry.0, entry.1)) entries

-- a look-up by the names of keys is one by the names
pub lookup_names : {K : Type 0} (entries : List (K × ℕ)) (name_of : K → List ℕ) (test : List ℕ → Bool)
    → lookup (λ key. test (name_of key)) entries ≡ lookup test (names_of entries name_of)
lookup_names [] name_of test = refl
lookup_names (entry ∷ entries) name_of test =
    ap (cond (test (name_of entry.0)) (Some entry.1)) (lookup_names entries name_of test)

-- a key whose name isn't there goes last
insert_last : {K : Type 0} (entries : List (K × ℕ)) (name_of : K → List ℕ) (key : K) (place : ℕ)
    → lookup (bytes_eq (name_of key)) (names_of entries name_of) ≡ None
    → names_of (insert_entry (λ x y. bytes_eq (name_of x) (name_of y)) entries key place) name_of
    ≡ names_of entries name_of ++ (name_of key, place) ∷ []
insert_last [] name_of key place none = refl
insert_last (entry ∷ entries) name_of key place none = elim (cases_Bool (bytes_eq (name_of key) (name_of entry.0))) [
  | inl e ↦ absurd (
      let same : Some entry.1 ≡ None =
      sym (ap (λ b. cond b (Some entry.1) (lookup (bytes_eq (name_of key)) (names_of entries name_of))) e) ∙ none in
      cc)
  | inr e ↦ (
      let rest =
      sym (ap (λ b. cond b (Some entry.1) (lookup (bytes_eq (name_of key)) (names_of entries name_of))) e)
      ∙ none in
      rw e (ap (λ names. (name_of entry.0, entry.1) ∷ names) (insert_last entries name_of key place rest)))
]

-- and so does its name
pub names_more : {K : Type 0} (old new : List (K × ℕ)) (name_of : K → List ℕ) (key : K) (place : ℕ) (name : List ℕ)
    (names : List (List ℕ × ℕ)) → new ≡ insert_entry (λ x y. bytes_eq (name_of x) (name_of y)) old key place
    → name_of key ≡ name → names_of old name_of ≡ names → lookup (bytes_eq name) names ≡ None
    → names_of new name_of ≡ names ++ (name, place) ∷ []
names_more old new name_of key place name names is named are none =
    let before : lookup (bytes_eq (name_of key)) (names_of old name_of) ≡ None =
    (λ i. lookup (bytes_eq (named i)) (are i)) ∙ none in
    ap (λ entries. names_of entries name_of) is
    ∙ insert_last old name_of key place before
    ∙ (λ i. are i ++ (named i, place) ∷ [])
