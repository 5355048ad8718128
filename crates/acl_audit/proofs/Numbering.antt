-- The links are those of the first state and byte that lead to each state or row.
use Rattle.std.proofs.Common.{◌≡◌, ℕ, zero, suc, ◌+◌, ◌<◌, ◌==◌, List, [], ◌∷◌, ◌++◌, length, map, fold, get_or}
use Rattle.std.proofs.Common.{Bool, true, false, cond, not, ◌&&◌, ◌||◌, true≢false, refl, sym, ◌∙◌, ap, inl, inr, arith}
use Rattle.std.specs.List.{list_any, position_or_len}
use Rattle.std.proofs.lemmas.Bool.{cases_Bool, eqb-true, eq-eqb}
use Rattle.std.proofs.lemmas.List.{length-map, map-append}
use Rattle.std.proofs.lemmas.List.Sums.{fold-append}
use Rattle.group_states.specs.declared.run.Succ.{Succ}
use Rattle.group_states.specs.Found.{found_with, found_in, all_bytes}
use Rattle.group_states.specs.Levels.{runs_of}
use Rattle.group_states.proofs.Offered.{goes_after, found_grows}
use Rattle.acl_audit.specs.declared.links.Link.{Link}
use Rattle.acl_audit.specs.Links.{is_next, linked_with, runs_linked, states_linked, links_of}
use Rattle.acl_audit.proofs.Finding.{found_by}
use Rattle.acl_audit.proofs.RunLinks.{runs_are_bytes}

module _ {X : Type 0} (p : X → Bool) where
  -- one that is among the first ones stands there
  position_in : (xs ys : List X) → list_any p xs ≡ true → position_or_len p (xs ++ ys) < length xs
  position_in [] ys among = absurd (true≢false (sym among))
  position_in (x ∷ xs) ys among = elim (cases_Bool (p x)) [
    | inl is ↦ rw is (omega arith)
    | inr differs ↦
        let rest = position_in xs ys (sym (ap (λ b. b || list_any p xs) differs) ∙ among) in
        rw differs (omega (arith, rest))
  ]

  -- and else the next one is the first that may be it
  position_after : (xs : List X) (y : X) (ys : List X) → list_any p xs ≡ false → p y ≡ true
      → position_or_len p (xs ++ y ∷ ys) ≡ length xs
  position_after [] y ys none is = rw is refl
  position_after (x ∷ xs) y ys none is = elim (cases_Bool (p x)) [
    | inl here ↦ absurd (true≢false (sym (ap (λ b. b || list_any p xs) here) ∙ none))
    | inr differs ↦
        let rest = position_after xs y ys (sym (ap (λ b. b || list_any p xs) differs) ∙ none) is in
        rw differs (omega (arith, rest))
  ]

-- some value passes exactly if the value of some element passes
any_of : {X V : Type 0} (p : V → Bool) (of : X → V) (xs : List X) → list_any p (map of xs) ≡ list_any (λ x. p (of x)) xs
any_of p of [] = refl
any_of p of (x ∷ xs) = ap (λ b. p (of x) || b) (any_of p of xs)

module _ {V : Type 0} (same : V → V → Bool) (live : V → Bool) (reflexive : (v : V) → same v v ≡ true)
    (to : V → Succ) (all : List V)
    (says : (v : V) (count : ℕ) → is_next count (to v) ≡ (live v && position_or_len (same v) all == count)) where
  -- the next number is that of a value exactly where the value is new
  next_is_new : (found : List V) (v : V) (more : List V) → all ≡ fold (found_with same live) found (v ∷ more)
      → is_next (length found) (to v) ≡ (live v && not (list_any (same v) found))
  next_is_new found v more whole = says v (length found) ∙ by (live v) refl (list_any (same v) found) refl
    where
      differs : (m n : ℕ) → m < n → (m == n) ≡ false
      differs m n less = elim (cases_Bool (m == n)) [
        | inr apart ↦ apart
        | inl e ↦ absurd (omega (arith, less, eqb-true m n e))
      ]

      append_one : (xs : List V) (x : V) (ys : List V) → (xs ++ x ∷ []) ++ ys ≡ xs ++ x ∷ ys
      append_one [] x ys = refl
      append_one (y ∷ xs) x ys = ap (λ l. y ∷ l) (append_one xs x ys)

      by : (l : Bool) → live v ≡ l → (m : Bool) → list_any (same v) found ≡ m
          → (live v && position_or_len (same v) all == length found) ≡ (live v && not (list_any (same v) found))
      by false is m is_m =
          ap (λ b. b && position_or_len (same v) all == length found) is
          ∙ sym (ap (λ b. b && not (list_any (same v) found)) is)
      by true is true is_m =
          let grown = found_grows same live found (v ∷ more) in
          let low : position_or_len (same v) (found ++ grown.0) < length found =
          position_in (same v) found grown.0 is_m in
          ap (λ b. live v && b)
          (differs (position_or_len (same v) all) (length found)
          (omega (arith, low, ap (position_or_len (same v)) (whole ∙ grown.1))) ∙ sym (ap not is_m))
      by true is false is_m =
          let new : (live v && not (list_any (same v) found)) ≡ true = λ i. is i && not (is_m i) in
          let step : found_with same live found v ≡ found ++ v ∷ [] = goes_after same live found v new in
          let grown = found_grows same live (found ++ v ∷ []) more in
          let is_all : all ≡ (found ++ v ∷ []) ++ grown.0 =
          whole ∙ ap (λ f. fold (found_with same live) f more) step ∙ grown.1 in
          ap (λ b. live v && b)
          (eq-eqb (position_or_len (same v) all) (length found)
          (ap (position_or_len (same v)) is_all
          ∙ ap (position_or_len (same v)) (append_one found v grown.0)
          ∙ position_after (same v) found v grown.0 is_m (reflexive v)) ∙ sym (ap not is_m))

  module _ (of : Link → V) where
    -- the links with one more, if what it leads to comes next
    abbrev next_linked : List Link → Link → List Link
    next_linked links link = linked_with links link (to (of link))

    -- the links with one more, if its value is new
    abbrev found_next : List Link → Link → List Link
    found_next links link = found_with (λ x y. same (of x) (of y)) (λ x. live (of x)) links link

    -- the values of links with one more are those found with its value
    value_of_next : (links : List Link) (link : Link)
        → map of (found_next links link) ≡ found_with same live (map of links) (of link)
    value_of_next links link =
        by (live (of link) && not (list_any (λ y. same (of link) (of y)) links))
        ∙ ap (λ b. cond (live (of link) && not b) (map of links ++ of link ∷ []) (map of links))
        (sym (any_of (same (of link)) of links))
      where
        by : (b : Bool) → map of (cond b (links ++ link ∷ []) links)
            ≡ cond b (map of links ++ of link ∷ []) (map of links)
        by true = map-append of links (link ∷ [])
        by false = refl

    -- one more link is added exactly if its value is new
    one_linked : (links : List Link) (link : Link) (rest : List Link)
        → all ≡ fold (found_with same live) (map of links) (map of (link ∷ rest))
        → next_linked links link ≡ found_next links link
    one_linked links link rest whole =
        ap (λ b. cond b (links ++ link ∷ []) links)
        (ap (λ n. is_next n (to (of link))) (sym (length-map links of))
        ∙ next_is_new (map of links) (of link) (map of rest) whole
        ∙ ap (λ b. live (of link) && not b) (any_of (same (of link)) of links))

    -- all links are added whose values are new
    all_linked : (links rest : List Link) → all ≡ fold (found_with same live) (map of links) (map of rest)
        → fold next_linked links rest ≡ fold found_next links rest
    all_linked links [] whole = refl
    all_linked links (link ∷ rest) whole =
        ap (λ l. fold next_linked l rest) (one_linked links link rest whole)
        ∙ all_linked (found_next links link) rest
        (whole ∙ ap (λ f. fold (found_with same live) f (map of rest)) (sym (value_of_next links link)))

-- the links of each byte from so many states on
abbrev pub pairs_from : ℕ → ℕ → List Link
pairs_from before zero = []
pairs_from before (suc count) =
    map (λ byte. record { before = before; byte = byte }) all_bytes ++ pairs_from (before + 1) count

-- to fold over the values of elements is to fold over the mapped list
fold-map : {X Y Z : Type 0} (f : Z → Y → Z) (g : X → Y) (acc : Z) (xs : List X)
    → fold (λ z x. f z (g x)) acc xs ≡ fold f acc (map g xs)
fold-map f g acc [] = refl
fold-map f g acc (x ∷ xs) = fold-map f g (f acc (g x)) xs

module _ {S : Type 0} (to : S → ℕ → Succ) (at : ℕ → S) (d : S) where
  -- the links with one more of a state and a byte
  abbrev pub state_linked : List Link → Link → List Link
  state_linked links link = linked_with links link (to (at link.before) link.byte)

  -- states one after the other, and the bytes of each
  states_by_bytes : (links : List Link) (before : ℕ) (states : List S)
      → ((k : ℕ) → k < length states → at (before + k) ≡ get_or states k d)
      → states_linked links before (map (λ state. runs_of (to state)) states)
      ≡ fold state_linked links (pairs_from before (length states))
  states_by_bytes links before [] are = refl
  states_by_bytes links before (state ∷ states) are =
      let here : state ≡ at before = sym (are 0 (omega arith)) ∙ ap at (let e : before + 0 ≡ before = omega arith in e)
      in
      let pairs : List Link = map (λ byte. record { before = before; byte = byte }) all_bytes in
      let one : runs_linked links before 0 (runs_of (to state)) ≡ fold state_linked links pairs =
      runs_are_bytes before (to state) links
      ∙ ap (λ s. fold (λ ls byte. linked_with ls (record { before = before; byte = byte }) (to s byte)) links all_bytes)
      here
      ∙ fold-map state_linked (λ byte. record { before = before; byte = byte }) links all_bytes in
      ap (λ ls. states_linked ls (before + 1) (map (λ s. runs_of (to s)) states)) one
      ∙ states_by_bytes (fold state_linked links pairs) (before + 1) states
      (λ k below. (let e : before + 1 + k ≡ before + suc k = omega arith in ap at e ∙ are (suc k)
      (omega (arith, below))))
      ∙ sym (fold-append state_linked links pairs (pairs_from (before + 1) (length states)))

-- the links of a level are those of the pairs of state and byte whose values are found
pub links_are : {V S : Type 0} (same : V → V → Bool) (live : V → Bool) (reflexive : (v : V) → same v v ≡ true)
    (to : V → Succ) (all : List V)
    (says : (v : V) (count : ℕ) → is_next count (to v) ≡ (live v && position_or_len (same v) all == count))
    (value : S → ℕ → V) (at : ℕ → S) (d : S) (states : List S)
    → ((k : ℕ) → k < length states → at k ≡ get_or states k d)
    → all ≡ found_in same live (map (λ (link : Link). value (at link.before) link.byte) (pairs_from 0 (length states)))
    → links_of (map (λ state. runs_of (λ byte. to (value state byte))) states)
    ≡ found_by same live (λ (link : Link). value (at link.before) link.byte) (pairs_from 0 (length states))
unfolding links_of found_in
links_are same live reflexive to all says value at d states are whole =
    states_by_bytes (λ state byte. to (value state byte)) at d [] 0 states
    (λ k below. (let e : 0 + k ≡ k = omega arith in ap at e ∙ are k below))
    ∙ all_linked same live reflexive to all says (λ (link : Link). value (at link.before) link.byte) []
    (pairs_from 0 (length states)) whole
