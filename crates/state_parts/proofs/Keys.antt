-- Numbers of keys.
use Rattle.std.proofs.Common.{◌≡◌, ℕ, ◌+◌, ◌-◌, ◌<◌, List, [], ◌∷◌, ◌++◌, length, get_or, Bool, true, false, cond}
use Rattle.std.proofs.Common.{not, ◌||◌, refl, sym, ◌∙◌, ap, inl, inr, true≢false, arith, suc}
use Rattle.std.specs.List.{list_any, position_or_len}
use Rattle.std.proofs.lemmas.List.{append-nil}
use Rattle.std.proofs.lemmas.List.Folds.{list_any-append}
use Rattle.std.proofs.lemmas.Bool.{cases_Bool}
use Rattle.indexmap.specs.IndexSet.{insert_key}
use Rattle.state_parts.specs.Keys.{KeyAt}

module _ {X : Type 0} (same : X → X → Bool) where
  -- a key that is inserted leaves the others where they are
  pub insert_grows : (keys : List X) (key : X) → (more : List X) × (insert_key same keys key ≡ keys ++ more)
  insert_grows keys key = by (list_any (same key) keys)
    where
      by : (b : Bool) → (more : List X) × (cond b keys (keys ++ key ∷ []) ≡ keys ++ more)
      by true = ([], sym (append-nil keys))
      by false = (key ∷ [], refl)

  -- a key that is there stays at its place when more keys come
  place_stays : (key : X) (keys more : List X) → list_any (same key) keys ≡ true
      → position_or_len (same key) (keys ++ more) ≡ position_or_len (same key) keys
  place_stays key [] more there = absurd (true≢false (sym there))
  place_stays key (x ∷ xs) more there = by (same key x) (place_stays key xs more) there
    where
      by : (b : Bool) → (list_any (same key) xs ≡ true
          → position_or_len (same key) (xs ++ more) ≡ position_or_len (same key) xs)
          → (b || list_any (same key) xs) ≡ true
          → cond (not b) (1 + position_or_len (same key) (xs ++ more)) 0
          ≡ cond (not b) (1 + position_or_len (same key) xs) 0
      by true rest is = refl
      by false rest is = ap (λ n. 1 + n) (rest is)

  -- the place of a key that is there is one of the places
  place_below : (key : X) (keys : List X) → list_any (same key) keys ≡ true
      → position_or_len (same key) keys < length keys
  place_below key [] there = absurd (true≢false (sym there))
  place_below key (x ∷ xs) there = by (same key x) (place_below key xs) there
    where
      by : (b : Bool) → (list_any (same key) xs ≡ true → position_or_len (same key) xs < length xs)
          → (b || list_any (same key) xs) ≡ true
          → cond (not b) (1 + position_or_len (same key) xs) 0 < length (x ∷ xs)
      by true rest is = omega arith
      by false rest is = omega (arith, rest is)

  -- a key keeps its number when more come
  pub key_grows : (keys more : List X) (key : X) (number : ℕ) → KeyAt same keys key number
      → KeyAt same (keys ++ more) key number
  key_grows keys more key number is = record {
    there = list_any-append (same key) keys more ∙ ap (λ b. b || list_any (same key) more) is.there;
    at = is.at ∙ ap (λ n. n + 1) (sym (place_stays key keys more is.there));
  }

  -- it has one number
  pub key_alone : (keys : List X) (key : X) (number other : ℕ) → KeyAt same keys key number
      → KeyAt same keys key other → number ≡ other
  key_alone keys key number other one two = one.at ∙ sym two.at

  -- the number of a key is above 0
  pub key_some : (keys : List X) (key : X) (number : ℕ) → KeyAt same keys key number → 0 < number
  key_some keys key number is = omega (arith, is.at)

  module _ (sound : (x y : X) → same x y ≡ true → x ≡ y) where
    -- the key at the place of a key that is there is the key
    key_there : (key d : X) (keys : List X) → list_any (same key) keys ≡ true
        → get_or keys (position_or_len (same key) keys) d ≡ key
    key_there key d [] there = absurd (true≢false (sym there))
    key_there key d (x ∷ xs) there = elim (cases_Bool (same key x)) [
      | inl is ↦ rw is (sym (sound key x is))
      | inr other ↦
          (let next : 1 + position_or_len (same key) xs ≡ suc (position_or_len (same key) xs) = omega arith in
          rw (other, next) (key_there key d xs (sym (ap (λ b. b || list_any (same key) xs) other) ∙ there)))
    ]

    -- the key of a number
    pub key_at : (keys : List X) (key d : X) (number : ℕ) → KeyAt same keys key number
        → get_or keys (number - 1) d ≡ key
    key_at keys key d number is =
        let e : number - 1 ≡ position_or_len (same key) keys = omega (arith, is.at) in
        ap (λ n. get_or keys n d) e ∙ key_there key d keys is.there

    -- a number has one key
    pub key_is : (keys : List X) (key other : X) (number : ℕ) → KeyAt same keys key number
        → KeyAt same keys other number → key ≡ other
    key_is keys key other number one two =
        sym (key_at keys key key number one) ∙ key_at keys other key number two
