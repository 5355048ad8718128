-- The key that is read off the links from a row back is the row's least key.
use Rattle.std.proofs.Common.{◌≡◌, ◌≢◌, ℕ, zero, suc, ◌+◌, ◌-◌, ◌*◌, ◌<◌, List, [], ◌∷◌, ◌++◌, length, map, take}
use Rattle.std.proofs.Common.{drop}
use Rattle.std.proofs.Common.{get_or, slice_set, refl, sym, ◌∙◌, ap, subst, arith}
use Rattle.std.specs.List.{AllByRecursion, flat_map, range_with_len}
use Rattle.std.proofs.lemmas.List.{take_all, take_more, length-map, get_or-map, length-take-le}
use Rattle.rule_set.specs.Rule.{RuleSetView}
use Rattle.group_states.proofs.Offered.{Gaps}
use Rattle.acl_audit.specs.declared.links.Link.{Link}
use Rattle.acl_audit.specs.Keyed.{keyed, keys_after}
use Rattle.acl_audit.specs.Links.{no_link}
use Rattle.acl_audit.specs.Traced.{link_at, traced, AreChained}
use Rattle.acl_audit.proofs.Through.{ChainedFrom, zero_bytes}

-- ---- bytes at two places

-- it doesn't matter which of two places of a key is set first
set_apart : (key : List ℕ) (i j a b : ℕ) → i ≢ j
    → slice_set (slice_set key i a) j b ≡ slice_set (slice_set key j b) i a
set_apart [] i j a b apart = refl
set_apart (k ∷ key) zero zero a b apart = absurd (apart refl)
set_apart (k ∷ key) zero (suc j) a b apart = refl
set_apart (k ∷ key) (suc i) zero a b apart = refl
set_apart (k ∷ key) (suc i) (suc j) a b apart =
    ap (λ l. k ∷ l) (set_apart key i j a b (λ e. apart (ap suc e)))

-- a byte at a place of none of the first levels may be written first or last
traced_with : (levels : List (List Link)) (places : List ℕ) (depth number : ℕ) (key : List ℕ) (place byte : ℕ)
    → ((d : ℕ) → d < depth → get_or places d 0 ≢ place)
    → traced levels places depth number (slice_set key place byte)
    ≡ slice_set (traced levels places depth number key) place byte
traced_with levels places zero number key place byte apart = refl
traced_with levels places (suc depth) number key place byte apart =
    let link = link_at levels depth number in
    ap (traced levels places depth link.before)
    (set_apart key place (get_or places depth 0) byte link.byte (λ e. apart depth (omega arith) (sym e)))
    ∙ traced_with levels places depth link.before (slice_set key (get_or places depth 0) link.byte) place byte
    (λ d below. apart d (omega (arith, below)))

-- ---- keys after one more level

-- the keys after one more place are those that its links make of the keys before
after_more : (len : ℕ) (keys : List (List ℕ)) (places : List ℕ) (levels : List (List Link)) (place : ℕ)
    (links : List Link) → length places ≡ length levels
    → keys_after len keys (places ++ place ∷ []) (levels ++ links ∷ [])
    ≡ map (keyed len (keys_after len keys places levels) place) links
after_more len keys [] [] place links long = refl
after_more len keys [] (l ∷ levels) place links long = absurd (omega (arith, long))
after_more len keys (p ∷ places) [] place links long = absurd (omega (arith, long))
after_more len keys (p ∷ places) (l ∷ levels) place links long =
    after_more len (map (keyed len keys p) l) places levels place links (omega (arith, long))

-- what holds of each element holds of the one at a place
pub all_at : {X : Type 0} (P : X → Type 0) (xs : List X) (n : ℕ) (d : X) → AllByRecursion P xs → n < length xs
    → P (get_or xs n d)
all_at P [] n d all within = absurd (omega (arith, within))
all_at P (x ∷ xs) zero d all within = all.0
all_at P (x ∷ xs) (suc n) d all within = all_at P xs n d all.1 (omega (arith, within))

-- each link leads back to one of the place before it
pub chained_at : (count : ℕ) (levels : List (List Link)) → ChainedFrom count levels → (depth number : ℕ)
    → suc depth < length levels → number < length (get_or levels (suc depth) [])
    → (get_or (get_or levels (suc depth) []) number no_link).before < length (get_or levels depth [])
chained_at count [] chained depth number within below = absurd (omega (arith, within))
chained_at count (l ∷ []) chained depth number within below = absurd (omega (arith, within))
chained_at count (l ∷ m ∷ levels) chained zero number within below =
    all_at (λ (link : Link). link.before < length l) m number no_link chained.1.0 below
chained_at count (l ∷ m ∷ levels) chained (suc depth) number within below =
    chained_at (length l) (m ∷ levels) chained.1 depth number (omega (arith, within)) below

-- levels whose links lead back, from so many states on, are chained
pub are_chained : (count : ℕ) (levels : List (List Link)) → ChainedFrom count levels → AreChained levels
are_chained count levels chained = record {
  before = λ depth number within below.
      (let e : depth + 1 ≡ suc depth = omega arith in
      subst (λ d. (get_or (get_or levels d []) number no_link).before < length (get_or levels depth [])) (sym e)
      (chained_at count levels chained depth number (omega (arith, within))
      (subst (λ d. number < length (get_or levels d [])) e below)));
}

module _ (len : ℕ) (levels : List (List Link)) (places : List ℕ) (chained : AreChained levels)
    (long : length levels ≡ length places)
    (rising : (d e : ℕ) → d < e → e < length places → get_or places d 0 < get_or places e 0) where
  -- the key of bytes 0, alone
  abbrev start : List (List ℕ)
  start = zero_bytes len ∷ []

  -- the keys after the first places
  abbrev keys_at : ℕ → List (List ℕ)
  keys_at depth = keys_after len (zero_bytes len ∷ []) (take depth places) (take depth levels)

  -- each of the keys at the start is the key of bytes 0
  start_at : (n : ℕ) → get_or start n (zero_bytes len) ≡ zero_bytes len
  start_at zero = refl
  start_at (suc n) = refl

  -- the keys after one more place are those that its links make
  one_more : (depth : ℕ) → depth < length levels
      → keys_at (suc depth) ≡ map (keyed len (keys_at depth) (get_or places depth 0)) (get_or levels depth [])
  one_more depth within =
      let e : suc depth ≡ depth + 1 = omega arith in
      (λ i. keys_after len start (take (e i) places) (take (e i) levels))
      ∙ (λ i. keys_after len start (take_more places depth 0 (omega (arith, within, long)) i)
      (take_more levels depth [] within i))
      ∙ after_more len start (take depth places) (take depth levels) (get_or places depth 0) (get_or levels depth [])
      (length-take-le depth places (omega (arith, within, long))
      ∙ sym (length-take-le depth levels (omega (arith, within))))

  -- the key of a link is that of its state before, with the byte at the place
  key_read : (depth number : ℕ) → depth < length levels → number < length (get_or levels depth [])
      → get_or (keys_at (suc depth)) number (zero_bytes len)
      ≡ keyed len (keys_at depth) (get_or places depth 0) (link_at levels depth number)
  key_read depth number within below =
      ap (λ ks. get_or ks number (zero_bytes len)) (one_more depth within)
      ∙ get_or-map (keyed len (keys_at depth) (get_or places depth 0)) (get_or levels depth []) number no_link
      (zero_bytes len) below

  -- the key that is read off a link is that of the one before it with the byte
  written_first : (depth number : ℕ) → depth < length levels
      → traced levels places (suc depth) number (zero_bytes len)
      ≡ slice_set (traced levels places depth (link_at levels depth number).before (zero_bytes len))
      (get_or places depth 0) (link_at levels depth number).byte
  written_first depth number within =
      traced_with levels places depth (link_at levels depth number).before (zero_bytes len) (get_or places depth 0)
      (link_at levels depth number).byte
      (λ d below e. omega (arith, rising d depth below (omega (arith, within, long)), e))

  -- what is read off the links is the key of the state or row
  pub traced_key : (depth number : ℕ) → depth < length levels → number < length (get_or levels depth [])
      → traced levels places (suc depth) number (zero_bytes len) ≡ get_or (keys_at (suc depth)) number (zero_bytes len)
  traced_key zero number within below =
      written_first zero number within
      ∙ ap (λ k. slice_set k (get_or places 0 0) (link_at levels 0 number).byte)
      (sym (start_at (link_at levels 0 number).before))
      ∙ sym (key_read zero number within below)
  traced_key (suc depth) number within below =
      let e : depth + 1 ≡ suc depth = omega arith in
      let lower : (link_at levels (suc depth) number).before < length (get_or levels depth []) =
      subst (λ d. (link_at levels d number).before < length (get_or levels depth [])) e
      (chained.before depth number (omega (arith, within))
      (subst (λ d. number < length (get_or levels d [])) (sym e) below)) in
      written_first (suc depth) number within
      ∙ ap (λ k. slice_set k (get_or places (suc depth) 0) (link_at levels (suc depth) number).byte)
      (traced_key depth (link_at levels (suc depth) number).before (omega (arith, within)) lower)
      ∙ sym (key_read (suc depth) number within below)

  -- and so for each row
  pub traced_row : 0 < length levels → (row : ℕ) → row < length (get_or levels (length levels - 1) [])
      → traced levels places (length levels) row (zero_bytes len)
      ≡ get_or (keys_after len (zero_bytes len ∷ []) places levels) row (zero_bytes len)
  traced_row some row below =
      let e : suc (length levels - 1) ≡ length levels = omega (arith, some) in
      (λ i. traced levels places (sym e i) row (zero_bytes len))
      ∙ traced_key (length levels - 1) row (omega (arith, some)) below
      ∙ (λ i. get_or (keys_after len (zero_bytes len ∷ []) (take (e i) places) (take (e i) levels)) row
      (zero_bytes len))
      ∙ (λ i. get_or (keys_after len (zero_bytes len ∷ [])
      (take_all (length levels) places (omega (arith, long)) i)
      (take_all (length levels) levels (omega arith) i)) row (zero_bytes len))

  -- there are as many keys as links of the last place
  pub count_last : 0 < length levels
      → length (keys_after len (zero_bytes len ∷ []) places levels) ≡ length (get_or levels (length levels - 1) [])
  count_last some =
      let e : suc (length levels - 1) ≡ length levels = omega (arith, some) in
      sym ((λ i. length (keys_after len (zero_bytes len ∷ []) (take (e i) places) (take (e i) levels)))
      ∙ (λ i. length (keys_after len (zero_bytes len ∷ [])
      (take_all (length levels) places (omega (arith, long)) i)
      (take_all (length levels) levels (omega arith) i))))
      ∙ ap length (one_more (length levels - 1) (omega (arith, some)))
      ∙ length-map (get_or levels (length levels - 1) [])
      (keyed len (keys_at (length levels - 1)) (get_or places (length levels - 1) 0))

-- ---- kept places rise

module _ (set : RuleSetView) (group : List ℕ) where
  -- a kept place is below all those after it
  above_first : (place : ℕ) (places : List ℕ) → Gaps set group (place ∷ places) → (n : ℕ) → n < length places
      → place < get_or places n 0
  above_first place [] gaps n below = absurd (omega (arith, below))
  above_first place (next ∷ places) gaps zero below = gaps.0.rises
  above_first place (next ∷ places) gaps (suc n) below =
      omega (arith, gaps.0.rises, above_first next places gaps.1 n (omega (arith, below)))

  -- kept places after the first have wild places between them
  rest_of : (place : ℕ) (places : List ℕ) → Gaps set group (place ∷ places) → Gaps set group places
  rest_of place [] gaps = tt
  rest_of place (next ∷ places) gaps = gaps.1

  -- the kept places rise
  pub places_rise : (places : List ℕ) → Gaps set group places → (d e : ℕ) → d < e → e < length places
      → get_or places d 0 < get_or places e 0
  places_rise [] gaps d e less below = absurd (omega (arith, below))
  places_rise (place ∷ places) gaps d zero less below = absurd (omega (arith, less))
  places_rise (place ∷ places) gaps zero (suc e) less below =
      above_first place places gaps e (omega (arith, below))
  places_rise (place ∷ places) gaps (suc d) (suc e) less below =
      places_rise places (rest_of place places gaps) d e (omega (arith, less)) (omega (arith, below))

-- ---- keys one after the other

-- a list by its places
pub by_place : {X : Type 0} (f : ℕ → List X) (xs : List (List X)) (d : List X) (first : ℕ)
    → ((k : ℕ) → k < length xs → f (first + k) ≡ get_or xs k d)
    → flat_map f (range_with_len first (length xs)) ≡ flat_map (λ x. x) xs
by_place f [] d first are = refl
by_place f (x ∷ xs) d first are =
    let here : f first ≡ x = (let e : first ≡ first + 0 = omega arith in ap f e) ∙ are 0 (omega arith) in
    λ i. here i ++ by_place f xs d (first + 1)
    (λ k below. (let e : first + 1 + k ≡ first + suc k = omega arith in ap f e ∙ are (suc k) (omega (arith, below)))) i

-- the key of a number, where all keys have one length
pub key_of_number : (len : ℕ) (keys : List (List ℕ)) → AllByRecursion (λ key. length key ≡ len) keys → (n : ℕ)
    → n < length keys → take len (drop (n * len) (flat_map (λ key. key) keys)) ≡ get_or keys n []
key_of_number len [] long n below = absurd (omega (arith, below))
key_of_number len (key ∷ keys) long zero below =
    let e : 0 * len ≡ 0 = omega arith in
    ap (λ m. take len (drop m (key ++ flat_map (λ k. k) keys))) e
    ∙ first_of_them len key (flat_map (λ k. k) keys) long.0
  where
    first_of_them : (len : ℕ) (key more : List ℕ) → length key ≡ len → take len (key ++ more) ≡ key
    first_of_them zero [] more is = refl
    first_of_them zero (k ∷ key) more is = absurd (omega (arith, is))
    first_of_them (suc len) [] more is = absurd (omega (arith, is))
    first_of_them (suc len) (k ∷ key) more is = ap (λ l. k ∷ l) (first_of_them len key more (omega (arith, is)))
key_of_number len (key ∷ keys) long (suc n) below =
    let e : suc n * len ≡ length key + n * len = grind (arith, long.0) in
    ap (λ m. take len (drop m (key ++ flat_map (λ k. k) keys))) e
    ∙ ap (take len) (dropped key (n * len) (flat_map (λ k. k) keys))
    ∙ key_of_number len keys long.1 n (omega (arith, below))
  where
    dropped : (key : List ℕ) (n : ℕ) (more : List ℕ) → drop (length key + n) (key ++ more) ≡ drop n more
    dropped [] n more = (let e : 0 + n ≡ n = omega arith in ap (λ m. drop m more) e)
    dropped (k ∷ key) n more = (let e : suc (length key) + n ≡ suc (length key + n) = omega arith in
        ap (λ m. drop m (k ∷ key ++ more)) e ∙ dropped key n more)
