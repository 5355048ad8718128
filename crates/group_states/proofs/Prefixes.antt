-- All lists of so many bytes.
use Rattle.std.proofs.Common.{◌≡◌, ℕ, zero, suc, ◌+◌, ◌<◌, ◌≤◌, List, [], ◌∷◌, ◌++◌, length, map}
use Rattle.std.proofs.Common.{refl, ◌∙◌, ap, subst, arith, length-append}
use Rattle.std.specs.List.{AllByRecursion, flat_map, range_with_len}
use Rattle.list_lemmas.proofs.Each.{map-flat_map, map-singles, flat_map_same, all_weaker, all-flat_map, all_of_range}
use Rattle.group_states.proofs.Packed.{AreBytes}
use Rattle.group_states.specs.Found.{all_bytes, prefixes}

-- so many numbers from a first one on are bytes if they end at 256
below_from : (first count : ℕ) → first + count ≤ 256 → AllByRecursion (λ byte. byte < 256) (range_with_len first count)
below_from first zero within = tt
below_from first (suc count) within = (omega arith, below_from (first + 1) count (omega arith))

-- each of all bytes is below 256
pub bytes_below : AllByRecursion (λ byte. byte < 256) all_bytes
unfolding all_bytes
bytes_below = below_from 0 256 (omega arith)

-- the key has so many bytes
abbrev pub IsPrefix : ℕ → List ℕ → Type 0
IsPrefix place key = AreBytes key × (length key ≡ place)

-- a key of bytes with one more byte is one of bytes
pub bytes_push : (key : List ℕ) (byte : ℕ) → AreBytes key → byte < 256 → AreBytes (key ++ byte ∷ [])
bytes_push [] byte small below = (below, tt)
bytes_push (k ∷ ks) byte small below = (small.0, bytes_push ks byte small.1 below)

-- a prefix with one more byte is a prefix of the next place
pub prefix_push : (place : ℕ) (key : List ℕ) (byte : ℕ) → IsPrefix place key → byte < 256
    → IsPrefix (place + 1) (key ++ byte ∷ [])
prefix_push place key byte is below =
    (bytes_push key byte is.0 below, length-append key (byte ∷ []) ∙ ap (λ n. n + 1) is.1)

-- all lists of so many bytes are prefixes of their place
pub prefixes_are : (place : ℕ) → AllByRecursion (IsPrefix place) (prefixes place)
unfolding prefixes
prefixes_are zero = ((tt, refl), tt)
prefixes_are (suc place) =
    all-flat_map (IsPrefix (suc place)) (λ before. flat_map (λ byte. (before ++ byte ∷ []) ∷ []) all_bytes)
    (prefixes place)
    (all_weaker (IsPrefix place)
    (λ before. AllByRecursion (IsPrefix (suc place)) (flat_map (λ byte. (before ++ byte ∷ []) ∷ []) all_bytes))
    (prefixes place)
    (λ before is. all-flat_map (IsPrefix (suc place)) (λ byte. (before ++ byte ∷ []) ∷ []) all_bytes
    (all_weaker (λ byte. byte < 256) (λ byte. IsPrefix (suc place) (before ++ byte ∷ []) × Unit {0}) all_bytes
    (λ byte below. (
      let e : place + 1 ≡ suc place = omega arith in
          subst (λ n. IsPrefix n (before ++ byte ∷ [])) e (prefix_push place before byte is below),
      tt,
    ))
    bytes_below))
    (prefixes_are place))

-- a function of the prefixes that are one byte longer
pub of_longer : {X : Type 0} (f : List ℕ → X) (place : ℕ)
    → map f (prefixes (place + 1)) ≡ flat_map (λ key. map (λ byte. f (key ++ byte ∷ [])) all_bytes) (prefixes place)
unfolding prefixes
of_longer f place =
    let e : place + 1 ≡ suc place = omega arith in
    ap (λ n. map f (prefixes n)) e
    ∙ map-flat_map f (λ before. flat_map (λ byte. (before ++ byte ∷ []) ∷ []) all_bytes) (prefixes place)
    ∙ flat_map_same (λ before. map f (flat_map (λ byte. (before ++ byte ∷ []) ∷ []) all_bytes))
    (λ before. map (λ byte. f (before ++ byte ∷ [])) all_bytes) (prefixes place)
    (all_weaker (IsPrefix place) _ (prefixes place) (λ before is. map-singles f (λ byte. before ++ byte ∷ []) all_bytes)
    (prefixes_are place))

-- what holds of the images of all bytes
pub each_of_bytes : {Y : Type 0} (P : Y → Type 0) (g : ℕ → Y) → AllByRecursion P (map g all_bytes) →
    (byte : ℕ) → byte < 256 → P (g byte)
unfolding all_bytes
each_of_bytes P g all byte below = all_of_range P g 0 256 all byte (omega arith) (omega arith)
