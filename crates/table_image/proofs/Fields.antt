-- A number in network order is read as it is spelled, and spelled as it is read.
use Rattle.std.proofs.Common.{◌≡◌, ℕ, zero, suc, ◌+◌, ◌*◌, ◌/◌, ◌%◌, ◌^◌, ◌<◌, ◌≤◌, List, [], ◌∷◌, ◌++◌, length, take}
use Rattle.std.proofs.Common.{fold}
use Rattle.std.proofs.Common.{refl, sym, ap, ◌∙◌, arith, All, get_or}
use Rattle.std.proofs.Math.Nat.{pow-succ', add-mul, mul_assoc, mul-le-mul_right, mod-eq_of_lt, div-one, one-le-pow}
use Rattle.std.proofs.Math.Nat.{mod-one}
use Rattle.std.proofs.lemmas.List.{get_or_default, take_at}
use Rattle.std.proofs.lemmas.List.Elements.{All-head, All-tail}
use Rattle.std.proofs.lemmas.Nat.{div-mul-add, div-add-mod'}
use Rattle.std.specs.Int.{byte_at, bytes_high_first}
use Rattle.byte_numbers.specs.Number.{number_of}
use Rattle.list_lemmas.proofs.Numbers.{byte_of_end, end_of_end}
use Rattle.table_image.specs.Spelling.{spelled}

-- numbers below 256
abbrev pub AreBytes : List ℕ → Type 0
AreBytes bytes = All (λ byte. byte < 256) bytes

-- what holds of each element by its place
pub are_bytes : (bytes : List ℕ) → ((k : ℕ) → get_or bytes k 0 < 256) → AreBytes bytes
are_bytes bytes each k d below = omega (arith, get_or_default bytes k d 0 below, each k)

-- bytes that are read after a number: that number moves up, and a lower part is added
fold_split : (acc : ℕ) (bs : List ℕ) → AreBytes bs →
    (low : ℕ) × (fold (λ n b. n * 256 + b) acc bs ≡ acc * 256 ^ length bs + low) × (low < 256 ^ length bs)
fold_split acc [] small = (0, omega arith, omega arith)
fold_split acc (b ∷ bs) small =
    let rest = fold_split (acc * 256 + b) bs (All-tail (λ byte. byte < 256) b bs small) in
    let here : b < 256 = All-head (λ byte. byte < 256) b bs small in
    let m : ℕ = 256 ^ length bs in
    let power : 256 ^ suc (length bs) ≡ 256 * m = pow-succ' 256 (length bs) in
    let parts : (acc * 256 + b) * m ≡ acc * 256 * m + b * m = add-mul (acc * 256) b m in
    let whole : acc * 256 * m ≡ acc * (256 * m) = mul_assoc acc 256 m in
    let bound : b * m ≤ 255 * m = mul-le-mul_right m (omega arith) in
    (b * m + rest.0, rw power (omega (arith, rest.1, parts, whole)), rw power (omega (arith, rest.2, bound)))

-- a number that was read fits the bytes that it was read from
pub fold_below : (bs : List ℕ) → AreBytes bs → number_of bs < 256 ^ length bs
fold_below bs small = let parts = fold_split 0 bs small in omega (arith, parts.1, parts.2)

-- a byte of a number, by its place from the last one on
byte_at-power : (k n : ℕ) → byte_at k n ≡ n / 256 ^ k % 256
byte_at-power zero n = ap (λ m. m % 256) (sym (div-one n))
byte_at-power (suc k) n = refl

-- the bytes of a number that was read are those that it was read from
high_first-fold : (acc : ℕ) (bs : List ℕ) → AreBytes bs →
    bytes_high_first (length bs) (fold (λ n b. n * 256 + b) acc bs) ≡ bs
high_first-fold acc [] small = refl
high_first-fold acc (b ∷ bs) small =
    let tail = high_first-fold (acc * 256 + b) bs (All-tail (λ byte. byte < 256) b bs small) in
    let here : b < 256 = All-head (λ byte. byte < 256) b bs small in
    let parts = fold_split (acc * 256 + b) bs (All-tail (λ byte. byte < 256) b bs small) in
    let high : fold (λ n b. n * 256 + b) (acc * 256 + b) bs / 256 ^ length bs ≡ acc * 256 + b =
    rw parts.1 (div-mul-add (acc * 256 + b) (256 ^ length bs) parts.0 parts.2) in
    let first : (acc * 256 + b) % 256 ≡ b = omega arith in
    rw (tail, byte_at-power (length bs) (fold (λ n b. n * 256 + b) (acc * 256 + b) bs), high, first) refl

-- the number that bytes spell is spelled by these bytes
pub spelled_again : (size : ℕ) (bs : List ℕ) → length bs ≡ size → AreBytes bs → spelled size (number_of bs) ≡ bs
unfolding spelled
spelled_again size bs len small = rw (← len) (high_first-fold 0 bs small)

-- a number has as many bytes as it is spelled by
length-high_first : (size n : ℕ) → length (bytes_high_first size n) ≡ size
length-high_first zero n = refl
length-high_first (suc size) n = ap suc (length-high_first size n)

-- a number is spelled in as many bytes as its size says
pub length_spelled : (size n : ℕ) → length (spelled size n) ≡ size
unfolding spelled
length_spelled size n = length-high_first size n

-- the bytes of a number, read after another one: that one moves up, and the number's end is added
fold-high_first : (acc size n : ℕ) →
    fold (λ m b. m * 256 + b) acc (bytes_high_first size n) ≡ acc * 256 ^ size + n % 256 ^ size
fold-high_first acc zero n = omega (arith, mod-one n)
fold-high_first acc (suc size) n =
    let m : ℕ = 256 ^ size in
    let some : 0 < m = one-le-pow size 256 (omega arith) in
    let rest = fold-high_first (acc * 256 + byte_at size n) size n in
    let power : 256 ^ suc size ≡ 256 * m = pow-succ' 256 size in
    let split : n % (256 * m) / m * m + n % (256 * m) % m ≡ n % (256 * m) = div-add-mod' (n % (256 * m)) m in
    let high : n % (256 * m) / m ≡ byte_at size n = byte_of_end n m some ∙ sym (byte_at-power size n) in
    let low : n % (256 * m) % m ≡ n % m = end_of_end n m some in
    let joined : byte_at size n * m + n % m ≡ n % (256 * m) = rw (high, low) at split in
    let parts : (acc * 256 + byte_at size n) * m ≡ acc * 256 * m + byte_at size n * m = add-mul (acc * 256)
    (byte_at size n) m in
    let whole : acc * 256 * m ≡ acc * (256 * m) = mul_assoc acc 256 m in
    rw power (omega (arith, rest, parts, whole, joined))

-- a number that was spelled is read again, whatever stands after it
pub read_again : (size n : ℕ) (rest : List ℕ) → n < 256 ^ size → number_of (take size (spelled size n ++ rest)) ≡ n
unfolding spelled
read_again size n rest small =
    ap number_of (take_at (bytes_high_first size n) rest size (length-high_first size n))
    ∙ fold-high_first 0 size n ∙ omega (arith, mod-eq_of_lt small)
