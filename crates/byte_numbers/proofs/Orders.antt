-- What `byteorder` reads is the number that the bytes spell.
use Rattle.std.proofs.Common.{◌≡◌, ℕ, zero, suc, ◌+◌, ◌*◌, ◌^◌, ◌≤◌, List, [], ◌∷◌, length, take, fold}
use Rattle.std.proofs.Common.{sym, ap, ◌∙◌, arith}
use Rattle.std.proofs.Math.Nat.{pow-succ'}
use Rattle.std.proofs.lemmas.List.{take_all}
use Rattle.byteorder.specs.Endian.{big_number}
use Rattle.byteorder.specs.Numbers.{big_from-cons}
use Rattle.byte_numbers.specs.Number.{number_of}

-- the first bytes, read after a number
fold-take : (acc n : ℕ) (bytes : List ℕ) → n ≤ length bytes
    → fold (λ n b. n * 256 + b) acc (take n bytes) ≡ acc * 256 ^ n + big_number n bytes
fold-take acc zero bytes h = omega arith
fold-take acc (suc n) [] h = absurd (omega arith)
fold-take acc (suc n) (x ∷ xs) h =
    let rest = fold-take (acc * 256 + x) n xs (omega arith) in
    let moved = big_from-cons 0 n x xs in
    rw (rest, moved, pow-succ' 256 n) (omega arith)

-- the number of the first bytes in network order
pub number_of-take : (n : ℕ) (bytes : List ℕ) → n ≤ length bytes → number_of (take n bytes) ≡ big_number n bytes
number_of-take n bytes h = let e = fold-take 0 n bytes h in omega (arith, e)

-- the number of all bytes in network order
pub number_of-all : (bytes : List ℕ) → number_of bytes ≡ big_number (length bytes) bytes
number_of-all bytes =
    ap number_of (sym (take_all (length bytes) bytes (omega arith)))
    ∙ number_of-take (length bytes) bytes (omega arith)
