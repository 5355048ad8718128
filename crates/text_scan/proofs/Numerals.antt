-- What digits spell, and numbers in text: in decimal or hexadecimal, read back from where they stand.
use Rattle.std.proofs.lemmas.Bool.Decides.{nat_tests}
use Rattle.std.proofs.Common.{◌≡◌, ℕ, ◌+◌, ◌*◌, ◌^◌, ◌<◌, ◌≤◌, true, false, nat_le, List, [], ◌∷◌, ◌++◌, length, take}
use Rattle.std.proofs.Common.{drop, get_or, refl, sym, ap, ◌∙◌, arith, length-append, suc, ◌-◌, ◌&&◌, eqb}
use Rattle.std.proofs.Common.{Some, append-nil, Bool, ◌||◌, cond, Option, None, inl, inr, length-take, length-drop}
use Rattle.std.proofs.Common.{zero-add, take_all}
use Rattle.std.proofs.Math.Nat.{pow-suc, pow-zero, mul-le-mul, le-mul_of_pos_right, one-le-pow, le_refl}
use Rattle.std.proofs.Math.Nat.{pow-le-pow_right, pow-le-pow_left}
use Rattle.std.proofs.lemmas.Nat.{pow-add}
use Rattle.std.proofs.lemmas.Bool.{and_parts, and_from, ltb-true, lt-leb, cond-true, cond-false, le-leb}
use Rattle.std.proofs.lemmas.Bool.{ne_eqb, eq-eqb, cases_Bool, false≢true}
use Rattle.std.proofs.lemmas.Bool.{eqb-true, leb-true}
use Rattle.std.proofs.lemmas.List.Folds.{length-prefix_len}
use Rattle.std.proofs.lemmas.List.{take_more, take-append-drop}
use Rattle.std.specs.Char.{is_digit, digit_value}
use Rattle.text_scan.specs.Digits.{place_value, are_digits, run_of, is_group}
use Rattle.std.proofs.lemmas.Fmt.{digits_is_IsNumeral}
use Rattle.std.specs.Fmt.{digits, decimal}
use Rattle.std.specs.List.{prefix_len}
use Rattle.std.specs.Str.Parse.{digits_value_after}
use Rattle.list_lemmas.proofs.Elements.{all_pass_run, prefix_len-whole}
use Rattle.list_lemmas.proofs.Digits.{length-digits-le, list_all-digits, no_decimal}
use Rattle.std.specs.Bool.{then_some}
use Rattle.text_scan.specs.Numeral.{begins_hexadecimal, begins_numeral, digits_of, numeral_at, numeral_len}
use Rattle.text_scan.specs.Numeral.{numeral_value, whole_number}
use Rattle.list_lemmas.proofs.Tests.{and_false, test_passed, passes_other}
use Rattle.std.proofs.Math.Seq.{take-append_seam, drop-append_seam}
use Rattle.list_lemmas.proofs.Texts.{then_some-cond}

-- digits in front count as often as the power that the digits after them leave
pub place_value-append : (base : ℕ) (cs ds : List ℕ)
    → place_value base (cs ++ ds) ≡ place_value base cs * base ^ length ds + place_value base ds
place_value-append base [] ds = omega arith
place_value-append base (c ∷ cs) ds =
    let powers : base ^ length (cs ++ ds) ≡ base ^ length cs * base ^ length ds =
    ap (λ n. base ^ n) (length-append cs ds) ∙ pow-add base (length cs) (length ds) in
    rw (powers, place_value-append base cs ds) (omega arith)

-- a front of the digits, one digit on
pub place_value_more : (base : ℕ) (cs : List ℕ) (i : ℕ) → i < length cs
    → place_value base (take (i + 1) cs) ≡ place_value base (take i cs) * base + digit_value (get_or cs i 0)
place_value_more base cs i lt =
    let c = get_or cs i 0 in
    ap (place_value base) (take_more cs i 0 lt) ∙ place_value-append base (take i cs) (c ∷ [])
    ∙ rw (pow-suc base 0, pow-zero base) (omega arith)

-- a front of the digits spells no more than all of them
pub place_value-take_le : (base : ℕ) (cs : List ℕ) (i : ℕ) → 1 ≤ base
    → place_value base (take i cs) ≤ place_value base cs
place_value-take_le base cs i positive =
    let whole : place_value base cs ≡ place_value base (take i cs) * base ^ length (drop i cs) + place_value base
    (drop i cs) = ap (place_value base) (sym (take-append-drop i cs))
    ∙ place_value-append base (take i cs) (drop i cs) in
    let power = one-le-pow (length (drop i cs)) base positive in
    omega (arith, whole, le-mul_of_pos_right (place_value base (take i cs)) power)

-- digits of the base spell less than the power after them
pub place_value-lt : (base : ℕ) (cs : List ℕ) → are_digits base cs ≡ true → place_value base cs < base ^ length cs
place_value-lt base [] all = omega (arith, pow-zero base)
place_value-lt base (c ∷ cs) all =
    let parts = and_parts (is_digit c base) (are_digits base cs) all in
    let low : digit_value c < base = ltb-true (digit_value c) base parts.0 in
    rw (pow-suc base (length cs))
    (omega (arith, place_value-lt base cs parts.1, mul-le-mul low (le_refl (base ^ length cs))))

-- where a front of the digits and one digit more spell too much, so do all of them
pub place_value_above : (base : ℕ) (cs : List ℕ) (i greatest : ℕ) → 1 ≤ base → i < length cs
    → greatest < place_value base (take i cs) * base + digit_value (get_or cs i 0)
    → nat_le (place_value base cs) greatest ≡ false
place_value_above base cs i greatest positive inside above =
    lt-leb (place_value base cs) greatest
    (omega (arith, place_value_more base cs i inside, place_value-take_le base cs (i + 1) positive))

-- four digits spell a number of 16 bits
pub short_group : (base : ℕ) (cs : List ℕ) → 2 ≤ base → base ≤ 16 → length cs ≤ 4 → are_digits base cs ≡ true
    → place_value base cs < 65536
short_group base cs low high short all =
    let power = pow-le-pow_right {n = base} (omega arith) {i = length cs} {j = 4} short in
    omega (arith, place_value-lt base cs all, power, pow-le-pow_left {n = base} {m = 16} high 4)

-- what std takes digits to spell, said in our words
pub digits_value_after-place_value : (base n : ℕ) (text : List ℕ)
    → digits_value_after base n text ≡ n * base ^ length text + place_value base text
digits_value_after-place_value base n [] = rw (pow-zero base) (omega arith)
digits_value_after-place_value base n (c ∷ cs) =
    rw (digits_value_after-place_value base (n * base + digit_value c) cs, pow-suc base (length cs)) (omega arith)

-- digits that spell a number
pub record Spelled (base n : ℕ) (text : List ℕ) : Type 0 where
  pub digits : are_digits base text ≡ true
  pub some : 0 < length text
  pub value : place_value base text ≡ n

-- what a number is written as spells it
pub digits_spelled : (base n : ℕ) → 2 ≤ base → base ≤ 16 → n < 2 ^ 64 → Spelled base n (digits base false n)
digits_spelled base n low high small =
    let text = digits base false n in
    let numeral =
    digits_is_IsNumeral base false low high n (omega (arith, pow-le-pow_left {n = 2} {m = base} low 64)) in
    record {
      digits = list_all-digits base text numeral.0.1;
      some = numeral.0.0;
      value = omega (arith, digits_value_after-place_value base 0 text, numeral.1);
    }

-- a number of 64 bits is spelled by its decimal digits
pub decimal_spelled : (n : ℕ) → n < 2 ^ 64 → Spelled 10 n (decimal n)
decimal_spelled n small = digits_spelled 10 n (omega arith) (omega arith) small

-- and is a group, where it has few digits
pub group_spelled : (base k n : ℕ) → 2 ≤ base → base ≤ 16 → n < base ^ suc k → n < 2 ^ 16
    → is_group base (suc k) (digits base false n) ≡ true
group_spelled base k n low high below small =
    let spelled = digits_spelled base n low high (omega arith) in
    let short = length-digits-le base k n low below small in
    grind (arith, nat_tests)

-- a text with a mark has its two bytes and a digit
pub marked_len : (text : List ℕ) → begins_hexadecimal text ≡ true → 3 ≤ length text
marked_len [] mark = absurd (false≢true mark)
marked_len (a ∷ []) mark = absurd (false≢true (sym (and_false (eqb a 48 && false)) ∙ mark))
marked_len (a ∷ b ∷ []) mark = absurd (false≢true (sym (and_false (eqb a 48 && (eqb b 120 || eqb b 88))) ∙ mark))
marked_len (a ∷ b ∷ d ∷ rest) mark = omega arith

-- a run is no longer than its text
run_within : (base : ℕ) (text : List ℕ) → length (run_of base text) ≤ length text
run_within base text = omega (arith, length-take (prefix_len (λ c. is_digit c base) text) text)

-- a number takes no more bytes than there are
pub numeral_len-within : (text : List ℕ) → numeral_len text ≤ length text
numeral_len-within text = elim (cases_Bool (begins_hexadecimal text)) [
  | inl mark ↦ rw mark (omega (arith, run_within 16 (drop 2 text), length-drop 2 text, marked_len text mark))
  | inr none ↦ rw none (omega (arith, run_within 10 text))
]

-- what is answered of the number that a text begins with, where it has 64 bits
abbrev pub leading : List ℕ → Option (ℕ × ℕ)
leading text = cond (begins_numeral (2 ^ 64 - 1) text) (Some (numeral_value text, numeral_len text)) None

-- what is answered of digits of a base, after so many bytes
abbrev pub leading_run : ℕ → ℕ → List ℕ → Option (ℕ × ℕ)
leading_run base before digits =
    cond (nat_le 1 (length digits) && nat_le (place_value base digits) (2 ^ 64 - 1))
    (Some (place_value base digits, before + length digits)) None

-- with a mark, and without one
pub leading-marked : (text : List ℕ) → begins_hexadecimal text ≡ true
    → leading text ≡ leading_run 16 2 (run_of 16 (drop 2 text))
leading-marked text mark = rw mark refl

-- a text that isn't hexadecimal begins with the number of its decimal digits, if it has 64 bits
pub leading-plain : (text : List ℕ) → begins_hexadecimal text ≡ false
    → leading text ≡ cond (nat_le 1 (length (run_of 10 text)) && nat_le (place_value 10 (run_of 10 text)) (2 ^ 64 - 1))
    (Some (place_value 10 (run_of 10 text), length (run_of 10 text))) None
leading-plain text none =
    let run = run_of 10 text in
    rw none
    (ap (λ n. cond (nat_le 1 (length run) && nat_le (place_value 10 run) (2 ^ 64 - 1)) (Some (place_value 10 run, n))
    None) (zero-add (length run)))

-- where no number is within a bound, none is within a smaller one
begins_numeral-smaller : (greatest smaller : ℕ) (text : List ℕ) → smaller ≤ greatest
    → begins_numeral greatest text ≡ false → begins_numeral smaller text ≡ false
begins_numeral-smaller greatest smaller text below none = grind (arith, nat_tests)

-- there is no number at a place where none of 64 bits begins
pub numeral_at-none : (text : List ℕ) (at greatest : ℕ) → greatest ≤ 2 ^ 64 - 1
    → begins_numeral (2 ^ 64 - 1) (drop at text) ≡ false → numeral_at text at greatest ≡ None
numeral_at-none text at greatest within none =
    cond-false _ _ _ (begins_numeral-smaller (2 ^ 64 - 1) greatest (drop at text) within none)

-- where one has 64 bits, its value decides
pub numeral_at-some : (text : List ℕ) (at greatest : ℕ) → begins_numeral (2 ^ 64 - 1) (drop at text) ≡ true
    → then_some (nat_le (numeral_value (drop at text)) greatest)
    (numeral_value (drop at text), at + numeral_len (drop at text)) ≡ numeral_at text at greatest
numeral_at-some text at greatest begins = then_some-cond _ _ ∙ grind (arith, nat_tests)

-- What follows a number in a base so that it ends there: nothing, or a byte that is neither a digit nor an `x`.
abbrev pub EndsNumber : ℕ → List ℕ → Type 0
EndsNumber base [] = Unit {0}
EndsNumber base (c ∷ cs) = (is_digit c base ≡ false) × ((c ≡ 120 → ⊥) × (c ≡ 88 → ⊥))

-- a decimal number isn't a hexadecimal one
decimal_mark : (text rest : List ℕ) → are_digits 10 text ≡ true → 0 < length text → EndsNumber 10 rest
    → begins_hexadecimal (text ++ rest) ≡ false
decimal_mark [] rest digits some ends = absurd (omega arith)
decimal_mark (d ∷ []) [] digits some ends = rw (and_false (eqb d 48)) refl
decimal_mark (d ∷ []) (c ∷ rest) digits some ends =
    rw (ne_eqb c 120 ends.1.0, ne_eqb c 88 ends.1.1, and_false (eqb d 48)) refl
decimal_mark (d ∷ e ∷ text) rest digits some ends =
    let digit = (and_parts _ _ (and_parts (is_digit d 10) _ digits).1).0 in
    let other = λ (x : ℕ) (none : is_digit x 10 ≡ false). passes_other (λ c. is_digit c 10) e x none digit in
    rw (other 120 refl, other 88 refl, and_false (eqb d 48)) refl

-- the run of digits ends with the number
no_run : (base : ℕ) (rest : List ℕ) → EndsNumber base rest → prefix_len (λ c. is_digit c base) rest ≡ 0
no_run base [] ends = refl
no_run base (c ∷ rest) ends = rw ends.0 refl

-- digits are the longest run of them at the front, if what follows ends the number
digits_run : (base : ℕ) (text rest : List ℕ) → are_digits base text ≡ true → EndsNumber base rest
    → run_of base (text ++ rest) ≡ text
digits_run base text rest digits ends =
    ap (λ n. take n (text ++ rest)) (prefix_len-whole (λ c. is_digit c base) text rest digits (no_run base rest ends))
    ∙ take-append_seam text rest

-- A number in decimal stands at the beginning of a text, and ends where the rest begins.
pub record Begins (n : ℕ) (written rest : List ℕ) : Type 0 where
  pub value : numeral_value (written ++ rest) ≡ n
  pub len : numeral_len (written ++ rest) ≡ length written
  pub begins : (greatest : ℕ) → n ≤ greatest → begins_numeral greatest (written ++ rest) ≡ true
  pub after : drop (numeral_len (written ++ rest)) (written ++ rest) ≡ rest

-- a number stands at the front if its value and its length are those of what was written
begins : (n : ℕ) (written rest : List ℕ) → numeral_value (written ++ rest) ≡ n
    → numeral_len (written ++ rest) ≡ length written → 0 < length (digits_of (written ++ rest)) → Begins n written rest
begins n written rest value len some =
    let text = written ++ rest in
    record {
      value = value;
      len = len;
      begins = λ greatest small. and_from (nat_le 1 (length (digits_of text))) _
          (le-leb 1 (length (digits_of text)) some) (le-leb (numeral_value text) greatest (omega (arith, value)));
      after = ap (λ k. drop k text) len ∙ drop-append_seam written rest;
    }

-- digits in decimal that spell a number stand at the front as that number
pub spelled_begins : (n : ℕ) (written rest : List ℕ) → Spelled 10 n written → EndsNumber 10 rest
    → Begins n written rest
spelled_begins n written rest spelled ends =
    let mark = decimal_mark written rest spelled.digits spelled.some ends in
    let digits : digits_of (written ++ rest) ≡ written = rw mark (digits_run 10 written rest spelled.digits ends) in
    begins n written rest (rw (digits, mark) spelled.value) (rw (digits, mark) (omega arith))
    (omega (arith, ap length digits, spelled.some))

-- a whole text that spells a number is the number
pub whole_number-spelled : (greatest n : ℕ) (written : List ℕ) → Spelled 10 n written → n ≤ greatest
    → whole_number greatest written ≡ Some n
whole_number-spelled greatest n written spelled small =
    let whole = append-nil written in
    let read = spelled_begins n written [] spelled tt in
    let begins : begins_numeral greatest written ≡ true = ap (begins_numeral greatest) (sym whole)
    ∙ read.begins greatest small in
    let ends : eqb (numeral_len written) (length written) ≡ true =
    eq-eqb _ _ (ap numeral_len (sym whole) ∙ read.len) in
    let value : numeral_value written ≡ n = ap numeral_value (sym whole) ∙ read.value in
    cond-true (begins_numeral greatest written && eqb (numeral_len written) (length written)) _ _
    (and_from _ _ begins ends)
    ∙ ap Some value

-- a whole text that is its longest run of digits
whole_run : (base : ℕ) (text : List ℕ) → length (run_of base text) ≡ length text
    → (are_digits base text ≡ true) × (run_of base text ≡ text)
whole_run base text long =
    let p : ℕ → Bool = λ c. is_digit c base in
    let len = length-prefix_len p text in
    (all_pass_run p text (omega (arith, len, long)), take_all (prefix_len p text) text (omega (arith, len, long)))

-- what ends a hexadecimal number ends a decimal one
ends_decimal : (rest : List ℕ) → EndsNumber 16 rest → EndsNumber 10 rest
ends_decimal [] ends = tt
ends_decimal (c ∷ rest) ends = (no_decimal c ends.0, ends.1)

-- what is known of a whole text that is a number
record IsWhole (greatest n : ℕ) (text : List ℕ) : Type 0 where
  begins : begins_numeral greatest text ≡ true
  len : numeral_len text ≡ length text
  value : n ≡ numeral_value text

-- what is known of a whole text that was read as a number
is_whole : (greatest n : ℕ) (text : List ℕ) → whole_number greatest text ≡ Some n → IsWhole greatest n text
is_whole greatest n text is =
    let passed = test_passed (begins_numeral greatest text && eqb (numeral_len text) (length text))
    (numeral_value text) n (sym is) in
    let parts = and_parts (begins_numeral greatest text) _ passed.0 in
    record { begins = parts.0; len = eqb-true (numeral_len text) (length text) parts.1; value = passed.1 }

-- a number of either base stands at the beginning of a text
decimal_stands : (greatest n : ℕ) (text rest : List ℕ) → IsWhole greatest n text → begins_hexadecimal text ≡ false
    → EndsNumber 16 rest → Begins n text rest
decimal_stands greatest n text rest whole mark ends =
    let run : length (run_of 10 text) ≡ length text = omega (arith, rw mark at whole.len) in
    let digits = whole_run 10 text run in
    let numeral : numeral_value text ≡ place_value 10 text = rw (mark, digits.1) refl in
    let found : digits_of text ≡ run_of 10 text = rw mark refl in
    let filled = leb-true 1 (length (digits_of text))
    (and_parts (nat_le 1 (length (digits_of text))) _ whole.begins).0 in
    let some : 0 < length text = omega (arith, run, filled, ap length found) in
    spelled_begins n text rest (record { digits = digits.0; some = some; value = sym numeral ∙ sym whole.value })
    (ends_decimal rest ends)

-- a hexadecimal number that stands before a rest: its mark and its digits
abbrev starts_with_mark : ℕ → ℕ → Bool
starts_with_mark first second = eqb first 48 && (eqb second 120 || eqb second 88)

-- a whole text in hexadecimal stands as its number before what ends it
hexadecimal_stands : (greatest n a b d : ℕ) (digits rest : List ℕ) → IsWhole greatest n (a ∷ b ∷ d ∷ digits)
    → begins_hexadecimal (a ∷ b ∷ d ∷ digits) ≡ true → EndsNumber 16 rest → Begins n (a ∷ b ∷ d ∷ digits) rest
hexadecimal_stands greatest n a b d digits rest whole mark ends =
    let text = a ∷ b ∷ d ∷ digits in
    let run : length (run_of 16 (d ∷ digits)) ≡ length (d ∷ digits) = omega (arith, rw mark at whole.len) in
    let all = whole_run 16 (d ∷ digits) run in
    let joined : run_of 16 (d ∷ (digits ++ rest)) ≡ d ∷ digits = digits_run 16 (d ∷ digits) rest all.0 ends in
    let stays : begins_hexadecimal (text ++ rest) ≡ true = mark in
    let number : numeral_value text ≡ place_value 16 (d ∷ digits) = rw (mark, all.1) refl in
    let found : digits_of (text ++ rest) ≡ d ∷ digits = rw (stays, joined) refl in
    begins n text rest (rw (stays, joined) (sym number ∙ sym whole.value)) (rw (stays, joined) (omega arith))
    (omega (arith, ap length found))

-- a whole text that is a number stands as that number before what ends it
pub whole_stands : (greatest n : ℕ) (text rest : List ℕ) → whole_number greatest text ≡ Some n → EndsNumber 16 rest
    → Begins n text rest
whole_stands greatest n [] rest is ends = absurd (false≢true (is_whole greatest n [] is).begins)
whole_stands greatest n (a ∷ []) rest is ends =
    decimal_stands greatest n (a ∷ []) rest (is_whole greatest n (a ∷ []) is) (rw (and_false (eqb a 48)) refl) ends
whole_stands greatest n (a ∷ b ∷ []) rest is ends =
    decimal_stands greatest n (a ∷ b ∷ []) rest (is_whole greatest n (a ∷ b ∷ []) is)
    (and_false (starts_with_mark a b)) ends
whole_stands greatest n (a ∷ b ∷ d ∷ digits) rest is ends =
    let whole = is_whole greatest n (a ∷ b ∷ d ∷ digits) is in
    elim (cases_Bool (begins_hexadecimal (a ∷ b ∷ d ∷ digits))) [
      | inl mark ↦ hexadecimal_stands greatest n a b d digits rest whole mark ends
      | inr mark ↦ decimal_stands greatest n (a ∷ b ∷ d ∷ digits) rest whole mark ends
    ]

-- and it is within its bound
pub whole_within : (greatest n : ℕ) (text : List ℕ) → whole_number greatest text ≡ Some n → n ≤ greatest
whole_within greatest n text is =
    let whole = is_whole greatest n text is in
    let small = leb-true _ _ (and_parts (nat_le 1 (length (digits_of text))) _ whole.begins).1 in
    omega (arith, whole.value, small)
