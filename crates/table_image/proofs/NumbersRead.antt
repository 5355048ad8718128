-- A list of numbers is read exactly where it is spelled and each of them passes its test.
use Rattle.std.proofs.Common.{◌≡◌, ℕ, zero, suc, ◌+◌, ◌*◌, ◌^◌, ◌<◌, ◌≤◌, List, [], ◌∷◌, ◌++◌, length, take, drop}
use Rattle.std.proofs.Common.{sum}
use Rattle.std.proofs.Common.{refl, sym, ap, ◌∙◌, arith, Bool, true, length-append, length-drop, append_assoc, Ok}
use Rattle.std.specs.Prelude.{nat_lt, nat_le}
use Rattle.std.specs.List.{list_all}
use Rattle.std.proofs.lemmas.List.{append-nil, take-append-drop, length-take-le, length_push, drop-drop}
use Rattle.std.proofs.lemmas.List.Elements.{All-take, All-drop}
use Rattle.std.proofs.lemmas.List.Sums.{sum_by-append}
use Rattle.std.proofs.lemmas.Bool.Decides.{nat_tests}
use Rattle.std.proofs.lemmas.Bool.{lt-ltb, le-leb, ltb-true, leb-true, and_parts, and_from}
use Rattle.byte_numbers.specs.Number.{number_of, number_at}
use Rattle.table_sizes.specs.Sizes.{max_words}
use Rattle.table_image.specs.declared.load_fault.ImageKind.{ImageKind}
use Rattle.table_image.specs.declared.load_fault.ImageKind.TheVariants.{Length}
use Rattle.table_image.specs.Spelling.{spelled, all_spelled}
use Rattle.table_image.specs.ImageReading.{checked, field, tested, numbers_after, level_fits}
use Rattle.table_image.proofs.Fields.{AreBytes, spelled_again, length_spelled, read_again, fold_below}
use Rattle.list_lemmas.proofs.Rests.{after, within, RestAt, joined}
use Rattle.table_image.proofs.Readings.{of_both, both, of_check, check_passed}

-- a number of so many bytes
abbrev pub fits : ℕ → ℕ → Bool
fits size n = nat_lt n (256 ^ size)

-- a field of the number stands at the place
pub record FieldAt (size : ℕ) (bytes : List ℕ) (at n : ℕ) : Type 0 where
  pub text : drop at bytes ≡ spelled size n ++ drop (at + size) bytes
  pub small : fits size n ≡ true
  pub inside : at + size ≤ length bytes

-- a number that was read as a field stands at its place
pub field_read : (size : ℕ) (bytes : List ℕ) (at n : ℕ) → AreBytes bytes → field size bytes at ≡ Ok n →
    FieldAt size bytes at n
field_read size bytes at n are e =
    let parts = of_check (nat_le (at + size) (length bytes)) Length at (number_at bytes at size) n e in
    let inside : at + size ≤ length bytes = grind (arith, nat_tests) in
    let part : List ℕ = take size (drop at bytes) in
    let len : length part ≡ size = length-take-le size (drop at bytes) (omega (arith, length-drop at bytes)) in
    let bytes_of : AreBytes part = All-take (λ byte. byte < 256) size (drop at bytes)
    (All-drop (λ byte. byte < 256) at bytes are) in
    let again : spelled size n ≡ part = ap (spelled size) (sym parts.1) ∙ spelled_again size part len bytes_of in
    let below = fold_below part bytes_of in
    let whole : spelled size n ++ drop size (drop at bytes) ≡ drop at bytes =
    ap (λ front. front ++ drop size (drop at bytes)) again ∙ take-append-drop size (drop at bytes) in
    record {
      text = sym whole ∙ ap (λ rest. spelled size n ++ rest) (drop-drop size at bytes);
      small = lt-ltb n (256 ^ size) (omega (arith, below, ap (λ k. 256 ^ k) len, parts.1));
      inside = inside;
    }

-- a number that is spelled at a place is read as a field
pub field_spelled : (size : ℕ) (bytes : List ℕ) (at n : ℕ) (rest : List ℕ) → 0 < size →
    drop at bytes ≡ spelled size n ++ rest → fits size n ≡ true → field size bytes at ≡ Ok n
field_spelled size bytes at n rest some e small =
    let len = length_spelled size n in
    let inside = within at bytes (spelled size n) rest e (omega arith) in
    let number : number_at bytes at size ≡ n = ap (λ xs. number_of (take size xs)) e
    ∙ read_again size n rest (ltb-true n (256 ^ size) small) in
    check_passed (nat_le (at + size) (length bytes)) Length at (number_at bytes at size)
    (le-leb (at + size) (length bytes) (omega arith)) ∙ ap Ok number

-- what stands after the field
pub after_field : (size : ℕ) (bytes : List ℕ) (at n : ℕ) (rest : List ℕ) → drop at bytes ≡ spelled size n ++ rest →
    drop (at + size) bytes ≡ rest
after_field size bytes at n rest e = ap (λ k. drop (at + k) bytes) (sym (length_spelled size n))
    ∙ after at bytes (spelled size n) rest e

-- the field's end isn't beyond that of the bytes, and the rest stands there
pub rest_after : (size : ℕ) (bytes : List ℕ) (at n : ℕ) (rest : List ℕ) → 0 < size →
    drop at bytes ≡ spelled size n ++ rest → RestAt bytes (at + size) rest
rest_after size bytes at n rest some e =
    let len = length_spelled size n in
    record {
      text = after_field size bytes at n rest e;
      within = omega (arith, len, within at bytes (spelled size n) rest e (omega (arith, len)));
    }

-- a field with a test
pub tested_read : (kind : ImageKind) (size : ℕ) (test : ℕ → Bool) (bytes : List ℕ) (at n : ℕ) → AreBytes bytes →
    tested kind size test bytes at ≡ Ok n → FieldAt size bytes at n × (test n ≡ true)
tested_read kind size test bytes at n are e =
    let parts = of_both (field size bytes at) (λ number. checked (test number) kind at number) n e in
    let passed = of_check (test parts.0) kind at parts.0 n parts.2 in
    (field_read size bytes at n are (parts.1 ∙ ap Ok passed.1), rw passed.1 at passed.0)

-- and so is one that has to pass a test and does
pub tested_spelled : (kind : ImageKind) (size : ℕ) (test : ℕ → Bool) (bytes : List ℕ) (at n : ℕ) (rest : List ℕ) →
    0 < size →
    drop at bytes ≡ spelled size n ++ rest → fits size n ≡ true → test n ≡ true → tested kind size test bytes at ≡ Ok n
tested_spelled kind size test bytes at n rest some e small passes =
    both (field size bytes at) (λ number. checked (test number) kind at number) n (Ok n)
    (field_spelled size bytes at n rest some e small) (check_passed (test n) kind at n passes)

-- each of the numbers passes the test beside those before it
abbrev pub AllTested : (List ℕ → ℕ → Bool) → List ℕ → List ℕ → Type 0
AllTested test first [] = Unit {0}
AllTested test first (n ∷ ns) = (test first n ≡ true) × AllTested test (first ++ n ∷ []) ns

-- what was read after the first numbers: these numbers, as many as were asked for
pub record NumbersAt (size : ℕ) (test : List ℕ → ℕ → Bool) (bytes : List ℕ) (from count : ℕ) (first all : List ℕ)
    : Type 0 where
  pub more : List ℕ
  pub are : all ≡ first ++ more
  pub count_is : length more ≡ count
  pub text : drop (from + size * length first) bytes
      ≡ all_spelled size more ++ drop (from + size * (length first + count)) bytes
  pub small : list_all (fits size) more ≡ true
  pub pass : AllTested test first more

-- numbers that were read stand in the bytes, as many as were asked for, and pass their tests
pub numbers_read : (kind : ImageKind) (size : ℕ) (test : List ℕ → ℕ → Bool) (bytes : List ℕ) (from count : ℕ)
    (first all : List ℕ) → AreBytes bytes → numbers_after kind size test bytes from count first ≡ Ok all →
    NumbersAt size test bytes from count first all
unfolding numbers_after
numbers_read kind size test bytes from zero first all are e =
    let same : first ≡ all = cc in
    record {
      more = [];
      are = sym same ∙ sym (append-nil first);
      count_is = refl;
      text = ap (λ k. drop (from + size * k) bytes) (omega arith);
      small = refl;
      pass = tt;
    }
numbers_read kind size test bytes from (suc count) first all are e =
    let parts = of_both (tested kind size (test first) bytes (from + size * length first))
    (λ number. numbers_after kind size test bytes from count (first ++ number ∷ [])) all e in
    let n : ℕ = parts.0 in
    let here = tested_read kind size (test first) bytes (from + size * length first) n are parts.1 in
    let rest = numbers_read kind size test bytes from count (first ++ n ∷ []) all are parts.2 in
    let len : length (first ++ n ∷ []) ≡ length first + 1 = length_push first n in
    let next : size * (length first + 1) ≡ size * length first + size = omega arith in
    let place : from + size * length (first ++ n ∷ []) ≡ from + size * length first + size =
    rw len (omega (arith, next)) in
    let end : from + size * (length (first ++ n ∷ []) + count) ≡ from + size * (length first + suc count) =
    ap (λ k. from + size * k) (omega arith) in
    let back : drop (from + size * length first + size) bytes
    ≡ all_spelled size rest.more ++ drop (from + size * (length first + suc count)) bytes =
    ap (λ k. drop k bytes) (sym place) ∙ rest.text ∙ ap (λ k. all_spelled size rest.more ++ drop k bytes) end in
    record {
      more = n ∷ rest.more;
      are = rest.are ∙ append_assoc first (n ∷ []) rest.more;
      count_is = ap suc rest.count_is;
      text = joined (drop (from + size * length first) bytes) (spelled size n) (all_spelled size rest.more) _ _
          here.0.text back;
      small = and_from (fits size n) (list_all (fits size) rest.more) here.0.small rest.small;
      pass = (here.1, rest.pass);
    }

-- numbers that are spelled and pass their tests are read
pub numbers_spelled : (kind : ImageKind) (size : ℕ) (test : List ℕ → ℕ → Bool) (bytes : List ℕ) (from : ℕ)
    (first more rest : List ℕ) → 0 < size → drop (from + size * length first) bytes ≡ all_spelled size more ++ rest →
    list_all (fits size) more ≡ true → AllTested test first more →
    numbers_after kind size test bytes from (length more) first ≡ Ok (first ++ more)
unfolding numbers_after
numbers_spelled kind size test bytes from first [] rest some e small pass = ap Ok (sym (append-nil first))
numbers_spelled kind size test bytes from first (n ∷ more) rest some e small pass =
    let fit = and_parts (fits size n) (list_all (fits size) more) small in
    let text : drop (from + size * length first) bytes ≡ spelled size n ++ (all_spelled size more ++ rest) =
    e ∙ append_assoc (spelled size n) (all_spelled size more) rest in
    let here = tested_spelled kind size (test first) bytes (from + size * length first) n
    (all_spelled size more ++ rest) some text fit.0 pass.0 in
    let len : length (first ++ n ∷ []) ≡ length first + 1 = length_push first n in
    let next : size * (length first + 1) ≡ size * length first + size = omega arith in
    let place : from + size * length (first ++ n ∷ []) ≡ from + size * length first + size =
    rw len (omega (arith, next)) in
    let back : drop (from + size * length (first ++ n ∷ [])) bytes ≡ all_spelled size more ++ rest =
    ap (λ k. drop k bytes) place ∙ after_field size bytes (from + size * length first) n (all_spelled size more ++ rest)
    text in
    let others = numbers_spelled kind size test bytes from (first ++ n ∷ []) more rest some back fit.1 pass.1 in
    both (tested kind size (test first) bytes (from + size * length first))
    (λ number. numbers_after kind size test bytes from (length more) (first ++ number ∷ [])) n _ here
    (others ∙ ap Ok (append_assoc first (n ∷ []) more))

-- the bytes of some numbers
pub length-all_spelled : (size : ℕ) (ns : List ℕ) → length (all_spelled size ns) ≡ size * length ns
length-all_spelled size [] = omega arith
length-all_spelled size (n ∷ ns) =
    let rest = length-all_spelled size ns in
    let next : size * (length ns + 1) ≡ size * length ns + size = omega arith in
    length-append (spelled size n) (all_spelled size ns) ∙ omega (arith, length_spelled size n, rest, next)

-- one test for all numbers
pub tested_all : (test : ℕ → Bool) (first ns : List ℕ) → AllTested (λ _. test) first ns → list_all test ns ≡ true
tested_all test first [] all = refl
tested_all test first (n ∷ ns) all = and_from (test n) (list_all test ns) all.0
    (tested_all test (first ++ n ∷ []) ns all.1)

-- numbers that pass a test each pass it, whatever comes before them
pub all_tested : (test : ℕ → Bool) (first ns : List ℕ) → list_all test ns ≡ true → AllTested (λ _. test) first ns
all_tested test first [] all = tt
all_tested test first (n ∷ ns) all =
    let parts = and_parts (test n) (list_all test ns) all in
    (parts.0, all_tested test (first ++ n ∷ []) ns parts.1)

-- levels that fit one after the other fit together
pub levels_fit : (taken : ℕ) (first lens : List ℕ) → taken + sum first ≤ max_words →
    AllTested (level_fits taken) first lens →
    taken + sum (first ++ lens) ≤ max_words
levels_fit taken first [] fit all = rw (append-nil first) fit
levels_fit taken first (len ∷ lens) fit all =
    let total : sum (first ++ len ∷ []) ≡ sum first + len = sum_by-append (λ n. n) first (len ∷ []) ∙ omega arith in
    rw (← append_assoc first (len ∷ []) lens)
    (levels_fit taken (first ++ len ∷ []) lens (omega (arith, leb-true (taken + sum first + len) max_words all.0))
    all.1)
