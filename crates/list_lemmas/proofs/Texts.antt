-- Texts: parts between separators, words, spelled numbers, and buffers that hold a text.
use Rattle.std.proofs.Common.{◌≡◌, ◌≢◌, ℕ, ◌+◌, ◌-◌, ◌<◌, ◌≤◌, true, false, eqb, List, [], ◌∷◌, ◌++◌, length, take}
use Rattle.std.proofs.Common.{drop, get_or, refl, sym, ap, ◌∙◌, arith, inl, inr, slice_set, length-append, zero, suc}
use Rattle.std.proofs.Common.{◌*◌, ◌^◌, replicate, map, Bool, not, Some, cond, None, length-drop, ◌⊎◌, ◌/◌, ◌%◌}
use Rattle.std.proofs.lemmas.Bool.{cases_Bool, ne_eqb, cond-true, eq-eqb, and_parts, not-true, and_from, cond_both}
use Rattle.std.proofs.lemmas.Bool.{lt-ltb}
use Rattle.std.proofs.lemmas.List.{get_or-drop, get_or_default, length-drop, drop-set-lt, take_more_set}
use Rattle.std.proofs.lemmas.List.{length-replicate}
use Rattle.std.proofs.lemmas.List.Splits.{slice_split_none, length-slice_split, slice_split_at}
use Rattle.std.proofs.lemmas.List.Sums.{AllPass-from_list_all, fold-append, take_while-cons}
use Rattle.std.specs.Char.{is_digit, digit_value}
use Rattle.std.specs.List.{All, onto_first, fold, join_with_byte, AllByRecursion, list_all, prefix_len, slice_split}
use Rattle.std.specs.List.{take_while}
use Rattle.list_lemmas.proofs.Joins.{onto_first-append, length-join_with_byte-map}
use Rattle.list_lemmas.proofs.Tests.{passes_other}
use Rattle.list_lemmas.proofs.Parts.{list_around, drop_later}
use Rattle.std.proofs.Math.Nat.{pow-suc, mul_assoc, mod-eq_of_lt}
use Rattle.std.proofs.lemmas.Nat.{pow-add}
use Rattle.std.specs.Fmt.{digits, digit_glyph}
use Rattle.list_lemmas.proofs.Digits.{length-digits-le, digits_one, length-digits-more}
use Rattle.std.proofs.Math.Seq.{take-append_seam, drop-append_seam}
use Rattle.std.specs.Prelude.{filter}
use Rattle.std.proofs.lemmas.List.Folds.{length-prefix_len}
use Rattle.list_lemmas.proofs.Elements.{prefix_len-whole}
use Rattle.std.specs.Bool.{then_some}

-- the parts of a text between its separators
abbrev pub parts_between : ℕ → List ℕ → List (List ℕ)
parts_between separator text = slice_split (λ c. eqb c separator) text

-- no separator stands in a text
abbrev pub Lacks : ℕ → List ℕ → Type 0
Lacks separator text = All (λ c. eqb c separator ≡ false) text

-- digits have no separator among them that is no digit
pub Lacks-digits : (base separator : ℕ) (text : List ℕ) → is_digit separator base ≡ false
    → list_all (λ c. is_digit c base) text ≡ true
    → Lacks separator text
Lacks-digits base separator text other digits k d inside =
    passes_other (λ c. is_digit c base) (get_or text k d) separator other
    (AllPass-from_list_all (λ c. is_digit c base) text digits k d inside)

-- such a text is one part
pub parts_of_one : (separator : ℕ) (text : List ℕ) → Lacks separator text → parts_between separator text ≡ text ∷ []
parts_of_one separator text lacks = slice_split_none (λ c. eqb c separator) text lacks

-- a text has a part
pub some_part : (separator : ℕ) (text : List ℕ) → 0 < length (parts_between separator text)
some_part separator text = omega (arith, length-slice_split (λ c. eqb c separator) text)

-- the last part stands after those of what is before its separator
pub parts_of_last : (separator : ℕ) (front last : List ℕ) → Lacks separator last
    → parts_between separator (front ++ separator ∷ last) ≡ parts_between separator front ++ last ∷ []
parts_of_last separator [] last lacks =
    cond-true (eqb separator separator) _ _ (eq-eqb separator separator refl)
    ∙ ap (λ ps. [] ∷ ps) (parts_of_one separator last lacks)
parts_of_last separator (c ∷ front) last lacks =
    let further = parts_of_last separator front last lacks in
    elim (cases_Bool (eqb c separator)) [
      | inl same ↦ rw same (ap (λ ps. [] ∷ ps) further)
      | inr other ↦
          rw other (ap (onto_first c) further
          ∙ onto_first-append c (parts_between separator front) last (some_part separator front))
    ]

-- where no separator stands from a place on, the rest of the text lacks it
pub Lacks-drop : (separator place : ℕ) (text : List ℕ)
    → ((k : ℕ) → place ≤ k → k < length text → get_or text k 0 ≢ separator) → Lacks separator (drop place text)
Lacks-drop separator place text lacks k d inside =
    let within : place + k < length text = omega (arith, length-drop place text) in
    ne_eqb (get_or (drop place text) k d) separator
    (λ same. lacks (place + k) (omega arith) within
    (sym (get_or-drop place text k d ∙ get_or_default text (place + k) d 0 within) ∙ same))

-- the parts of a text are those before its last separator, and what is after it
pub parts_of_split : (separator last : ℕ) (text : List ℕ) → 0 < last → last ≤ length text
    → get_or text (last - 1) 0 ≡ separator → ((k : ℕ) → last ≤ k → k < length text → get_or text k 0 ≢ separator)
    → parts_between separator text ≡ parts_between separator (take (last - 1) text) ++ drop last text ∷ []
parts_of_split separator last text some within here lacks =
    let whole = list_around separator (last - 1) text 0 (omega arith) here in
    let named : last - 1 + 1 ≡ last = omega arith in
    ap (parts_between separator) (sym whole ∙ ap (λ n. take (last - 1) text ++ separator ∷ drop n text) named)
    ∙ parts_of_last separator (take (last - 1) text) (drop last text) (Lacks-drop separator last text lacks)

-- the parts that were joined, none of them with the separator in it
pub parts_of_join : (separator : ℕ) (parts : List (List ℕ)) → 0 < length parts → AllByRecursion (Lacks separator) parts
    → parts_between separator (join_with_byte separator parts) ≡ parts
parts_of_join separator [] some lack = absurd (omega arith)
parts_of_join separator (part ∷ []) some lack = parts_of_one separator part lack.0
parts_of_join separator (part ∷ next ∷ parts) some lack =
    slice_split_at (λ c. eqb c separator) part separator (join_with_byte separator (next ∷ parts)) lack.0
    (eq-eqb separator separator refl)
    ∙ ap (λ ps. part ∷ ps) (parts_of_join separator (next ∷ parts) (omega arith) lack.1)

-- joined parts begin with the byte that the first one begins with
pub first_of_join : (separator c : ℕ) (part : List ℕ) (parts : List (List ℕ)) (after : List ℕ)
    → get_or (join_with_byte separator ((c ∷ part) ∷ parts) ++ after) 0 0 ≡ c
first_of_join separator c part [] after = refl
first_of_join separator c part (next ∷ parts) after = refl

-- the buffer holds the text, and after it what it held at the start
pub record Holds (buffer start text : List ℕ) (len : ℕ) : Type 0 where
  pub counted : len ≡ length text
  pub shown : take len buffer ≡ text
  pub kept : drop len buffer ≡ drop len start

-- a piece after the text
pub Holds_piece : (buffer start text piece after : List ℕ) (len next : ℕ) → Holds buffer start text len
    → next ≡ len + length piece → take next after ≡ take len buffer ++ piece → drop next after ≡ drop next buffer
    → Holds after start (text ++ piece) next
Holds_piece buffer start text piece after len next held moved written left = record {
  counted = omega (arith, held.counted, length-append text piece);
  shown = written ∙ ap (λ front. front ++ piece) held.shown;
  kept = left ∙ drop_later buffer start len next held.kept (omega arith);
}

-- a byte after the text
pub Holds_byte : (buffer start text : List ℕ) (len byte : ℕ) → Holds buffer start text len → len < length buffer
    → Holds (slice_set buffer len byte) start (text ++ byte ∷ []) (len + 1)
Holds_byte buffer start text len byte held inside =
    Holds_piece buffer start text (byte ∷ []) (slice_set buffer len byte) len (len + 1) held refl
    (take_more_set buffer len byte inside) (drop-set-lt (len + 1) buffer len byte (omega arith))

-- the same text under another name
pub Holds_text : (buffer start text other : List ℕ) (len : ℕ) → text ≡ other → Holds buffer start text len
    → Holds buffer start other len
Holds_text buffer start text other len same held = rw (sym same) held

-- the number that numbers of 16 bits spell, the most significant first
abbrev pub words_spell : List ℕ → ℕ
words_spell numbers = fold (λ n x. n * 65536 + x) 0 numbers

-- numbers spelled after a value move it by their power
joined_from : (value : ℕ) (numbers : List ℕ)
    → fold (λ n x. n * 65536 + x) value numbers ≡ value * 65536 ^ length numbers + words_spell numbers
joined_from value [] = omega arith
joined_from value (x ∷ numbers) =
    rw (joined_from (value * 65536 + x) numbers, joined_from (0 * 65536 + x) numbers, pow-suc 65536 (length numbers))
    (omega arith)

-- numbers after others
joined-append : (xs ys : List ℕ) → words_spell (xs ++ ys) ≡ words_spell xs * 65536 ^ length ys + words_spell ys
joined-append xs ys = fold-append (λ n x. n * 65536 + x) 0 xs ys ∙ joined_from (words_spell xs) ys

-- zeros spell nothing
joined-zeros : (n : ℕ) → words_spell (replicate n 0) ≡ 0
joined-zeros zero = refl
joined-zeros (suc n) = joined-zeros n

-- zeros after numbers
joined-append-zeros : (xs : List ℕ) (n : ℕ) → words_spell (xs ++ replicate n 0) ≡ words_spell xs * 65536 ^ n
joined-append-zeros xs n =
    let powers = ap (λ k. words_spell xs * 65536 ^ k) (length-replicate {A = ℕ} n 0) in
    omega (arith, joined-append xs (replicate n 0), joined-zeros n, powers)

-- what eight numbers with zeros between spell
pub joined-filled : (before after : List ℕ) → length before + length after ≤ 7
    → words_spell (before ++ replicate (8 - (length before + length after)) 0 ++ after)
    ≡ words_spell before * 65536 ^ (8 - length before) + words_spell after
joined-filled before after few =
    let zeros : ℕ = 8 - (length before + length after) in
    let total : zeros + length after ≡ 8 - length before = omega arith in
    let moved : 65536 ^ zeros * 65536 ^ length after ≡ 65536 ^ (8 - length before) =
    sym (pow-add 65536 zeros (length after)) ∙ ap (λ n. 65536 ^ n) total in
    joined-append (before ++ replicate zeros 0) after
    ∙ ap (λ n. n * 65536 ^ length after + words_spell after) (joined-append-zeros before zeros)
    ∙ ap (λ n. n + words_spell after)
    (mul_assoc (words_spell before) (65536 ^ zeros) (65536 ^ length after) ∙ ap (λ n. words_spell before * n) moved)

-- each number below the bound
abbrev pub AllBelow : ℕ → List ℕ → Type 0
AllBelow bound numbers = AllByRecursion (λ n. n < bound) numbers

-- numbers with their separators: none has more digits than the power of the base above the bound says
pub joined_digits_fit : (separator bound base k : ℕ) (numbers : List ℕ) → 2 ≤ base → bound ≤ base ^ suc k
    → bound ≤ 65536
    → AllBelow bound numbers → 0 < length numbers
    → length (join_with_byte separator (map (digits base false) numbers)) + 1 ≤ length numbers * (suc k + 1)
joined_digits_fit separator bound base k numbers low within few all some =
    length-join_with_byte-map separator (suc k) (λ n. n < bound) (digits base false) numbers
    (λ n small. length-digits-le base k n low (omega arith) (omega arith)) all some

-- four numbers of 16 bits in decimal
pub four_fit : (separator : ℕ) (numbers : List ℕ) → AllBelow 65536 numbers → length numbers ≡ 4
    → length (join_with_byte separator (map (digits 10 false) numbers)) ≤ 40
four_fit separator numbers all four =
    let most = joined_digits_fit separator 65536 10 4 numbers (omega arith) (omega arith) (omega arith) all in
    omega (arith, most (omega arith))

-- eight numbers of 16 bits in hexadecimal
pub eight_fit : (separator : ℕ) (numbers : List ℕ) → AllBelow 65536 numbers → length numbers ≡ 8
    → length (join_with_byte separator (map (digits 16 false) numbers)) ≤ 39
eight_fit separator numbers all eight =
    let most = joined_digits_fit separator 65536 16 3 numbers (omega arith) (omega arith) (omega arith) all in
    omega (arith, most (omega arith))

-- a value where a test passes
pub then_some-cond : {A : Type 0} (test : Bool) (value : A) → then_some test value ≡ cond test (Some value) None
then_some-cond true value = refl
then_some-cond false value = refl

-- A text that is taken apart at its blanks, whatever they are.
module _ (blank : ℕ → Bool) where
  -- what is left after the blanks at the beginning, the bytes before the first blank, and what is left after them
  abbrev pub past_blanks : List ℕ → List ℕ
  past_blanks text = drop (length (take_while blank text)) text

  -- the bytes of a text before its first blank
  abbrev pub front_word : List ℕ → List ℕ
  front_word text = take_while (λ c. not (blank c)) text

  -- what is left of a text from its first blank on
  abbrev pub past_word : List ℕ → List ℕ
  past_word text = drop (length (front_word text)) text

  -- a part that has a byte
  abbrev is_filled : List ℕ → Bool
  is_filled part = not (eqb (length part) 0)

  -- the parts between blanks that have a byte
  abbrev pub all_words : List ℕ → List (List ℕ)
  all_words text = filter is_filled (slice_split blank text)

  -- a blank at the beginning is passed over
  pub past_blanks-blank : (c : ℕ) (cs : List ℕ) → blank c ≡ true → past_blanks (c ∷ cs) ≡ past_blanks cs
  past_blanks-blank c cs is =
      let here = length-prefix_len blank (c ∷ cs) in
      let there = length-prefix_len blank cs in
      let first : prefix_len blank (c ∷ cs) ≡ suc (prefix_len blank cs) = rw is (omega arith) in
      ap (λ n. drop n (c ∷ cs)) (here ∙ first) ∙ ap (λ n. drop n cs) (sym there)

  -- and another byte stays
  pub past_blanks-other : (c : ℕ) (cs : List ℕ) → blank c ≡ false → past_blanks (c ∷ cs) ≡ c ∷ cs
  past_blanks-other c cs other =
      let none : prefix_len blank (c ∷ cs) ≡ 0 = rw other refl in
      ap (λ n. drop n (c ∷ cs)) (length-prefix_len blank (c ∷ cs) ∙ none)

  -- blanks at the beginning change no word
  all_words-past_blanks : (text : List ℕ) → all_words (past_blanks text) ≡ all_words text
  all_words-past_blanks [] = refl
  all_words-past_blanks (c ∷ cs) =
      elim (cases_Bool (blank c)) [
        | inl is ↦ ap all_words (past_blanks-blank c cs is) ∙ all_words-past_blanks cs ∙ rw is refl
        | inr other ↦ ap all_words (past_blanks-other c cs other)
      ]

  -- The parts of a text between blanks: the word that it begins with, and parts that are the words of what follows it.
  record Cut (text : List ℕ) : Type 0 where
    parts : List (List ℕ)
    whole : slice_split blank text ≡ front_word text ∷ parts
    words : filter is_filled parts ≡ all_words (past_word text)

  -- no word begins with a blank
  front_word-blank : (c : ℕ) (cs : List ℕ) → blank c ≡ true → front_word (c ∷ cs) ≡ []
  front_word-blank c cs is = rw is refl

  -- and another byte begins one
  front_word-other : (c : ℕ) (cs : List ℕ) → blank c ≡ false → front_word (c ∷ cs) ≡ c ∷ front_word cs
  front_word-other c cs other =
      let longer : prefix_len (λ d. not (blank d)) (c ∷ cs) ≡ suc (prefix_len (λ d. not (blank d)) cs) =
      rw other (omega arith) in
      ap (λ n. take n (c ∷ cs)) longer

  -- each text is taken apart at its blanks
  cut : (text : List ℕ) → Cut text
  cut [] = record { parts = []; whole = refl; words = refl }
  cut (c ∷ cs) =
      elim (cases_Bool (blank c)) [
        | inl is ↦ record {
          parts = slice_split blank cs;
          whole = rw (front_word-blank c cs is, is) refl;
          words = rw (front_word-blank c cs is, is) refl;
        }
        | inr other ↦
            let rest = cut cs in
            record {
              parts = rest.parts;
              whole = rw (front_word-other c cs other, other, rest.whole) refl;
              words = rest.words ∙ rw (front_word-other c cs other) refl;
            }
      ]

  -- the words of a text are the word that it begins with, if there is one, and those of what follows it
  pub all_words-more : (text : List ℕ) → 0 < length (front_word text)
      → all_words text ≡ front_word text ∷ all_words (past_word text)
  all_words-more text some =
      let parts = cut text in
      let filled : is_filled (front_word text) ≡ true =
      ap not (ne_eqb (length (front_word text)) 0 (λ none. omega arith)) in
      ap (filter is_filled) parts.whole ∙ rw filled (ap (λ ws. front_word text ∷ ws) parts.words)

  -- the same after blanks
  pub all_words-first : (text : List ℕ) → 0 < length (front_word (past_blanks text))
      → all_words text ≡ front_word (past_blanks text) ∷ all_words (past_word (past_blanks text))
  all_words-first text some = sym (all_words-past_blanks text) ∙ all_words-more (past_blanks text) some

  -- where no word follows the blanks, there is none
  pub all_words-none : (text : List ℕ) → length (front_word (past_blanks text)) ≡ 0 → all_words text ≡ []
  all_words-none [] none = refl
  all_words-none (c ∷ cs) none =
      elim (cases_Bool (blank c)) [
        | inl is ↦
            rw is (all_words-none cs
            (ap (λ text. length (front_word text)) (sym (past_blanks-blank c cs is)) ∙ none))
        | inr other ↦
            let word : front_word (past_blanks (c ∷ cs)) ≡ c ∷ front_word cs =
            ap front_word (past_blanks-other c cs other) ∙ front_word-other c cs other in
            absurd (omega (arith, ap length word, none))
      ]

  -- A text that is a word, as long as it has a byte, and what follows one.
  abbrev pub LacksBlanks : List ℕ → Type 0
  LacksBlanks text = list_all (λ c. not (blank c)) text ≡ true

  -- what follows a word so that it ends there: nothing, or a blank
  abbrev pub EndsRun : List ℕ → Type 0
  EndsRun [] = Unit {0}
  EndsRun (c ∷ cs) = blank c ≡ true

  -- what ends a word begins with no byte of one
  no_word : (rest : List ℕ) → EndsRun rest → prefix_len (λ c. not (blank c)) rest ≡ 0
  no_word [] ends = refl
  no_word (c ∷ rest) ends = rw ends refl

  -- a word at the beginning is the first one
  pub front_word-append : (word rest : List ℕ) → LacksBlanks word → EndsRun rest → front_word (word ++ rest) ≡ word
  front_word-append word rest is ends =
      ap (λ n. take n (word ++ rest)) (prefix_len-whole (λ c. not (blank c)) word rest is (no_word rest ends))
      ∙ take-append_seam word rest

  -- and what follows it is left
  pub past_word-append : (word rest : List ℕ) → LacksBlanks word → EndsRun rest → past_word (word ++ rest) ≡ rest
  past_word-append word rest is ends =
      ap (λ w. drop (length w) (word ++ rest)) (front_word-append word rest is ends) ∙ drop-append_seam word rest

  -- the words of a text that begins with one
  pub all_words-append : (word rest : List ℕ) → LacksBlanks word → 0 < length word → EndsRun rest
      → all_words (word ++ rest) ≡ word ∷ all_words rest
  all_words-append word rest is some ends =
      let first = front_word-append word rest is ends in
      all_words-more (word ++ rest) (omega (arith, ap length first))
      ∙ ap (λ w. w ∷ all_words (past_word (word ++ rest))) first
      ∙ ap (λ r. word ∷ all_words r) (past_word-append word rest is ends)

  -- a blank at the beginning is no part of a word
  pub all_words-blank : (c : ℕ) (rest : List ℕ) → blank c ≡ true → all_words (c ∷ rest) ≡ all_words rest
  all_words-blank c rest is = rw is refl

  -- before a word there is no blank
  pub past_blanks-word : (word rest : List ℕ) → LacksBlanks word → 0 < length word
      → past_blanks (word ++ rest) ≡ word ++ rest
  past_blanks-word [] rest is some = absurd (omega arith)
  past_blanks-word (c ∷ word) rest is some =
      past_blanks-other c (word ++ rest) (not-true _ (and_parts (not (blank c)) _ is).0)

-- the longest run that passes a test passes it
pub all-run : (p : ℕ → Bool) (text : List ℕ) → list_all p (take_while p text) ≡ true
all-run p [] = refl
all-run p (c ∷ cs) =
    let further = all-run p cs in
    rw (take_while-cons p c cs)
    (cond_both (p c) (c ∷ take_while p cs) [] (λ ds. list_all p ds ≡ true)
    (λ e. and_from (p c) (list_all p (take_while p cs)) e further)
    (λ e. refl))

-- and stands at the beginning of the text
pub take-length-run : (p : ℕ → Bool) (text : List ℕ) → take (length (take_while p text)) text ≡ take_while p text
take-length-run p text = ap (λ n. take n text) (length-prefix_len p text)

-- the digit that was read is the byte's at its place, and a digit of the base
pub digit_at : (base : ℕ) (text : List ℕ) (i code digit : ℕ) → code ≡ get_or text i 0
    → (digit_value code < base) × (digit ≡ digit_value code)
    → (digit ≡ digit_value (get_or text i 0)) × (is_digit (get_or text i 0) base ≡ true)
digit_at base text i code digit read is =
    let value : digit ≡ digit_value (get_or text i 0) = is.1 ∙ ap digit_value read in
    (value, lt-ltb (digit_value (get_or text i 0)) base (omega (arith, is, value)))

-- the product that was taken is that of what the digits before it spell
pub product_is : (value by base before : ℕ) → by ≡ base → value ≡ before → value * by ≡ before * base
product_is value by base before is held = ap (λ n. value * n) is ∙ ap (λ n. n * base) held

-- the text of a number below the base, and of one that is not
pub digits_below : (base value : ℕ) → (base ≡ 10) ⊎ (base ≡ 16) → value < base
    → digits base false value ≡ digit_glyph false (value % base) ∷ []
digits_below base value b small = digits_one base value (omega arith) small
    ∙ ap (λ n. digit_glyph false n ∷ []) (sym (mod-eq_of_lt small))

-- one of at least the base has one digit more than its quotient
pub digits_above : (base value : ℕ) → (base ≡ 10) ⊎ (base ≡ 16) → base ≤ value → value < 2 ^ 16
    → length (digits base false value) ≡ length (digits base false (value / base)) + 1
digits_above base value b large small = length-digits-more base value (omega arith) large small
