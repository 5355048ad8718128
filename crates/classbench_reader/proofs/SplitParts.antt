-- The words and the ports of a line that is read, split off one by one.
use Rattle.std.proofs.Common.{◌≡◌, ℕ, suc, ◌+◌, ◌<◌, ◌≤◌, Bool, true, false, not, ◌&&◌, ◌||◌, eqb, nat_le, List, []}
use Rattle.std.proofs.Common.{◌∷◌, ◌++◌, length}
use Rattle.std.proofs.Common.{take, drop, Some, Result, Ok, Err, refl, sym, ap, subst, ◌∙◌, arith, append_assoc}
use Rattle.std.proofs.Common.{append-nil, inl, inr}
use Rattle.std.specs.List.{take_while, prefix_len}
use Rattle.std.specs.Char.{is_digit}
use Rattle.std.proofs.lemmas.Bool.{and_from, and_parts, cases_Bool, cond-true, eqb-true, eq-eqb, leb-true, false≢true}
use Rattle.std.proofs.lemmas.List.{take-append-drop}
use Rattle.std.proofs.lemmas.List.Folds.{length-prefix_len}
use Rattle.std.proofs.Math.Seq.{take-length}
use Rattle.list_lemmas.proofs.Elements.{prefix_len-whole}
use Rattle.list_lemmas.proofs.Tests.{and_false}
use Rattle.field_defs.specs.declared.field.FieldValue.{FieldValue}
use Rattle.field_defs.specs.declared.field.FieldValue.TheVariants.{Range}
use Rattle.text_scan.specs.Parts.{colon, is_blank, after_blanks, first_word, after_word}
use Rattle.text_scan.specs.Digits.{run_of, place_value}
use Rattle.text_scan.specs.Numeral.{whole_number, begins_numeral, begins_hexadecimal, numeral_len, numeral_value}
use Rattle.text_scan.specs.Numeral.{digits_of}
use Rattle.text_scan.proofs.Offered.{whole_number-spelled}
use Rattle.classbench_reader.specs.declared.network.Network.{Network}
use Rattle.classbench_reader.specs.declared.rules_fault.LineKind.{LineKind}
use Rattle.classbench_reader.specs.Limits.{max_port}
use Rattle.classbench_reader.specs.LineReading.{◌>>=◌, Read, read_of}
use Rattle.classbench_reader.specs.Network.{network_of}
use Rattle.classbench_reader.specs.Columns.{port_of, after_colon_of, range_of, ports_of, protocol_of}
use Rattle.classbench_reader.specs.Joined.{IsBlanks, IsGap, PortTexts, port_text, SpellsRange, EndsTheWord}
use Rattle.classbench_reader.specs.Joined.{HasNoBlank}
use Rattle.classbench_reader.proofs.PrintedParts.{after_high, after_colon, after_low}
use Rattle.list_lemmas.proofs.Texts.{all-run}

-- what was read first, and what was read of it
pub bound : {A B K : Type 0} (read : Result A K) (next : A → Result B K) (b : B) → (read >>= next) ≡ Ok b →
    (a : A) × (read ≡ Ok a) × (next a ≡ Ok b)
bound (Ok a) next b is = (a, refl, is)
bound (Err kind) next b is = absurd (cc)

-- the bytes that pass at the beginning of a text, and what is left
pub split_again : (p : ℕ → Bool) (text : List ℕ) → take_while p text ++ drop (length (take_while p text)) text ≡ text
split_again p text = rw (length-prefix_len p text) (take-append-drop (prefix_len p text) text)

-- the longest such bytes of them are all of them
run_again : (p : ℕ → Bool) (text : List ℕ) → take_while p (take_while p text) ≡ take_while p text
run_again p text =
    let run = take_while p text in
    let whole : prefix_len p run ≡ length run =
    ap (prefix_len p) (sym (append-nil run)) ∙ prefix_len-whole p run [] (all-run p text) refl in
    ap (λ n. take n run) whole ∙ take-length run

-- a word ends at a blank, or with the text
word_ends : (text : List ℕ) → EndsTheWord (drop (prefix_len (λ c. not (is_blank c)) text) text)
word_ends [] = tt
word_ends (c ∷ cs) = elim (cases_Bool (is_blank c)) [
  | inl blank ↦ rw blank blank
  | inr other ↦
      let n = prefix_len (λ d. not (is_blank d)) cs in
      let more : 1 + n ≡ suc n = omega arith in
      rw (other, more) (word_ends cs)
]

-- what follows the first word of a text ends it
after_word_ends : (text : List ℕ) → EndsTheWord (after_word text)
after_word_ends text = rw (length-prefix_len (λ c. not (is_blank c)) text) (word_ends text)

-- after a word the next column stands after a gap
gap_of : (text : List ℕ) → EndsTheWord text → 0 < length text → IsGap (take_while is_blank text)
gap_of [] ends some = absurd (omega (arith, some))
gap_of (c ∷ cs) ends some =
    let more : 1 + prefix_len is_blank cs ≡ suc (prefix_len is_blank cs) = omega arith in
    record { blanks = all-run is_blank (c ∷ cs); some = rw (ends, more) (omega arith) }

-- A text that begins with a word that f reads, after blanks.
pub record WordSplit {A : Type 0} (f : List ℕ → Result A LineKind) (text : List ℕ) (read : Read A) : Type 0 where
  pub gap : List ℕ
  pub word : List ℕ
  pub joined : gap ++ (word ++ read.rest) ≡ text
  pub blanks : IsBlanks gap
  pub spaced : EndsTheWord text → IsGap gap
  pub no_blank : HasNoBlank word
  pub reads : f word ≡ Ok read.value
  pub ends : EndsTheWord read.rest

-- a text of which f reads a word isn't empty
text_some : {A : Type 0} (f : List ℕ → Result A LineKind) (text : List ℕ) (a : A) → (f [] ≡ Ok a → ⊥) →
    f (first_word (after_blanks text)) ≡ Ok a → 0 < length text
text_some f [] a none is = absurd (none is)
text_some f (c ∷ cs) a none is = omega arith

-- if the first word of a text was read, the text is blanks, that word and what is left
pub word_split : {A : Type 0} (f : List ℕ → Result A LineKind) (text : List ℕ) (read : Read A) →
    ((a : A) → f [] ≡ Ok a → ⊥) →
    (f (first_word (after_blanks text)) >>= (λ a. Ok (read_of a (after_word (after_blanks text))))) ≡ Ok read →
    WordSplit f text read
word_split {A = A} f text read none is =
    let left = after_blanks text in
    let found = bound (f (first_word left)) (λ a. Ok (read_of a (after_word left))) read is in
    let same : read_of found.0 (after_word left) ≡ read = let made = found.2 in cc in
    subst (WordSplit f text) same
    record {
      gap = take_while is_blank text;
      word = first_word left;
      joined = ap (λ rest. take_while is_blank text ++ rest) (split_again (λ c. not (is_blank c)) left)
          ∙ split_again is_blank text;
      blanks = all-run is_blank text;
      spaced = λ ends. gap_of text ends (text_some f text found.0 (none found.0) found.1);
      no_blank = all-run (λ c. not (is_blank c)) left;
      reads = found.1;
      ends = after_word_ends left;
    }

-- a text without a byte is no network
pub no_network : (network : Network) → network_of [] ≡ Ok network → ⊥
no_network network read = cc

-- a text without a byte is no protocol
pub no_protocol : (value : FieldValue) → protocol_of [] ≡ Ok value → ⊥
no_protocol value read = cc

-- a number in hexadecimal, cut after its digits
hexadecimal_cut : (greatest a b d : ℕ) (rest : List ℕ) → begins_hexadecimal (a ∷ b ∷ d ∷ rest) ≡ true →
    begins_numeral greatest (a ∷ b ∷ d ∷ rest) ≡ true →
    whole_number greatest (take (numeral_len (a ∷ b ∷ d ∷ rest)) (a ∷ b ∷ d ∷ rest))
    ≡ Some (numeral_value (a ∷ b ∷ d ∷ rest))
hexadecimal_cut greatest a b d rest mark begins =
    let text = a ∷ b ∷ d ∷ rest in
    let p : ℕ → Bool = λ c. is_digit c 16 in
    let run = run_of 16 (d ∷ rest) in
    let cut = a ∷ b ∷ run in
    let len : numeral_len text ≡ suc (suc (length run)) = rw mark (omega arith) in
    let is_cut : take (numeral_len text) text ≡ cut =
    ap (λ n. take n text) len ∙ ap (λ n. a ∷ b ∷ take n (d ∷ rest)) (length-prefix_len p (d ∷ rest)) in
    let digit : is_digit d 16 ≡ true = (and_parts (eqb a 48 && (eqb b 120 || eqb b 88)) _ mark).1 in
    let more : 1 + prefix_len p rest ≡ suc (prefix_len p rest) = omega arith in
    let begin : run ≡ d ∷ take (prefix_len p rest) rest = rw (digit, more) refl in
    let stays : begins_hexadecimal cut ≡ true = rw begin mark in
    let again : run_of 16 run ≡ run = run_again p (d ∷ rest) in
    let value : numeral_value cut ≡ numeral_value text = rw (stays, mark, again) refl in
    let number : begins_numeral greatest cut ≡ true = rw (stays, again) (rw mark at begins) in
    let whole : eqb (numeral_len cut) (length cut) ≡ true = eq-eqb _ _ (rw (stays, again) (omega arith)) in
    ap (whole_number greatest) is_cut
    ∙ cond-true (begins_numeral greatest cut && eqb (numeral_len cut) (length cut)) _ _ (and_from _ _ number whole)
    ∙ ap Some value

-- a text that begins with a number in hexadecimal, cut after it, is that number
marked_cut : (greatest : ℕ) (text : List ℕ) → begins_hexadecimal text ≡ true → begins_numeral greatest text ≡ true →
    whole_number greatest (take (numeral_len text) text) ≡ Some (numeral_value text)
marked_cut greatest [] mark begins = absurd (cc)
marked_cut greatest (a ∷ []) mark begins = absurd (false≢true (sym (and_false (eqb a 48 && false)) ∙ mark))
marked_cut greatest (a ∷ b ∷ []) mark begins =
    absurd (false≢true (sym (and_false (eqb a 48 && (eqb b 120 || eqb b 88))) ∙ mark))
marked_cut greatest (a ∷ b ∷ d ∷ rest) mark begins = hexadecimal_cut greatest a b d rest mark begins

-- and one in decimal
decimal_cut : (greatest : ℕ) (text : List ℕ) → begins_hexadecimal text ≡ false → begins_numeral greatest text ≡ true →
    whole_number greatest (take (numeral_len text) text) ≡ Some (numeral_value text)
decimal_cut greatest text mark begins =
    let p : ℕ → Bool = λ c. is_digit c 10 in
    let run = run_of 10 text in
    let had : digits_of text ≡ run = rw mark refl in
    let value : numeral_value text ≡ place_value 10 run = rw mark refl in
    let parts = and_parts (nat_le 1 (length (digits_of text))) _ begins in
    let some = leb-true 1 (length (digits_of text)) parts.0 in
    let len : numeral_len text ≡ prefix_len p text = rw mark (omega (arith, length-prefix_len p text)) in
    ap (λ n. whole_number greatest (take n text)) len
    ∙ whole_number-spelled greatest (numeral_value text) run
    record {
      digits = all-run p text;
      some = omega (arith, some, ap length had);
      value = sym value;
    }
    (leb-true (numeral_value text) greatest parts.1)

-- a text that begins with a number, cut after it
number_cut : (greatest : ℕ) (text : List ℕ) → begins_numeral greatest text ≡ true →
    whole_number greatest (take (numeral_len text) text) ≡ Some (numeral_value text)
number_cut greatest text begins = elim (cases_Bool (begins_hexadecimal text)) [
  | inl mark ↦ marked_cut greatest text mark begins
  | inr none ↦ decimal_cut greatest text none begins
]

-- A port at the beginning of a text, after blanks.
record PortSplit (text : List ℕ) (read : Read ℕ) : Type 0 where
  gap : List ℕ
  number : List ℕ
  joined : gap ++ (number ++ read.rest) ≡ text
  blanks : IsBlanks gap
  spaced : EndsTheWord text → IsGap gap
  spelled : whole_number max_port number ≡ Some read.value

-- a text that a port stands in isn't empty
port_some : (text : List ℕ) → begins_numeral max_port (after_blanks text) ≡ true → 0 < length text
port_some [] begins = absurd (cc)
port_some (c ∷ cs) begins = omega arith

-- if a port was read, the text is blanks, the port and what is left
port_split : (text : List ℕ) (read : Read ℕ) → port_of text ≡ Ok read → PortSplit text read
port_split text read is = elim (cases_Bool (begins_numeral max_port (after_blanks text))) [
  | inl begins ↦
      let left = after_blanks text in
      let same : read_of (numeral_value left) (drop (numeral_len left) left) ≡ read =
      let found = rw begins at is in cc in
      subst (PortSplit text) same
      record {
        gap = take_while is_blank text;
        number = take (numeral_len left) left;
        joined = ap (λ rest. take_while is_blank text ++ rest) (take-append-drop (numeral_len left) left)
            ∙ split_again is_blank text;
        blanks = all-run is_blank text;
        spaced = λ ends. gap_of text ends (port_some text begins);
        spelled = number_cut max_port left begins;
      }
  | inr none ↦ absurd (let fault = rw none at is in cc)
]

-- a `:` after blanks
colon_split : (text after : List ℕ) → after_colon_of text ≡ Ok after → colon ∷ after ≡ text
colon_split [] after is = absurd (cc)
colon_split (c ∷ rest) after is = elim (cases_Bool (eqb c colon)) [
  | inl same ↦ let found = rw same at is in let rest_is : rest ≡ after = cc in
      rw (eqb-true c colon same, rest_is) refl
  | inr other ↦ absurd (let fault = rw other at is in cc)
]

-- no word stands at the beginning of what a blank begins
no_word : (text : List ℕ) → length (first_word text) ≡ 0 → EndsTheWord text
no_word [] none = tt
no_word (c ∷ cs) none = elim (cases_Bool (is_blank c)) [
  | inl blank ↦ blank
  | inr other ↦ absurd (
      let n = prefix_len (λ d. not (is_blank d)) cs in
      let more : 1 + n ≡ suc n = omega arith in
      let some = rw (other, more) at none in omega (arith, some))
]

-- The range of two ports, after which a blank or nothing follows.
record IsRange (low high : ℕ) (rest : List ℕ) (read : Read FieldValue) : Type 0 where
  filled : low ≤ high
  is : read_of (Range low high) rest ≡ read
  ends : EndsTheWord rest

-- if two ports were read as a range, they are in order and what follows ends a word
range_split : (low high : ℕ) (rest : List ℕ) (read : Read FieldValue) → range_of low high rest ≡ Ok read →
    IsRange low high rest read
range_split low high rest read is = elim (cases_Bool (eqb (length (first_word rest)) 0)) [
  | inl none ↦ elim (cases_Bool (nat_le low high)) [
    | inl filled ↦ record {
      filled = leb-true low high filled;
      is = let found = rw (none, filled) at is in cc;
      ends = no_word rest (eqb-true (length (first_word rest)) 0 none);
    }
    | inr empty ↦ absurd (let fault = rw (none, empty) at is in cc)
  ]
  | inr some ↦ absurd (let fault = rw some at is in cc)
]

-- Two ports at the beginning of a text, after blanks.
pub record PortsSplit (text : List ℕ) (read : Read FieldValue) : Type 0 where
  pub gap : List ℕ
  pub ports : PortTexts
  pub joined : gap ++ (port_text ports ++ read.rest) ≡ text
  pub blanks : IsBlanks gap
  pub spaced : EndsTheWord text → IsGap gap
  pub spells : SpellsRange ports read.value
  pub ends : EndsTheWord read.rest

-- the ports and what stands around them are the text again
ports_joined : (text gap : List ℕ) (ports : PortTexts) (low_rest second rest : List ℕ) →
    gap ++ (ports.low ++ low_rest) ≡ text → ports.before_colon ++ after_blanks low_rest ≡ low_rest →
    colon ∷ second ≡ after_blanks low_rest → ports.after_colon ++ (ports.high ++ rest) ≡ second →
    gap ++ (port_text ports ++ rest) ≡ text
ports_joined text gap ports low_rest second rest whole blanks colon_is last =
    let after : List ℕ = ports.after_colon ++ ports.high in
    ap (λ t. gap ++ t) (append_assoc ports.low (ports.before_colon ++ colon ∷ after) rest
    ∙ ap (λ t. ports.low ++ t) (append_assoc ports.before_colon (colon ∷ after) rest
    ∙ ap (λ t. ports.before_colon ++ colon ∷ t) (append_assoc ports.after_colon ports.high rest ∙ last)
    ∙ ap (λ t. ports.before_colon ++ t) colon_is ∙ blanks))
    ∙ whole

-- two ports with a colon between them are the ports of a text
ports_of_parts : (text : List ℕ) (read : Read FieldValue) (low : Read ℕ) (second : List ℕ) (high : Read ℕ) →
    PortSplit text low → colon ∷ second ≡ after_blanks low.rest → PortSplit second high →
    IsRange low.value high.value high.rest read → PortsSplit text read
ports_of_parts text read low second high first colon_is last range =
    let ports : PortTexts = record {
      low = first.number;
      before_colon = take_while is_blank low.rest;
      after_colon = last.gap;
      high = last.number;
    } in
    subst (PortsSplit text) range.is
    record {
      gap = first.gap;
      ports = ports;
      joined = ports_joined text first.gap ports low.rest second high.rest first.joined
          (split_again is_blank low.rest) colon_is last.joined;
      blanks = first.blanks;
      spaced = first.spaced;
      spells = record {
        low = low.value;
        high = high.value;
        is = refl;
        filled = range.filled;
        low_spelled = first.spelled;
        high_spelled = last.spelled;
        before = all-run is_blank low.rest;
        after = last.blanks;
      };
      ends = range.ends;
    }

-- if ports were read, the text is blanks, the ports and what is left
pub ports_split : (text : List ℕ) (read : Read FieldValue) → ports_of text ≡ Ok read → PortsSplit text read
ports_split text read is =
    let (low, low_read, after) = bound (port_of text) after_low read is in
    let (second, colon_read, later) = bound (after_colon_of (after_blanks low.rest)) (after_colon low.value) read
    after in
    let (high, high_read, last) = bound (port_of second) (after_high low.value) read later in
    ports_of_parts text read low second high (port_split text low low_read)
    (colon_split (after_blanks low.rest) second colon_read) (port_split second high high_read)
    (range_split low.value high.value high.rest read last)
