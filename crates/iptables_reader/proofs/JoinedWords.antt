-- The words of a rule: whole options, one after the other.
use Rattle.std.proofs.Common.{◌≡◌, ℕ, zero, suc, ◌-◌, ◌≤◌, ◌<◌, Bool, true, false, not, ◌&&◌, List, [], ◌∷◌, ◌++◌}
use Rattle.std.proofs.Common.{length, Some, None, Option, Ok, Err, Result, if◌then◌else◌, ◌==◌}
use Rattle.std.proofs.Common.{refl, sym, ap, ◌∙◌, subst, append_assoc, length-append, arith, inl, inr}
use Rattle.std.proofs.lemmas.Bool.{cases_Bool, cond-true, cond-false, eqb-true}
use Rattle.std.specs.Prelude.{bit_and, codes, option_and_then}
use Rattle.std.specs.Str.{bytes_eq}
use Rattle.list_packets.specs.Values.{first_of}
use Rattle.iptables_reader.specs.declared.options.RuleOption.{RuleOption}
use Rattle.iptables_reader.specs.declared.options.Match.{Match}
use Rattle.iptables_reader.specs.declared.reading.Reading.{Reading}
use Rattle.iptables_reader.specs.declared.reading.Rows.{Rows}
use Rattle.iptables_reader.specs.declared.reading.Rows.TheVariants as rows
use Rattle.iptables_reader.specs.declared.quotes.Quotes.{Quotes}
use Rattle.iptables_reader.specs.declared.quotes.Quotes.TheVariants as quotes
use Rattle.iptables_reader.specs.declared.tables.Listed.{Listed}
use Rattle.iptables_reader.specs.declared.fault.LineKind.{LineKind}
use Rattle.iptables_reader.specs.declared.fault.LineKind.TheVariants.{CantSay, BadNegation, OptionTwice}
use Rattle.iptables_reader.specs.Chains.{RuleSetting}
use Rattle.iptables_reader.specs.Options.{Row, any_option, own_option}
use Rattle.iptables_reader.specs.OptionValues.{unless, with_cause, with_value}
use Rattle.iptables_reader.specs.Quotes.{after_open, after_word, after_words, by_quotes, first_quotes, quotes_after}
use Rattle.iptables_reader.specs.Reading as reading
use Rattle.iptables_reader.specs.Reading.{OptionRead, PassedOver, with_options, with_option, with_given, first_reading, finished}
use Rattle.iptables_reader.specs.Stops.{◌>>=◌}
use Rattle.iptables_reader.specs.Tables.{match_table, option_in, target_table}
use Rattle.iptables_reader.specs.Joined as joined
use Rattle.iptables_reader.specs.Joined.{IsNegation, IsName, IsSkipped, IsOption, AreOptions, AreWords, WordsLeft}
use Rattle.iptables_reader.specs.Joined.{after_part, after_parts, after_quotes}

-- ---- words that decide nothing

-- so many words are left
abbrev left : ℕ → Bool → Option WordsLeft
left count quoted = Some (record { count = count; quoted = quoted })

-- parts, of which some stand before others
parts_append : (from : Option WordsLeft) (parts more : List (List ℕ)) →
    after_parts from (parts ++ more) ≡ after_parts (after_parts from parts) more
parts_append from [] more = refl
parts_append from (part ∷ parts) more = parts_append (option_and_then (after_part part) from) parts more

-- words begin with parts that are a word, whose quotes may be open
record IsCut (quoted : Bool) (words rest : List (List ℕ)) : Type 0 where
  pub parts : List (List ℕ)
  pub joined : words ≡ parts ++ rest
  pub read : (count : ℕ) → (count == 0) ≡ false → after_parts (left count quoted) parts ≡ left (count - 1) false

-- a part that ends a word
ended : (quoted : Bool) (part : List ℕ) (words rest : List (List ℕ)) →
    (if quoted then quotes_after false part else first_quotes part) ≡ quotes.Closed → words ≡ rest →
    IsCut quoted (part ∷ words) rest
ended quoted part words rest closed same = record {
  parts = part ∷ [];
  joined = ap (λ ws. part ∷ ws) same;
  read = λ count some.
      cond-false (count == 0) None
      (after_quotes count (if quoted then quotes_after false part else first_quotes part)) some
      ∙ ap (after_quotes count) closed;
}

-- a part after which its quotes are open
opened : (quoted : Bool) (part : List ℕ) (words rest : List (List ℕ)) →
    (if quoted then quotes_after false part else first_quotes part) ≡ quotes.Open → IsCut true words rest →
    IsCut quoted (part ∷ words) rest
opened quoted part words rest unended more = record {
  parts = part ∷ more.parts;
  joined = ap (λ ws. part ∷ ws) more.joined;
  read = λ count some.
      ap (λ from. after_parts from more.parts)
      (cond-false (count == 0) None
      (after_quotes count (if quoted then quotes_after false part else first_quotes part)) some
      ∙ ap (after_quotes count) unended) ∙ more.read count some;
}

-- one part, by its quotes
one_part : (quoted : Bool) (part : List ℕ) (words rest : List (List ℕ)) (found : Quotes) →
    (if quoted then quotes_after false part else first_quotes part) ≡ found →
    (after_open words ≡ Ok rest → IsCut true words rest) →
    by_quotes found words (after_open words) ≡ Ok rest → IsCut quoted (part ∷ words) rest
one_part quoted part words rest quotes.Closed found more is = ended quoted part words rest found cc
one_part quoted part words rest quotes.Open found more is = opened quoted part words rest found (more is)
one_part quoted part words rest quotes.Broken found more is = absurd cc

-- after open quotes
open_cut : (words rest : List (List ℕ)) → after_open words ≡ Ok rest → IsCut true words rest
open_cut [] rest is = absurd cc
open_cut (part ∷ parts) rest is =
    one_part true part parts rest (quotes_after false part) refl (open_cut parts rest) is

-- a word
word_cut : (words rest : List (List ℕ)) → after_word words ≡ Ok rest → IsCut false words rest
word_cut [] rest is = absurd cc
word_cut (part ∷ parts) rest is =
    one_part false part parts rest (first_quotes part) refl (open_cut parts rest) is

-- words begin with so many
record AreCut (count : ℕ) (words rest : List (List ℕ)) : Type 0 where
  pub parts : List (List ℕ)
  pub joined : words ≡ parts ++ rest
  pub read : AreWords count parts

-- a number above another isn't 0
not_zero : (count : ℕ) → (suc count == 0) ≡ false
not_zero count =
    elim (cases_Bool (suc count == 0)) [
      | inl none ↦ absurd (let e = eqb-true (suc count) 0 none in omega (arith, e))
      | inr some ↦ some
    ]

-- so many words were passed over
words_cut : (count : ℕ) (words rest : List (List ℕ)) → after_words count words ≡ Ok rest → AreCut count words rest
words_cut zero words rest is = record { parts = []; joined = cc; read = refl }
words_cut (suc count) words rest is = by (λ middle. words_cut count middle rest) (after_word words) refl is
  where
    by : ((middle : List (List ℕ)) → after_words count middle ≡ Ok rest → AreCut count middle rest) →
        (found : Result (List (List ℕ)) LineKind) → after_word words ≡ found →
        (found >>= after_words count) ≡ Ok rest → AreCut (suc count) words rest
    by on (Err kind) made is = absurd cc
    by on (Ok middle) made is =
        let one = word_cut words middle made in
        let others = on middle is in
        let less : suc count - 1 ≡ count = omega arith in
        record {
          parts = one.parts ++ others.parts;
          joined = one.joined ∙ ap (λ ws. one.parts ++ ws) others.joined
              ∙ sym (append_assoc one.parts others.parts rest);
          read = parts_append (left (suc count) false) one.parts others.parts
              ∙ ap (λ from. after_parts from others.parts)
              (one.read (suc count) (not_zero count) ∙ ap (λ n. left n false) less) ∙ others.read;
        }

-- ---- an option

-- words begin with a whole option
pub record Took (words rest : List (List ℕ)) : Type 0 where
  pub option : List (List ℕ)
  pub whole : IsOption option
  pub joined : words ≡ option ++ rest

-- what isn't at fault is said
not_faulty : {A : Type 0} (faulty : Bool) (kind : LineKind) (said : Result A LineKind) {made : A} →
    unless faulty kind said ≡ Ok made → said ≡ Ok made
not_faulty true kind said is = absurd cc
not_faulty false kind said is = is

-- a name and words that decide nothing
skipped : (negation : List (List ℕ)) (name : List ℕ) (count : ℕ) (words rest : List (List ℕ)) → IsNegation negation →
    IsSkipped name count → after_words count words ≡ Ok rest → Took (negation ++ name ∷ words) rest
skipped negation name count words rest bang is_skipped is =
    let cut = words_cut count words rest is in
    record {
      option = negation ++ name ∷ cut.parts;
      whole = joined.Skipped negation name count cut.parts bang is_skipped cut.read refl;
      joined = ap (λ ws. negation ++ name ∷ ws) cut.joined ∙ sym (append_assoc negation (name ∷ cut.parts) rest);
    }

-- an option that is read
said_took : (setting : RuleSetting) (negated : Bool) (r : Reading) (negation : List (List ℕ)) (name : List ℕ)
    (row : Row) (said : Option RuleOption) (words : List (List ℕ)) (read : OptionRead) → IsNegation negation →
    IsName name row → row.0 ≡ said → reading.with_said setting negated r said words ≡ Ok read →
    Took (negation ++ name ∷ words) read.words
said_took setting negated r negation name row None words read bang named same is = by (after_words 1 words) refl is
  where
    by : (found : Result (List (List ℕ)) LineKind) → after_words 1 words ≡ found →
        (found >>= λ rest. Ok (record { reading = r; words = rest })) ≡ Ok read →
        Took (negation ++ name ∷ words) read.words
    by (Err kind) made is = absurd cc
    by (Ok rest) made is =
        let whole : record { reading = r; words = rest } ≡ read = cc in
        subst (Took (negation ++ name ∷ words)) (ap (λ (it : OptionRead). it.words) whole)
        (skipped negation name 1 words rest bang (joined.Comment row named same refl) made)
said_took setting negated r negation name row (Some it) [] read bang named same is = absurd cc
said_took setting negated r negation name row (Some it) (word ∷ words) read bang named same is =
    by (with_value setting r it (record { negated = negated; word = word })) is
  where
    by : (found : Result Reading LineKind) →
        (found >>= λ made. Ok (record { reading = made; words = words })) ≡ Ok read →
        Took (negation ++ name ∷ word ∷ words) read.words
    by (Err kind) is = absurd cc
    by (Ok made) is =
        let whole : record { reading = made; words = words } ≡ read = cc in
        subst (Took (negation ++ name ∷ word ∷ words)) (ap (λ (it : OptionRead). it.words) whole)
        (record {
          option = negation ++ name ∷ word ∷ [];
          whole = joined.Value negation name word row it bang named same refl;
          joined = sym (append_assoc negation (name ∷ word ∷ []) words);
        })

-- an option of a table
passed_took : (r : Reading) (negation : List (List ℕ)) (name : List ℕ) (words : List (List ℕ)) (read : OptionRead)
    (found : Result PassedOver LineKind) → IsNegation negation →
    ((passed : PassedOver) → found ≡ Ok passed → IsSkipped name passed.count) →
    (found >>= λ passed. after_words passed.count words >>= λ rest.
    Ok (record { reading = passed.reading; words = rest })) ≡ Ok read →
    Took (negation ++ name ∷ words) read.words
passed_took r negation name words read (Err kind) bang listed is = absurd cc
passed_took r negation name words read (Ok passed) bang listed is = by (after_words passed.count words) refl is
  where
    by : (found : Result (List (List ℕ)) LineKind) → after_words passed.count words ≡ found →
        (found >>= λ rest. Ok (record { reading = passed.reading; words = rest })) ≡ Ok read →
        Took (negation ++ name ∷ words) read.words
    by (Err kind) made is = absurd cc
    by (Ok rest) made is =
        let whole : record { reading = passed.reading; words = rest } ≡ read = cc in
        subst (Took (negation ++ name ∷ words)) (ap (λ (it : OptionRead). it.words) whole)
        (skipped negation name passed.count words rest bang (listed passed refl) made)

-- a row of a table
row_listed : (name : List ℕ) (row : Option Listed) (table : ℕ → Rows) (r : Reading) (passed : PassedOver) →
    ((found : Listed) → row ≡ Some found → IsSkipped name found.count) →
    reading.passed_row row table r ≡ Ok passed → IsSkipped name passed.count
row_listed name None table r passed listed is = absurd cc
row_listed name (Some found) table r passed listed is =
    let whole : record { count = found.count; reading = record r { rows = table found.after } } ≡ passed = cc in
    subst (IsSkipped name) (ap (λ (it : PassedOver). it.count) whole) (listed found refl)

-- it is an option that so many words follow
is_listed : (which : Rows) (negated : Bool) (r : Reading) (name : List ℕ) (passed : PassedOver) →
    reading.passed_by which negated r name ≡ Ok passed → IsSkipped name passed.count
is_listed rows.Nothing negated r name passed is = absurd cc
is_listed (rows.Match place) negated r name passed is =
    row_listed name (option_in name place match_table) rows.Match (with_cause CantSay r) passed
    (λ found there. joined.OfMatch place found there refl) is
is_listed (rows.Target place) negated r name passed is =
    row_listed name (option_in name place target_table) rows.Target r passed
    (λ found there. joined.OfTarget place found there refl)
    (not_faulty negated BadNegation
    (reading.passed_row (option_in name place target_table) rows.Target r) is)

-- an option that is found is named
is_named : (kind : Option Match) (own : Bool) (name : List ℕ) (row : Row) →
    first_of (reading.option_of_kind kind name) (if own then None else any_option name) ≡ Some row →
    IsName name row
is_named None true name row is = absurd cc
is_named None false name row is = joined.Any is
is_named (Some kind) own name row is = by (own_option kind name) refl is
  where
    any : (own : Bool) → (if own then None else any_option name) ≡ Some row → IsName name row
    any true is = absurd cc
    any false is = joined.Any is

    by : (found : Option Row) → own_option kind name ≡ found →
        first_of found (if own then None else any_option name) ≡ Some row → IsName name row
    by (Some one) named is = joined.Own kind (named ∙ is)
    by None named is = any own is

-- an option by its name
named_took : (setting : RuleSetting) (negated : Bool) (r : Reading) (negation : List (List ℕ)) (name : List ℕ)
    (words : List (List ℕ)) (read : OptionRead) → IsNegation negation →
    reading.with_named setting negated r name words ≡ Ok read → Took (negation ++ name ∷ words) read.words
named_took setting negated r negation name words read bang is = by (reading.option_named r name) refl is
  where
    by : (found : Option Row) → reading.option_named r name ≡ found →
        reading.with_found setting negated r name words found ≡ Ok read → Took (negation ++ name ∷ words) read.words
    by (Some row) made is =
        said_took setting negated (with_given row.1 r) negation name row row.0 words read bang
        (is_named r.kind r.own name row made) refl
        (not_faulty (not (bit_and r.given row.1 == 0)) OptionTwice
        (reading.with_said setting negated (with_given row.1 r) row.0 words)
        (not_faulty (negated && not row.2) BadNegation
        (unless (not (bit_and r.given row.1 == 0)) OptionTwice
        (reading.with_said setting negated (with_given row.1 r) row.0 words)) is))
    by None made is =
        passed_took r negation name words read (reading.passed_over negated r name) bang
        (λ passed. is_listed r.rows negated (record r { own = false }) name passed) is

-- the words of an option, and those after it
pub option_took : (setting : RuleSetting) (r : Reading) (word : List ℕ) (words : List (List ℕ)) (read : OptionRead) →
    with_option setting r word words ≡ Ok read → Took (word ∷ words) read.words
option_took setting r word words read is =
    elim (cases_Bool (bytes_eq word (codes "!"))) [
      | inl bang ↦ negated words bang (sym (cond-true (bytes_eq word (codes "!")) _ _ bang) ∙ is)
      | inr name ↦
          named_took setting false r [] word words read (joined.Plain refl)
          (sym (cond-false (bytes_eq word (codes "!")) _ _ name) ∙ is)
    ]
  where
    negated : (words : List (List ℕ)) → bytes_eq word (codes "!") ≡ true →
        reading.with_negated setting r words ≡ Ok read → Took (word ∷ words) read.words
    negated [] bang is = absurd cc
    negated (name ∷ words) bang is =
        named_took setting true r (word ∷ []) name words read (joined.Negated word bang refl)
        (not_faulty (bytes_eq name (codes "!")) BadNegation (reading.with_named setting true r name words) is)

-- ---- all options

-- an option has a word at least
pub has_word : {words rest : List (List ℕ)} → Took words rest → length rest < length words
has_word {rest = rest} took =
    let long = some took.whole in
    omega (arith, long, ap length took.joined, length-append took.option rest)
  where
    longer : (negation : List (List ℕ)) (name : List ℕ) (words : List (List ℕ)) → 1 ≤ length (negation ++ name ∷ words)
    longer negation name words = omega (arith, length-append negation (name ∷ words))

    some : {option : List (List ℕ)} → IsOption option → 1 ≤ length option
    some (joined.Value negation name value row it bang named same is) =
        subst (λ ws. 1 ≤ length ws) (sym is) (longer negation name (value ∷ []))
    some (joined.Skipped negation name count parts bang passed are is) =
        subst (λ ws. 1 ≤ length ws) (sym is) (longer negation name parts)

-- nothing is made of no words
none_left : (bound : List (List ℕ)) (setting : RuleSetting) (r : Reading) → with_options bound setting r [] ≡ Ok r
none_left [] setting r = refl
none_left (one ∷ more) setting r = refl

-- any list bounds the options that has as many words as are left
pub enough : (one other : List (List ℕ)) (setting : RuleSetting) (r : Reading) (words : List (List ℕ)) →
    length words ≤ length one → length words ≤ length other →
    with_options one setting r words ≡ with_options other setting r words
enough one other setting r [] first second = none_left one setting r ∙ sym (none_left other setting r)
enough [] other setting r (word ∷ words) first second = absurd (omega (arith, first))
enough (x ∷ one) [] setting r (word ∷ words) first second = absurd (omega (arith, second))
enough (x ∷ one) (y ∷ other) setting r (word ∷ words) first second =
    by (λ next left. enough one other setting next left) (with_option setting r word words) refl
  where
    by : ((next : Reading) (left : List (List ℕ)) → length left ≤ length one → length left ≤ length other →
        with_options one setting next left ≡ with_options other setting next left) →
        (found : Result OptionRead LineKind) → with_option setting r word words ≡ found →
        (found >>= λ read. with_options one setting read.reading read.words)
        ≡ (found >>= λ read. with_options other setting read.reading read.words)
    by on (Err kind) made = refl
    by on (Ok read) made =
        let shorter = has_word (option_took setting r word words read made) in
        on read.reading read.words (omega (arith, shorter, first)) (omega (arith, shorter, second))

-- an option, and what the words after it make
pub option_then : (setting : RuleSetting) (r : Reading) (word : List ℕ) (words : List (List ℕ)) →
    with_options (word ∷ words) setting r (word ∷ words)
    ≡ (with_option setting r word words >>= λ read. with_options read.words setting read.reading read.words)
option_then setting r word words = by (with_option setting r word words) refl
  where
    by : (found : Result OptionRead LineKind) → with_option setting r word words ≡ found →
        (found >>= λ read. with_options words setting read.reading read.words)
        ≡ (found >>= λ read. with_options read.words setting read.reading read.words)
    by (Err kind) made = refl
    by (Ok read) made =
        let shorter = has_word (option_took setting r word words read made) in
        enough words read.words setting read.reading read.words (omega (arith, shorter)) (omega arith)

-- an option before others
one_more : {words rest : List (List ℕ)} → Took words rest → AreOptions rest → AreOptions words
one_more took others = record {
  parts = took.option ∷ others.parts;
  whole = (took.whole, others.whole);
  joined = ap (λ ws. took.option ++ ws) others.joined ∙ sym took.joined;
}

-- words that are read are options
are_options : (bound : List (List ℕ)) (setting : RuleSetting) (r done : Reading) (words : List (List ℕ)) →
    length words ≤ length bound → with_options bound setting r words ≡ Ok done → AreOptions words
are_options bound setting r done [] long is = record { parts = []; whole = tt; joined = refl }
are_options [] setting r done (word ∷ words) long is = absurd (omega (arith, long))
are_options (one ∷ more) setting r done (word ∷ words) long is =
    by (λ next left. are_options more setting next done left) (with_option setting r word words) refl is
  where
    by : ((next : Reading) (left : List (List ℕ)) → length left ≤ length more →
        with_options more setting next left ≡ Ok done → AreOptions left) →
        (found : Result OptionRead LineKind) → with_option setting r word words ≡ found →
        (found >>= λ read. with_options more setting read.reading read.words) ≡ Ok done → AreOptions (word ∷ words)
    by on (Err kind) made is = absurd cc
    by on (Ok read) made is =
        let took = option_took setting r word words read made in
        let shorter = has_word took in
        one_more took (on read.reading read.words (omega (arith, shorter, long)) is)

-- the words of a rule that is read are options, one after the other
pub read_words_are_options : joined.ReadWordsAreOptions
read_words_are_options setting words found is =
    by (with_options words setting (first_reading setting.family) words) refl is
  where
    by : (made : Result Reading LineKind) → with_options words setting (first_reading setting.family) words ≡ made →
        (made >>= finished) ≡ Ok found → AreOptions words
    by (Err kind) made is = absurd cc
    by (Ok done) made is =
        are_options words setting (first_reading setting.family) done words (omega arith) made
