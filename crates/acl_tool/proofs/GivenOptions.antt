-- The options of a command are what the first words say that begin so.
use Rattle.std.proofs.Common.{◌≡◌, ℕ, ◌+◌, List, [], ◌∷◌, Bool, true, false, Option, Some, None, Result}
use Rattle.std.proofs.Common.{Ok, Err, refl, sym, ap, ◌∙◌, length}
use Rattle.std.specs.Prelude.{codes, nat_le, ◌^◌, ◌-◌, ◌&&◌, if◌then◌else◌}
use Rattle.rule_set.specs.Categories.{is_count_of_categories}
use Rattle.std.specs.Option.{option_map_or, unwrap_or}
use Rattle.std.specs.Str.{bytes_eq}
use Rattle.std.proofs.lemmas.Bool.{false≢true}
use Rattle.text_scan.specs.Digits.{are_digits, place_value}
use Rattle.flat_table.specs.declared.walk.Walk.{Walk}
use Rattle.command_words.specs.declared.allowed.Allowed.{Allowed}
use Rattle.command_words.specs.declared.usage_fault.UsageKind.{UsageKind}
use Rattle.command_words.specs.declared.usage_fault.UsageKind.TheVariants.{UnknownOption}
use Rattle.command_words.specs.Options.{Options, Given, settled_options, with_option, once, adds, begins_with, value_of}
use Rattle.command_words.specs.Options.{usual_words, categories_in, walk_in, budget_in, choice_in, number_in, lawful}
use Rattle.command_words.specs.Options.{none_given, is_budget, max_digits}
use Rattle.command_words.specs.Options.{categories_option, walk_option, max_words_option, stats_option, marks_option}
use Rattle.command_words.specs.Command.{options_from, option_then}
use Rattle.acl_tool.proofs.OptionNames.{meet, no_two_names}
use Rattle.acl_tool.specs.GivenOptions.{value_given, categories_shown, is_on}
use Rattle.acl_tool.specs.GivenBudget.{budget_given}

-- a value was taken: it is the first, and lawful
once-taken : {A : Type 0} (before value : Option A) (f : A → Given) (next : Given) →
    adds f (once before value) ≡ Ok next → (before ≡ None) × (v : A) × (value ≡ Some v) × (next ≡ f v)
once-taken (Some old) value f next is = absurd (cc)
once-taken None None f next is = absurd (cc)
once-taken None (Some v) f next is = (refl, v, refl, cc)

-- the number of categories that is taken is the number that the text spells
lawful-number : (test : ℕ → Bool) (number : Option ℕ) (n : ℕ) → lawful test number ≡ Some n → number ≡ Some n
lawful-number test None n is = absurd (cc)
lawful-number test (Some m) n is = go (test m) is
  where
    go : (passed : Bool) → (if passed then Some m else None) ≡ Some n → Some m ≡ Some n
    go true e = e
    go false e = absurd (cc)

-- a number that was read of a text is the one that it spells in decimal
spelled : (text : List ℕ) (n : ℕ) → number_in text ≡ Some n → n ≡ place_value 10 text
spelled text n is =
    go
    (nat_le (length text) max_digits
    && (nat_le 1 (length text) && are_digits 10 text && nat_le (place_value 10 text) (2 ^ 64 - 1))) is
  where
    go : (passed : Bool) → (if passed then Some (place_value 10 text) else None) ≡ Some n → n ≡ place_value 10 text
    go true e = cc
    go false e = absurd (cc)

-- and so is the number of categories
categories-spelled : (text : List ℕ) (n : ℕ) → categories_in text ≡ Some n → n ≡ place_value 10 text
categories-spelled text n is =
    spelled text n (lawful-number is_count_of_categories (number_in text) n is)

-- and so is the budget
budget-spelled : (text : List ℕ) (n : ℕ) → budget_in text ≡ Some n → n ≡ place_value 10 text
budget-spelled text n is = spelled text n (lawful-number is_budget (number_in text) n is)

-- a choice that is taken is on exactly where the text is `on`
choice-spelled : (text : List ℕ) (chosen : Bool) → choice_in text ≡ Some chosen →
    chosen ≡ bytes_eq text (codes "on")
choice-spelled text chosen is = go (bytes_eq text (codes "on")) (bytes_eq text (codes "off")) is
  where
    go : (on off : Bool) → (if on then Some true else if off then Some false else None) ≡ Some chosen → chosen ≡ on
    go true off e = cc
    go false true e = cc
    go false false e = absurd (cc)

-- What a lawful word is: one of the five options, given for the first time with a lawful value.
data AddsOption (given next : Given) (word : List ℕ) : Type 0 where
  TakesCategories : (v : ℕ) → begins_with categories_option word ≡ true → given.categories ≡ None →
      categories_in (value_of categories_option word) ≡ Some v → next ≡ record given { categories = Some v } →
      AddsOption given next word
  TakesWalk : (v : Walk) → begins_with walk_option word ≡ true → next ≡ record given { walk = Some v } →
      AddsOption given next word
  TakesWords : (v : ℕ) → begins_with max_words_option word ≡ true → given.max_words ≡ None →
      budget_in (value_of max_words_option word) ≡ Some v → next ≡ record given { max_words = Some v } →
      AddsOption given next word
  TakesStats : (v : Bool) → begins_with stats_option word ≡ true → given.stats ≡ None →
      choice_in (value_of stats_option word) ≡ Some v → next ≡ record given { stats = Some v } →
      AddsOption given next word
  TakesMarks : (v : Bool) → begins_with marks_option word ≡ true → given.marks ≡ None →
      choice_in (value_of marks_option word) ≡ Some v → next ≡ record given { marks = Some v } →
      AddsOption given next word

-- the second of two tests that pass
second_passes : (one two : Bool) → (one && two) ≡ true → two ≡ true
second_passes true two is = is
second_passes false two is = absurd (false≢true is)

-- a word that was taken is one of the five options with a lawful value
adds_option : (allowed : Allowed) (given next : Given) (word : List ℕ) → with_option allowed given word ≡ Ok next →
    AddsOption given next word
adds_option allowed given next word is =
    go (allowed.categories && begins_with categories_option word) (allowed.walk && begins_with walk_option word)
    (allowed.max_words && begins_with max_words_option word) (allowed.stats && begins_with stats_option word)
    (allowed.marks && begins_with marks_option word) refl refl refl refl refl is
  where
    go : (c w m s k : Bool) → (allowed.categories && begins_with categories_option word) ≡ c →
        (allowed.walk && begins_with walk_option word) ≡ w →
        (allowed.max_words && begins_with max_words_option word) ≡ m →
        (allowed.stats && begins_with stats_option word) ≡ s → (allowed.marks && begins_with marks_option word) ≡ k →
        (if c then adds (λ count. record given { categories = Some count })
        (once given.categories (categories_in (value_of categories_option word)))
        else if w then adds (λ walk. record given { walk = Some walk })
        (once given.walk (walk_in (value_of walk_option word)))
        else if m then adds (λ words. record given { max_words = Some words })
        (once given.max_words (budget_in (value_of max_words_option word)))
        else if s then adds (λ chosen. record given { stats = Some chosen })
        (once given.stats (choice_in (value_of stats_option word)))
        else if k then adds (λ chosen. record given { marks = Some chosen })
        (once given.marks (choice_in (value_of marks_option word)))
        else Err UnknownOption) ≡ Ok next → AddsOption given next word
    go true w m s k at_c at_w at_m at_s at_k e =
        let (first, v, lawful_is, at) = once-taken given.categories (categories_in (value_of categories_option word))
        (λ count. record given { categories = Some count }) next e in
        TakesCategories v (second_passes allowed.categories _ at_c) first lawful_is at
    go false true m s k at_c at_w at_m at_s at_k e =
        let (first, v, lawful_is, at) = once-taken given.walk (walk_in (value_of walk_option word))
        (λ walk. record given { walk = Some walk }) next e in
        TakesWalk v (second_passes allowed.walk _ at_w) at
    go false false true s k at_c at_w at_m at_s at_k e =
        let (first, v, lawful_is, at) = once-taken given.max_words (budget_in (value_of max_words_option word))
        (λ words. record given { max_words = Some words }) next e in
        TakesWords v (second_passes allowed.max_words _ at_m) first lawful_is at
    go false false false true k at_c at_w at_m at_s at_k e =
        let (first, v, lawful_is, at) = once-taken given.stats (choice_in (value_of stats_option word))
        (λ chosen. record given { stats = Some chosen }) next e in
        TakesStats v (second_passes allowed.stats _ at_s) first lawful_is at
    go false false false false true at_c at_w at_m at_s at_k e =
        let (first, v, lawful_is, at) = once-taken given.marks (choice_in (value_of marks_option word))
        (λ chosen. record given { marks = Some chosen }) next e in
        TakesMarks v (second_passes allowed.marks _ at_k) first lawful_is at
    go false false false false false at_c at_w at_m at_s at_k e = absurd (cc)

-- What an option is: its name, what its text says, what it is where no word gives it, and where it is kept.
record KeptOption (A : Type 0) : Type 0 where
  name : List ℕ
  parse : List ℕ → A
  usual : A
  seen : Given → Option A

-- how many categories are shown
abbrev categories_kept : KeptOption ℕ
categories_kept = record { name = categories_option; parse = place_value 10; usual = 1; seen = λ g. g.categories }

-- how many words the tables may have
abbrev max_words_kept : KeptOption ℕ
max_words_kept =
    record { name = max_words_option; parse = place_value 10; usual = usual_words; seen = λ g. g.max_words }

-- whether the sizes of the tables are told
abbrev stats_kept : KeptOption Bool
stats_kept =
    record { name = stats_option; parse = λ value. bytes_eq value (codes "on"); usual = false; seen = λ g. g.stats }

-- whether what no rule matches is marked
abbrev marks_kept : KeptOption Bool
marks_kept =
    record { name = marks_option; parse = λ value. bytes_eq value (codes "on"); usual = false; seen = λ g. g.marks }

-- a word says a value to an option, or says nothing to it
record Says {A : Type 0} (option : KeptOption A) (given next : Given) (word : List ℕ) : Type 0 where
  new : begins_with option.name word ≡ true → option.seen next ≡ Some (option.parse (value_of option.name word))
  first : begins_with option.name word ≡ true → option.seen given ≡ None
  same : begins_with option.name word ≡ false → option.seen next ≡ option.seen given

-- a word that gives an option its value
says_own : {A : Type 0} {option : KeptOption A} {given next : Given} {word : List ℕ} (v : A) →
    begins_with option.name word ≡ true → option.seen given ≡ None → option.seen next ≡ Some v →
    v ≡ option.parse (value_of option.name word) → Says option given next word
says_own v begins first at is = record {
  new = λ b. at ∙ ap Some is;
  first = λ b. first;
  same = λ b. absurd (false≢true (sym b ∙ begins));
}

-- a word that begins with the name of another option says nothing to it
says_other : {A : Type 0} {option : KeptOption A} {given next changed : Given} {word : List ℕ} (other : List ℕ) →
    meet other option.name ≡ false → begins_with other word ≡ true → next ≡ changed →
    option.seen changed ≡ option.seen given → Says option given next word
says_other {option = option} {word = word} other apart begins at same = record {
  new = λ also. absurd (no_two_names other option.name word apart begins also);
  first = λ also. absurd (no_two_names other option.name word apart begins also);
  same = λ also. ap option.seen at ∙ same;
}

-- what a lawful word says of each of them
says_categories : {given next : Given} {word : List ℕ} → AddsOption given next word →
    Says categories_kept given next word
says_categories {word = word} (TakesCategories v begins first is at) =
    says_own v begins first (ap categories_kept.seen at) (categories-spelled (value_of categories_option word) v is)
says_categories (TakesWalk v begins at) = says_other walk_option refl begins at refl
says_categories (TakesWords v begins first is at) = says_other max_words_option refl begins at refl
says_categories (TakesStats v begins first is at) = says_other stats_option refl begins at refl
says_categories (TakesMarks v begins first is at) = says_other marks_option refl begins at refl

-- a word that adds an option says a value to `max_words=` or nothing
says_max_words : {given next : Given} {word : List ℕ} → AddsOption given next word → Says max_words_kept given next word
says_max_words (TakesCategories v begins first is at) = says_other categories_option refl begins at refl
says_max_words (TakesWalk v begins at) = says_other walk_option refl begins at refl
says_max_words {word = word} (TakesWords v begins first is at) =
    says_own v begins first (ap max_words_kept.seen at) (budget-spelled (value_of max_words_option word) v is)
says_max_words (TakesStats v begins first is at) = says_other stats_option refl begins at refl
says_max_words (TakesMarks v begins first is at) = says_other marks_option refl begins at refl

-- a word that adds an option says a value to `stats=` or nothing
says_stats : {given next : Given} {word : List ℕ} → AddsOption given next word → Says stats_kept given next word
says_stats (TakesCategories v begins first is at) = says_other categories_option refl begins at refl
says_stats (TakesWalk v begins at) = says_other walk_option refl begins at refl
says_stats (TakesWords v begins first is at) = says_other max_words_option refl begins at refl
says_stats {word = word} (TakesStats v begins first is at) =
    says_own v begins first (ap stats_kept.seen at) (choice-spelled (value_of stats_option word) v is)
says_stats (TakesMarks v begins first is at) = says_other marks_option refl begins at refl

-- a word that adds an option says a value to `marks=` or nothing
says_marks : {given next : Given} {word : List ℕ} → AddsOption given next word → Says marks_kept given next word
says_marks (TakesCategories v begins first is at) = says_other categories_option refl begins at refl
says_marks (TakesWalk v begins at) = says_other walk_option refl begins at refl
says_marks (TakesWords v begins first is at) = says_other max_words_option refl begins at refl
says_marks (TakesStats v begins first is at) = says_other stats_option refl begins at refl
says_marks {word = word} (TakesMarks v begins first is at) =
    says_own v begins first (ap marks_kept.seen at) (choice-spelled (value_of marks_option word) v is)

-- the words give options one after the other, and this is what was given then
abbrev AddsOptions : Given → List (List ℕ) → Given → Type 0
AddsOptions given [] last = last ≡ given
AddsOptions given (word ∷ words) last = (next : Given) × AddsOption given next word × AddsOptions next words last

-- options that are read are those of what was given last
adds_options : (allowed : Allowed) (number : ℕ) (given : Given) (words : List (List ℕ)) (options : Options) →
    options_from allowed number given words ≡ Ok options →
    (last : Given) × (options ≡ settled_options last) × AddsOptions given words last
adds_options allowed number given [] options is = (given, cc, refl)
adds_options allowed number given (word ∷ words) options is =
    go (with_option allowed given word) refl is
    (λ next rest. adds_options allowed (number + 1) next words options rest)
  where
    go : (step : Result Given UsageKind) → with_option allowed given word ≡ step →
        option_then number step (λ next. options_from allowed (number + 1) next words) ≡ Ok options →
        ((next : Given) → options_from allowed (number + 1) next words ≡ Ok options →
        (last : Given) × (options ≡ settled_options last) × AddsOptions next words last) →
        (last : Given) × (options ≡ settled_options last) × AddsOptions given (word ∷ words) last
    go (Ok next) at rest later =
        let (last, settled, gives) = later next rest in
        (last, settled, (next, adds_option allowed given next word at, gives))
    go (Err kind) at rest later = absurd (cc)

-- what an option is by what was given and the words that follow
abbrev value_after : {A : Type 0} → KeptOption A → Given → List (List ℕ) → A
value_after option given words =
    unwrap_or (option.seen given) (option_map_or option.parse (value_given option.name words) option.usual)

-- what was given last says of an option what all words say
said : {A : Type 0} (option : KeptOption A) →
    ((given next : Given) (word : List ℕ) → AddsOption given next word → Says option given next word) →
    (given last : Given) (words : List (List ℕ)) → AddsOptions given words last →
    value_after option last [] ≡ value_after option given words
said option says given last [] is = ap (λ (g : Given). value_after option g []) is
said option says given last (word ∷ words) (next, gives, rest) =
    one (says given next word gives) (said option says next last words rest) (begins_with option.name word) refl
  where
    one : Says option given next word → value_after option last [] ≡ value_after option next words →
        (begins : Bool) → begins_with option.name word ≡ begins →
        value_after option last [] ≡ value_after option given (word ∷ words)
    one add later true begins = rw (add.first begins, begins) (rw (add.new begins) at later)
    one add later false begins = rw begins (rw (add.same begins) at later)

-- What the options say, by the words alone.
pub record SaidBy (words : List (List ℕ)) (options : Options) : Type 0 where
  pub categories : options.categories ≡ categories_shown words
  pub max_words : options.max_words ≡ budget_given words
  pub stats : options.stats ≡ is_on (codes "stats=") words
  pub marks : options.marks ≡ is_on (codes "marks=") words

-- whichever options the command allows, and wherever they begin
pub options_said : (allowed : Allowed) (number : ℕ) (words : List (List ℕ)) (options : Options) →
    options_from allowed number none_given words ≡ Ok options → SaidBy words options
options_said allowed number words options is =
    let (last, settled, gives) = adds_options allowed number none_given words options is in
    rw settled (record {
      categories = said categories_kept (λ given next word. says_categories) none_given last words gives;
      max_words = said max_words_kept (λ given next word. says_max_words) none_given last words gives;
      stats = said stats_kept (λ given next word. says_stats) none_given last words gives;
      marks = said marks_kept (λ given next word. says_marks) none_given last words gives;
    })
