-- The options of a command and their values, as words say them.
use Rattle.std.specs.Prelude.{ℕ, ◌^◌, ◌-◌, List, [], ◌∷◌, length, drop, take, Bool, true, false, ◌&&◌}
use Rattle.std.specs.Prelude.{nat_le, Option, Some, None, Result, Ok, Err, codes, if◌then◌else◌}
use Rattle.std.specs.Option.{unwrap_or}
use Rattle.std.specs.Str.{bytes_eq}
use Rattle.rule_set.specs.Categories.{is_count_of_categories}
use Rattle.table_sizes.specs.Sizes.{max_words}
use Rattle.flat_table.specs.declared.walk.Walk.{Walk}
use Rattle.flat_table.specs.declared.walk.Walk.TheVariants.{Scalar, Lanes}
use Rattle.text_scan.specs.Digits.{are_digits, place_value}
use Rattle.command_words.specs.declared.allowed.Allowed.{Allowed}
use Rattle.command_words.specs.declared.usage_fault.UsageKind.{UsageKind}
use Rattle.command_words.specs.declared.usage_fault.UsageKind.TheVariants.{UnknownOption, RepeatedOption}
use Rattle.command_words.specs.declared.usage_fault.UsageKind.TheVariants.{BadValue}

-- the options of a command: how many categories are printed, which walk answers the keys, how many
-- words the table of each family may have, whether the sizes of the tables are printed, and whether
-- a dash marks where no rule matches
pub record Options : Type 0 where
  pub categories : ℕ
  pub walk : Walk
  pub max_words : ℕ
  pub stats : Bool
  pub marks : Bool

-- the values of the options that were given so far
pub record Given : Type 0 where
  pub categories : Option ℕ
  pub walk : Option Walk
  pub max_words : Option ℕ
  pub stats : Option Bool
  pub marks : Option Bool

-- no option was given yet
abbrev pub none_given : Given
none_given =
    record { categories = None; walk = None; max_words = None; stats = None; marks = None }

-- the budget where none is given: 16 MiB for each family
abbrev pub usual_words : ℕ
usual_words = 2097152

-- each option that wasn't given has its usual value
abbrev pub settled_options : Given → Options
settled_options given = record {
  categories = unwrap_or given.categories 1;
  walk = unwrap_or given.walk Scalar;
  max_words = unwrap_or given.max_words usual_words;
  stats = unwrap_or given.stats false;
  marks = unwrap_or given.marks false;
}

-- how many digits a number has at most
abbrev pub max_digits : ℕ
max_digits = 20

-- a number of decimal digits, at most 20 of them, below 2^64
abbrev pub number_in : List ℕ → Option ℕ
number_in text =
    if nat_le (length text) max_digits
    && (nat_le 1 (length text) && are_digits 10 text
    && nat_le (place_value 10 text) (2 ^ 64 - 1))
    then Some (place_value 10 text) else None

-- a number, where it passes the test
abbrev pub lawful : (ℕ → Bool) → Option ℕ → Option ℕ
lawful test None = None
lawful test (Some number) = if test number then Some number else None

-- the number of categories that a text is
abbrev pub categories_in : List ℕ → Option ℕ
categories_in text = lawful is_count_of_categories (number_in text)

-- a lawful budget: at most as many words as a table may have
abbrev pub is_budget : ℕ → Bool
is_budget words = nat_le 1 words && nat_le words max_words

-- the budget that a text is: a number of words
abbrev pub budget_in : List ℕ → Option ℕ
budget_in text = lawful is_budget (number_in text)

-- the walk that a text names
abbrev pub walk_in : List ℕ → Option Walk
walk_in text =
    if bytes_eq text (codes "scalar") then Some Scalar
    else if bytes_eq text (codes "lanes") then Some Lanes
    else None

-- a choice that is made by `on` or `off`
abbrev pub choice_in : List ℕ → Option Bool
choice_in text =
    if bytes_eq text (codes "on") then Some true
    else if bytes_eq text (codes "off") then Some false
    else None

-- the value of an option that wasn't given before, where it is lawful
abbrev pub once : {A : Type 0} → Option A → Option A → Result A UsageKind
once (Some before) value = Err RepeatedOption
once None None = Err BadValue
once None (Some value) = Ok value

-- what a value adds to the options, or its fault
abbrev pub adds : {A : Type 0} → (A → Given) → Result A UsageKind → Result Given UsageKind
adds with_value (Ok value) = Ok (with_value value)
adds with_value (Err kind) = Err kind

-- the word begins with this text
abbrev pub begins_with : List ℕ → List ℕ → Bool
begins_with text word = bytes_eq (take (length text) word) text

-- what stands after the name of an option and its `=`
abbrev pub value_of : List ℕ → List ℕ → List ℕ
value_of name word = drop (length name) word

-- the option that says how many categories are shown
abbrev pub categories_option : List ℕ
categories_option = codes "categories="

-- the option that says which walk answers the keys
abbrev pub walk_option : List ℕ
walk_option = codes "walk="

-- the option that says how many words the table of each family may have
abbrev pub max_words_option : List ℕ
max_words_option = codes "max-words="

-- the option that asks for the sizes of the tables and for the transitions
abbrev pub stats_option : List ℕ
stats_option = codes "stats="

-- the option that asks for dashes where no rule matches
abbrev pub marks_option : List ℕ
marks_option = codes "marks="

-- the options of `classify`: all that there are
abbrev pub for_classify : Allowed
for_classify =
    record { categories = true; walk = true; max_words = true; stats = true; marks = true }

-- the option of `build`
abbrev pub for_build : Allowed
for_build =
    record { categories = false; walk = false; max_words = true; stats = false; marks = false }

-- the options of `audit`
abbrev pub for_audit : Allowed
for_audit =
    record { categories = true; walk = false; max_words = true; stats = false; marks = false }

-- the option of `compare`, which is that of `build`
abbrev pub for_compare : Allowed
for_compare = for_build

-- `session` has no option
abbrev pub for_session : Allowed
for_session =
    record { categories = false; walk = false; max_words = false; stats = false; marks = false }

-- the options of `replay`, whose tables are made already
abbrev pub for_replay : Allowed
for_replay =
    record { categories = true; walk = true; max_words = false; stats = true; marks = true }

-- a row of the table of options: whether a command has it, its name, and what a value of it adds
pub record OptionRow : Type 0 where
  pub allowed : Bool
  pub name : List ℕ
  pub taken : List ℕ → Result Given UsageKind

-- what a word says by the first row that the command has and whose name the word begins with; a
-- word of no such row is unknown
abbrev pub said_by : List OptionRow → List ℕ → Result Given UsageKind
said_by [] word = Err UnknownOption
said_by (row ∷ rows) word =
    if row.allowed && begins_with row.name word then row.taken (value_of row.name word)
    else said_by rows word

-- the rows that switch something on or off
abbrev pub switches : Allowed → Given → List OptionRow
switches allowed given =
    record {
      allowed = allowed.stats;
      name = stats_option;
      taken = λ text. adds (λ chosen. record given { stats = Some chosen })
          (once given.stats (choice_in text));
    }
    ∷ record {
      allowed = allowed.marks;
      name = marks_option;
      taken = λ text. adds (λ chosen. record given { marks = Some chosen })
          (once given.marks (choice_in text));
    }
    ∷ []

-- the table of options
abbrev pub option_rows : Allowed → Given → List OptionRow
option_rows allowed given =
    record {
      allowed = allowed.categories;
      name = categories_option;
      taken = λ text. adds (λ count. record given { categories = Some count })
          (once given.categories (categories_in text));
    }
    ∷ record {
      allowed = allowed.walk;
      name = walk_option;
      taken = λ text. adds (λ walk. record given { walk = Some walk })
          (once given.walk (walk_in text));
    }
    ∷ record {
      allowed = allowed.max_words;
      name = max_words_option;
      taken = λ text. adds (λ words. record given { max_words = Some words })
          (once given.max_words (budget_in text));
    }
    ∷ switches allowed given

-- the options with one word more
abbrev pub with_option : Allowed → Given → List ℕ → Result Given UsageKind
with_option allowed given word = said_by (option_rows allowed given) word

-- the options with one word more that switches something on or off
abbrev pub with_switch : Allowed → Given → List ℕ → Result Given UsageKind
with_switch allowed given word = said_by (switches allowed given) word
