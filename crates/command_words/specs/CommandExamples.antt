-- Examples of commands and of usage faults, each checked by evaluation.
use Rattle.std.specs.Prelude.{◌≡◌, ℕ, List, [], ◌∷◌, ◌++◌, true, false, Some, None, Ok, Err, map}
use Rattle.std.specs.Prelude.{replicate, codes, refl}
use Rattle.command_words.specs.declared.usage_fault.UsageKind.TheVariants.{MissingCommand, UnknownCommand}
use Rattle.command_words.specs.declared.usage_fault.UsageKind.TheVariants.{MissingName, UnknownOption}
use Rattle.command_words.specs.declared.usage_fault.UsageKind.TheVariants.{RepeatedOption, BadValue}
use Rattle.command_words.specs.Options.{Options, none_given, settled_options, number_in, budget_in}
use Rattle.flat_table.specs.declared.walk.Walk.TheVariants.{Scalar, Lanes}
use Rattle.command_words.specs.Options.{walk_in, with_option}
use Rattle.command_words.specs.Options.{for_build}
use Rattle.command_words.specs.Command.{Audit, Build, Classify, Replay, command, fault_at}
use Rattle.command_words.specs.Command.{Compare, Session, options_from}

-- `classify r c` with these words after it
abbrev classify_with : List (List ℕ) → List (List ℕ)
classify_with options = codes "classify" ∷ codes "r" ∷ codes "c" ∷ options

-- the options where none is given
abbrev usual : Options
usual = settled_options none_given

no_words : command [] ≡ Err (fault_at 1 MissingCommand)
no_words = refl

another_verb : command (codes "Classify" ∷ []) ≡ Err (fault_at 1 UnknownCommand)
another_verb = refl

a_word_of_help : command (codes "--help" ∷ []) ≡ Err (fault_at 1 UnknownCommand)
a_word_of_help = refl

no_rules : command (codes "classify" ∷ []) ≡ Err (fault_at 2 MissingName)
no_rules = refl

no_capture : command (codes "classify" ∷ codes "r" ∷ []) ≡ Err (fault_at 3 MissingName)
no_capture = refl

-- any word may be a name
names_like_options : command (codes "classify" ∷ codes "categories=4" ∷ codes "" ∷ [])
    ≡ Ok (Classify (codes "categories=4") (codes "") (record usual { categories = 1 }))
names_like_options = refl

one_category : command (classify_with [])
    ≡ Ok (Classify (codes "r") (codes "c") (record usual { categories = 1 }))
one_category = refl

sixteen_categories : command (classify_with (codes "categories=016" ∷ []))
    ≡ Ok (Classify (codes "r") (codes "c") (record usual { categories = 16 }))
sixteen_categories = refl

two_categories : command (classify_with (codes "categories=2" ∷ [])) ≡ Err (fault_at 4 BadValue)
two_categories = refl

a_hexadecimal_value : command (classify_with (codes "categories=0x4" ∷ []))
    ≡ Err (fault_at 4 BadValue)
a_hexadecimal_value = refl

no_value : command (classify_with (codes "categories=" ∷ [])) ≡ Err (fault_at 4 BadValue)
no_value = refl

an_option_without_its_sign : command (classify_with (codes "categories" ∷ []))
    ≡ Err (fault_at 4 UnknownOption)
an_option_without_its_sign = refl

another_option : command (classify_with (codes "categories=4" ∷ codes "depth=1" ∷ []))
    ≡ Err (fault_at 5 UnknownOption)
another_option = refl

-- all options, in any order
all_options : command (classify_with
    (codes "marks=off" ∷ codes "max-words=15" ∷ codes "walk=lanes" ∷ codes "stats=on"
    ∷ codes "categories=4" ∷ []))
    ≡ Ok (Classify (codes "r") (codes "c")
    (record { categories = 4; walk = Lanes; max_words = 15; stats = true; marks = false }))
all_options = refl

-- a choice has two values, and each in one spelling
another_choice : command (classify_with (codes "stats=yes" ∷ [])) ≡ Err (fault_at 4 BadValue)
another_choice = refl

great_choice : command (classify_with (codes "marks=On" ∷ [])) ≡ Err (fault_at 4 BadValue)
great_choice = refl

no_choice : command (classify_with (codes "marks=" ∷ [])) ≡ Err (fault_at 4 BadValue)
no_choice = refl

-- a walk is named by one of two words
walks : map walk_in (codes "scalar" ∷ codes "lanes" ∷ codes "Lanes" ∷ codes "lane" ∷ codes "" ∷ [])
    ≡ Some Scalar ∷ Some Lanes ∷ None ∷ None ∷ None ∷ []
walks = refl

no_walk : command (classify_with (codes "walk=vector" ∷ [])) ≡ Err (fault_at 4 BadValue)
no_walk = refl

a_repeated_choice : command (classify_with (codes "stats=on" ∷ codes "stats=off" ∷ []))
    ≡ Err (fault_at 5 RepeatedOption)
a_repeated_choice = refl

-- an option that is repeated is so whatever its value
a_repeated_option : command (classify_with (codes "categories=4" ∷ codes "categories=x" ∷ []))
    ≡ Err (fault_at 5 RepeatedOption)
a_repeated_option = refl

-- the first fault from the left is told
two_faults : command (classify_with (codes "categories=x" ∷ codes "categories=4" ∷ []))
    ≡ Err (fault_at 4 BadValue)
two_faults = refl

-- `build r i` and `replay i c` with these words after them
abbrev build_with : List (List ℕ) → List (List ℕ)
build_with options = codes "build" ∷ codes "r" ∷ codes "i" ∷ options

abbrev replay_with : List (List ℕ) → List (List ℕ)
replay_with options = codes "replay" ∷ codes "i" ∷ codes "c" ∷ options

an_image : map command (build_with [] ∷ build_with (codes "max-words=15" ∷ []) ∷ [])
    ≡ Ok (Build (codes "r") (codes "i") 2097152) ∷ Ok (Build (codes "r") (codes "i") 15) ∷ []
an_image = refl

no_image : map command
    ((codes "build" ∷ []) ∷ (codes "build" ∷ codes "r" ∷ []) ∷ (codes "replay" ∷ []) ∷ [])
    ≡ Err (fault_at 2 MissingName) ∷ Err (fault_at 3 MissingName) ∷ Err (fault_at 2 MissingName)
    ∷ []
no_image = refl

a_replay : command (replay_with
    (codes "marks=on" ∷ codes "categories=8" ∷ codes "walk=lanes" ∷ codes "stats=on" ∷ []))
    ≡ Ok (Replay (codes "i") (codes "c")
    (record usual { categories = 8; walk = Lanes; stats = true; marks = true }))
a_replay = refl

-- to `build` every option but `max-words=` is unknown, whatever its value, and to `replay` that one
the_others : map (with_option for_build none_given)
    (codes "categories=4" ∷ codes "walk=lanes" ∷ codes "stats=on" ∷ codes "marks=x"
    ∷ codes "depth=1" ∷ [])
    ≡ Err UnknownOption ∷ Err UnknownOption ∷ Err UnknownOption ∷ Err UnknownOption
    ∷ Err UnknownOption ∷ []
the_others = refl

-- the options of `audit` begin at word 3
an_audit : map command ((codes "audit" ∷ []) ∷ (codes "audit" ∷ codes "r" ∷ [])
    ∷ (codes "audit" ∷ codes "r" ∷ codes "max-words=27" ∷ codes "categories=4" ∷ [])
    ∷ (codes "audit" ∷ codes "r" ∷ codes "stats=on" ∷ []) ∷ [])
    ≡ Err (fault_at 2 MissingName) ∷ Ok (Audit (codes "r") 1 2097152)
    ∷ Ok (Audit (codes "r") 4 27) ∷ Err (fault_at 3 UnknownOption) ∷ []
an_audit = refl

a_comparison : map command ((codes "compare" ∷ codes "r" ∷ [])
    ∷ (codes "compare" ∷ codes "r" ∷ codes "r" ∷ codes "max-words=16" ∷ [])
    ∷ (codes "compare" ∷ codes "r" ∷ codes "s" ∷ codes "categories=4" ∷ []) ∷ [])
    ≡ Err (fault_at 3 MissingName) ∷ Ok (Compare (codes "r") (codes "r") 16)
    ∷ Err (fault_at 4 UnknownOption) ∷ []
a_comparison = refl

-- `session` has no option
a_session : map command ((codes "session" ∷ []) ∷ (codes "session" ∷ codes "s" ∷ [])
    ∷ (codes "session" ∷ codes "s" ∷ codes "stats=on" ∷ []) ∷ [])
    ≡ Err (fault_at 2 MissingName) ∷ Ok (Session (codes "s"))
    ∷ Err (fault_at 3 UnknownOption) ∷ []
a_session = refl

a_budget : command (replay_with (codes "max-words=15" ∷ [])) ≡ Err (fault_at 4 UnknownOption)
a_budget = refl

-- unknown comes before repeated, and repeated before a bad value
another_after_it : options_from for_build 4 none_given
    (codes "max-words=15" ∷ codes "stats=on" ∷ codes "max-words=0" ∷ [])
    ≡ Err (fault_at 5 UnknownOption)
another_after_it = refl

it_again : command (build_with (codes "max-words=15" ∷ codes "max-words=0" ∷ []))
    ≡ Err (fault_at 5 RepeatedOption)
it_again = refl

budgets : map budget_in
    (codes "0" ∷ codes "1" ∷ codes "67108864" ∷ codes "67108865" ∷ codes "" ∷ codes "-1" ∷ [])
    ≡ None ∷ Some 1 ∷ Some 67108864 ∷ None ∷ None ∷ None ∷ []
budgets = refl

twenty_digits : number_in (replicate 18 48 ++ codes "12") ≡ Some 12
twenty_digits = refl

twenty_one_digits : number_in (replicate 19 48 ++ codes "12") ≡ None
twenty_one_digits = refl

greatest_number : number_in (codes "18446744073709551615") ≡ Some 18446744073709551615
greatest_number = refl

one_more : number_in (codes "18446744073709551616") ≡ None
one_more = refl
