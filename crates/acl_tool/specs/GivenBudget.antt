-- What the word `max-words=` says, to each command that takes it.
use Rattle.std.specs.Prelude.{ℕ, List, codes}
use Rattle.std.specs.Option.{option_map_or}
use Rattle.text_scan.specs.Digits.{place_value}
use Rattle.command_words.specs.Options.{usual_words}
use Rattle.acl_tool.specs.GivenOptions.{value_given}

-- how many words the table of a family may have: as many as `max-words=` says, or the usual number
abbrev pub budget_given : List (List ℕ) → ℕ
budget_given options =
    option_map_or (place_value 10) (value_given (codes "max-words=") options) usual_words
