-- The lines of `audit`: in which categories each rule ever wins, with the least key at which it
-- does, or that it never wins.
use Rattle.std.specs.Prelude.{ℕ, ◌+◌, ◌-◌, List, [], ◌∷◌, ◌++◌, length, filter, codes, decimal, Bool}
use Rattle.std.specs.Prelude.{true, false, Option, Some, None}
use Rattle.std.specs.List.{flat_map, list_any, range_with_len}
use Rattle.field_defs.specs.declared.field.Family.{Family}
use Rattle.field_defs.specs.declared.field.Family.TheVariants.{Ip4, Ip6}
use Rattle.rule_set.specs.Rule.{RuleSetView}
use Rattle.rule_set.specs.Winner.{userdata_at}
use Rattle.acl_report.specs.Tables.{family_word}
use Rattle.acl_audit.specs.Least.{least_key}
use Rattle.audit_report.specs.Key.{hex_text}

-- how the line of a rule begins: its family
abbrev pub family_front : Family → List ℕ
family_front family = family_word family ++ codes " rule "

-- and then its place in the family, counted from 1 on, and its userdata
abbrev pub rule_front : Family → ℕ → ℕ → List ℕ
rule_front family place userdata =
    family_front family ++ decimal (place + 1) ++ codes " data " ++ decimal userdata

-- there is a key
abbrev pub is_some : Option (List ℕ) → Bool
is_some None = false
is_some (Some key) = true

-- the line of a rule in a category, of which this is the least key at which it wins, or no line
abbrev pub category_text : Family → ℕ → ℕ → ℕ → Option (List ℕ) → List ℕ
category_text family place userdata category None = []
category_text family place userdata category (Some key) =
    rule_front family place userdata ++ codes " wins " ++ decimal category ++ codes " key "
    ++ hex_text key ++ 10 ∷ []

-- the lines of a rule in so many categories, by its least key in each
abbrev pub wins_text : Family → ℕ → ℕ → ℕ → (ℕ → Option (List ℕ)) → List ℕ
wins_text family place userdata categories key =
    flat_map (λ category. category_text family place userdata category (key category))
    (range_with_len 0 categories)

-- a rule is live where it wins in one of so many categories
abbrev pub is_live : ℕ → (ℕ → Option (List ℕ)) → Bool
is_live categories key = list_any (λ category. is_some (key category)) (range_with_len 0 categories)

-- the line of a rule that isn't live
abbrev pub never_text : Family → ℕ → ℕ → Bool → List ℕ
never_text family place userdata true = []
never_text family place userdata false =
    rule_front family place userdata ++ codes " never" ++ 10 ∷ []

-- the lines of a rule: those of its categories, and where there is none that it never wins
abbrev pub rule_text : Family → ℕ → ℕ → ℕ → (ℕ → Option (List ℕ)) → List ℕ
rule_text family place userdata categories key =
    wins_text family place userdata categories key
    ++ never_text family place userdata (is_live categories key)

-- the lines of the rules of a family, in their order
abbrev pub rules_text : Family → ℕ → RuleSetView → List ℕ
rules_text family categories set =
    flat_map (λ place. rule_text family place (userdata_at set.rules (Some place)) categories
    (least_key set place)) (range_with_len 0 (length set.rules))

-- how many rules of a family are live
abbrev pub live_count : ℕ → RuleSetView → ℕ
live_count categories set =
    length (filter (λ place. is_live categories (least_key set place))
    (range_with_len 0 (length set.rules)))

-- the last line: how many rules there are, how many of them are live, and how many aren't
abbrev pub totals_text : ℕ → ℕ → List ℕ
totals_text rules live =
    codes "rules " ++ decimal rules ++ codes " live " ++ decimal live ++ codes " never "
    ++ decimal (rules - live) ++ 10 ∷ []

-- all lines, of the rules of both families
abbrev pub audit_text : ℕ → RuleSetView → RuleSetView → List ℕ
audit_text categories ip4 ip6 =
    rules_text Ip4 categories ip4 ++ rules_text Ip6 categories ip6
    ++ totals_text (length ip4.rules + length ip6.rules)
    (live_count categories ip4 + live_count categories ip6)
