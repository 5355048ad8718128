-- The lines of `compare`: for each family that both lists decide alike, or the least key and
-- category at which they don't, with both verdicts.
use Rattle.std.specs.Prelude.{ℕ, List, [], ◌∷◌, ◌++◌, codes, decimal, Option, Some, None}
use Rattle.field_defs.specs.declared.field.Family.{Family}
use Rattle.rule_set.specs.Rule.{RuleSetView}
use Rattle.acl_report.specs.Tables.{family_word}
use Rattle.acl_audit.specs.Difference.{Difference, difference, verdict_of}
use Rattle.audit_report.specs.Key.{hex_text}

-- the category and the key at which two lists differ
abbrev pub place_text : ℕ → List ℕ → List ℕ
place_text category key =
    codes " differ category " ++ decimal category ++ codes " key " ++ hex_text key

-- both verdicts, and the end of the line
abbrev pub verdicts_text : ℕ → ℕ → List ℕ
verdicts_text one two =
    codes " one " ++ decimal one ++ codes " two " ++ decimal two ++ 10 ∷ []

-- the line of a family, by what the lists differ in and by their verdicts
abbrev pub difference_text : Family → RuleSetView → RuleSetView → Option Difference → List ℕ
difference_text family one two None = family_word family ++ codes " same" ++ 10 ∷ []
difference_text family one two (Some at) =
    family_word family ++ place_text at.category at.key
    ++ verdicts_text (verdict_of one at.key at.category) (verdict_of two at.key at.category)

-- the line of a family of two lists
abbrev pub compared_text : Family → RuleSetView → RuleSetView → List ℕ
compared_text family one two = difference_text family one two (difference one two)
