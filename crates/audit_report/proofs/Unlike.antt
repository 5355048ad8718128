-- The line of two lists that differ.
use Rattle.std.proofs.Common.{◌≡◌, ℕ, List, ◌++◌, Option, Some, ◌∙◌, ap, append_assoc}
use Rattle.field_defs.specs.declared.field.Family.{Family}
use Rattle.rule_set.specs.Rule.{RuleSetView}
use Rattle.std.specs.Prelude.{codes, decimal}
use Rattle.acl_report.specs.Tables.{family_word}
use Rattle.acl_audit.specs.Difference.{Difference, difference, verdict_of}
use Rattle.audit_report.specs.Key.{hex_text}
use Rattle.audit_report.specs.Compare.{difference_text, place_text, verdicts_text}

-- the family, the place and the verdicts after the text are the line of two lists that differ at a place
pub unlike_line : (family : Family) (one two : RuleSetView) (at : Difference) (start : List ℕ)
    → Some at ≡ difference one two
    → ((start ++ family_word family) ++ place_text at.category at.key)
    ++ verdicts_text (verdict_of one at.key at.category) (verdict_of two at.key at.category)
    ≡ start ++ difference_text family one two (difference one two)
unlike_line family one two at start is =
    let place = place_text at.category at.key in
    let verdicts = verdicts_text (verdict_of one at.key at.category) (verdict_of two at.key at.category) in
    ap (λ (t : List ℕ). t ++ verdicts) (append_assoc start (family_word family) place)
    ∙ append_assoc start (family_word family ++ place) verdicts
    ∙ ap (λ (d : Option Difference). start ++ difference_text family one two d) is

-- the category and the key after the text, piece by piece
pub place_line : (category : ℕ) (key start : List ℕ)
    → (((start ++ codes " differ category ") ++ decimal category) ++ codes " key ") ++ hex_text key
    ≡ start ++ place_text category key
place_line category key start =
    let first = codes " differ category " in
    let second = decimal category in
    let third = codes " key " in
    ap (λ (t : List ℕ). t ++ third ++ hex_text key) (append_assoc start first second)
    ∙ ap (λ (t : List ℕ). t ++ hex_text key) (append_assoc start (first ++ second) third)
    ∙ append_assoc start (first ++ second ++ third) (hex_text key)
