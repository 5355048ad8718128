-- The lines of the tables: how large each is, and how many transitions all packets took.
use Rattle.std.specs.Prelude.{ℕ, List, [], ◌∷◌, codes, decimal}
use Rattle.field_defs.specs.declared.field.Family.{Family}
use Rattle.field_defs.specs.declared.field.Family.TheVariants.{Ip4, Ip6}
use Rattle.acl_report.specs.Line.{line_of}

-- how the line of a table names the family of its addresses
abbrev pub family_word : Family → List ℕ
family_word Ip4 = codes "ip4"
family_word Ip6 = codes "ip6"

-- the line of a table: its family, and how many rules, tries and words it has
abbrev pub table_text : Family → ℕ → ℕ → ℕ → List ℕ
table_text family rules tries words =
    line_of (family_word family) (codes "rules" ∷ decimal rules
    ∷ codes "tries" ∷ decimal tries ∷ codes "words" ∷ decimal words ∷ [])

-- the line of the transitions that all packets took
abbrev pub transitions_text : ℕ → List ℕ
transitions_text taken = line_of (codes "transitions") (decimal taken ∷ [])
