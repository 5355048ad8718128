-- What a reader of rule files holds.
use Rattle.std.specs.Prelude.{◌≡◌, ℕ, ◌<◌, List, [], ◌∷◌, ◌++◌, length, Ok, Err}
use Rattle.field_defs.specs.Layout.{ip4_fields, ip6_fields}
use Rattle.field_defs.specs.declared.field.Family.{Family}
use Rattle.field_defs.specs.declared.field.Family.TheVariants as family
use Rattle.rule_set.specs.Rule.{RuleView}
use Rattle.table_sizes.specs.Sizes.{max_rules}
use Rattle.classbench_reader.specs.declared.line.RuleLine.{RuleLine}
use Rattle.classbench_reader.specs.declared.rule_file.RuleFile.{RuleFile}
use Rattle.classbench_reader.specs.declared.rules_fault.LineFault.{LineFault}
use Rattle.classbench_reader.specs.declared.rules_fault.RulesFault.{RulesFault}
use Rattle.classbench_reader.specs.declared.rules_fault.RulesFault.TheVariants.{Line, OutOfMemory}
use Rattle.classbench_reader.specs.Line.{rule_of, family_of_line}
use Rattle.classbench_reader.specs.RuleFile.{rule_file_of, counted_line_of}

-- The sets are for the layouts of their families, and hold the rules of the file.
pub record HoldsRules (bytes : List ℕ) (file : RuleFile) : Type 0 where
  pub ip4_layout : file.ip4.layout ≡ ip4_fields
  pub ip6_layout : file.ip6.layout ≡ ip6_fields
  pub rules : rule_file_of bytes ≡ Ok (record { ip4 = file.ip4.rules; ip6 = file.ip6.rules })

-- each set is for its family's layout, and has room for one more
pub record HasRoom (file : RuleFile) : Type 0 where
  pub ip4_layout : file.ip4.layout ≡ ip4_fields
  pub ip6_layout : file.ip6.layout ≡ ip6_fields
  pub ip4_room : length file.ip4.rules < max_rules
  pub ip6_room : length file.ip6.rules < max_rules

-- the file with one more rule of a family
abbrev pub file_with : Family → RuleView → RuleFile → RuleFile
file_with family.Ip4 rule file =
    record file { ip4 = record file.ip4 { rules = file.ip4.rules ++ rule ∷ [] } }
file_with family.Ip6 rule file =
    record file { ip6 = record file.ip6 { rules = file.ip6.rules ++ rule ∷ [] } }

-- the rule of a line stands after the others of its family
abbrev pub Adds : RuleLine → RuleFile → RuleFile → Type 0
Adds line old new = new ≡ file_with (family_of_line line) (rule_of line) old

-- what the line of an ordinal says was added
pub record ReadsLine (ordinal : ℕ) (line : List ℕ) (old new : RuleFile) : Type 0 where
  pub says : RuleLine
  pub read : counted_line_of ordinal line ≡ Ok says
  pub added : Adds says old new

-- the fault of a line, by its number
pub record IsFaulty (number ordinal : ℕ) (line : List ℕ) (fault : LineFault) : Type 0 where
  pub numbered : fault.line ≡ number
  pub faulty : counted_line_of ordinal line ≡ Err fault.kind

-- a line wasn't added, since it is faulty, or for want of memory
abbrev pub RefusesLine : ℕ → ℕ → List ℕ → RulesFault → Type 0
RefusesLine number ordinal line (Line fault) = IsFaulty number ordinal line fault
RefusesLine number ordinal line OutOfMemory = Unit {0}
