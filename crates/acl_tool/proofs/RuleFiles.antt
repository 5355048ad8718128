-- What the first bytes of a rule file tell, what its tables say while they are made, and how its rules were read.
use Rattle.std.proofs.Common.{◌≡◌, ℕ, ◌+◌, ◌<◌, List, ◌++◌, length, length-append, Result, Ok, Err, refl, sym, ap, ◌∙◌}
use Rattle.std.proofs.Common.{arith, ◌∷◌, Option, inl, inr}
use Rattle.std.proofs.lemmas.Bool.{lt-ltb}
use Rattle.classbench_reader.specs.declared.rules_fault.LineKind.TheVariants.{FileTooLong}
use Rattle.classbench_reader.specs.Limits.{max_rule_file}
use Rattle.classbench_reader.specs.RuleFile.{rule_file_of, RuleLists}
use Rattle.classbench_reader.specs.declared.rules_fault.LineFault.{LineFault}
use Rattle.field_defs.specs.declared.field.Family.TheVariants.{Ip4, Ip6}
use Rattle.flat_table.specs.Table.{TableView}
use Rattle.acl_outside.specs.Desk.{File, DeskView}
use Rattle.capture_report.specs.Classifier.{Tables}
use Rattle.command_ending.specs.declared.status.Status.{Status}
use Rattle.command_ending.specs.Plan.{◌>>=◌, Outcome, Plan, Give, unless_refused}
use Rattle.command_ending.proofs.Offered.{IsFaithful}
use Rattle.acl_tool.specs.RuleTables.{refused_rules, rules_of_bytes, table_within, tables_within, rules_in}
use Rattle.acl_outside.specs.Heard.{Heard}
use Rattle.command_ending.specs.declared.status.Status.TheVariants.{RulesRefused}
use Rattle.command_ending.specs.Follow.{Reached, Given, Follows}
use Rattle.command_ending.specs.StepEffects.{Outside, Takes}

-- a rule file of too many bytes is refused as such
pub rule_file_of-long : (bytes : List ℕ) → max_rule_file < length bytes →
    rule_file_of bytes ≡ Err (record { line = 0; kind = FileTooLong })
rule_file_of-long bytes long = rw (lt-ltb max_rule_file (length bytes) long) refl

-- one byte past the limit tells all of a rule file
pub rules_of_bytes-more : (refused : LineFault → Status) (front more : List ℕ) → length front ≡ max_rule_file + 1 →
    rules_of_bytes refused (front ++ more) ≡ rules_of_bytes refused front
rules_of_bytes-more refused front more long =
    ap (refused_rules refused)
    (rule_file_of-long (front ++ more) (omega (arith, length-append front more, long))
    ∙ sym (rule_file_of-long front (omega (arith, long))))

-- nothing is printed while the tables are made
pub tables_faithful : (files : List File) (budget : ℕ) (lists : RuleLists) (f : Tables → Plan Outcome) →
    ((tables : Tables) → IsFaithful files (f tables)) → IsFaithful files (tables_within budget lists >>= f)
tables_faithful files budget lists f each = go (table_within budget Ip4 lists) (table_within budget Ip6 lists)
  where
    go : (one two : Result TableView Status) →
        IsFaithful files
        ((unless_refused one >>= λ ip4. unless_refused two >>= λ ip6. Give (record { ip4 = ip4; ip6 = ip6 })) >>= f)
    go (Err status) two = tt
    go (Ok ip4) (Err status) = tt
    go (Ok ip4) (Ok ip6) = each (record { ip4 = ip4; ip6 = ip6 })

-- The rules of the file were read, and nothing else was asked yet.
pub record HasRules {X : Type 0} (rules : List ℕ) (seen : X → RuleLists) (old : Outside) : Type 0 where
  pub set : X
  pub desk : DeskView
  pub step : Takes (rules_in RulesRefused rules) seen old.desk desk (Ok set)

-- the outside once the rules were read
abbrev pub with_rules : {X : Type 0} (rules : List ℕ) (seen : X → RuleLists) (old : Outside) →
    HasRules rules seen old → Outside
with_rules rules seen old has = record old { desk = has.desk }

-- the rule file was heard of which the rules are
pub rules_heard : (name : List ℕ) (told : Option (List File)) (old new : List Heard) (reached : Reached RuleLists)
    (lists : RuleLists) → Follows told (rules_in RulesRefused name) old new reached → reached ≡ Given lists →
    (file : Heard) × (new ≡ file ∷ old) × (rule_file_of file.bytes ≡ Ok lists)
rules_heard name told old new reached lists (inl before) is = absurd (let e = sym (before.1) ∙ is in cc)
rules_heard name told old new reached lists (inr (file, named, part, inl within)) is =
    absurd (let e = sym (within.1) ∙ is in cc)
rules_heard name told old new reached lists (inr (file, named, part, inr (enough, rest))) is =
    go (rule_file_of file.bytes) refl rest
  where
    go : (result : Result RuleLists LineFault) → rule_file_of file.bytes ≡ result →
        Follows told (unless_refused (refused_rules RulesRefused result)) (file ∷ old) new reached →
        (heard : Heard) × (new ≡ heard ∷ old) × (rule_file_of heard.bytes ≡ Ok lists)
    go (Ok all) at follows =
        let same : all ≡ lists = (let e = sym (follows.1) ∙ is in cc) in
        (file, follows.0, at ∙ ap Ok same)
    go (Err fault) at follows = absurd (let e = sym (follows.1) ∙ is in cc)
