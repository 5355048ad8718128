-- A command that ended with a report went through all of its plan, step by step.
use Rattle.std.proofs.Common.{◌≡◌, ℕ, ◌+◌, ◌<◌, ◌≤◌, List, ◌∷◌, Bool, true, false, Option, Result, Ok, Err, inl, inr}
use Rattle.std.proofs.Common.{refl, sym, ap, ◌∙◌, arith, length, ◌⊎◌}
use Rattle.std.specs.Prelude.{nat_le, replicate, if◌then◌else◌}
use Rattle.std.proofs.lemmas.Bool.{false≢true, leb-true}
use Rattle.std.proofs.lemmas.List.{length-replicate}
use Rattle.acl_outside.specs.Desk.{File}
use Rattle.acl_outside.specs.Heard.{Heard, Ending, NotOpened, GoesOn, Ended, BrokenOff}
use Rattle.classbench_reader.specs.declared.rules_fault.LineFault.{LineFault}
use Rattle.classbench_reader.specs.RuleFile.{RuleLists}
use Rattle.field_defs.specs.declared.field.Family.{Family}
use Rattle.field_defs.specs.declared.field.Family.TheVariants.{Ip4, Ip6}
use Rattle.flat_table.specs.Table.{TableView}
use Rattle.rule_split.specs.Split.{total_of}
use Rattle.acl_context.specs.Context.{built_of}
use Rattle.command_ending.specs.declared.status.Status.{Status}
use Rattle.command_ending.specs.declared.status.Status.TheVariants.{Done, CaptureRefused, OutOfMemory, ReadFault}
use Rattle.command_ending.specs.declared.status.Status.TheVariants.{RulesRefused, TooLarge, WriteFault}
use Rattle.command_ending.specs.Plan.{Outcome, Plan, Give, Read, ◌>>=◌, unless_refused}
use Rattle.command_ending.specs.Follow.{Reached, Follows, IsEnough, IsOneOf, outcome_of, status_within}
use Rattle.capture_report.specs.Classifier.{Tables}
use Rattle.acl_tool.specs.FamilySet.{set_of}
use Rattle.acl_tool.specs.RuleTables.{refused_rules, table_within, tables_within}

-- a status that comes with a report, whole or up to a fault of the capture
abbrev pub is_told : Status → Bool
is_told Done = true
is_told (CaptureRefused fault) = true
is_told status = false

-- A test of statuses that no end within a file passes.
pub record IsTest (test : Status → Bool) : Type 0 where
  pub unread : test ReadFault ≡ false
  pub full : test OutOfMemory ≡ false

-- no end within a file comes with a report
pub told_test : IsTest is_told
told_test = record { unread = refl; full = refl }

-- no end within a file passes such a test
untold_within : (test : Status → Bool) → IsTest test → (ending : Ending) → test (status_within ending) ≡ false
untold_within test is NotOpened = is.unread
untold_within test is GoesOn = is.full
untold_within test is Ended = is.full
untold_within test is BrokenOff = is.unread

-- A file was read, and the rest of the plan followed.
pub record ReadsOn (told : Option (List File)) (name : List ℕ) (next : List ℕ → Plan Outcome) (old new : List Heard)
    (reached : Reached Outcome) : Type 0 where
  pub file : Heard
  pub named : file.name ≡ name
  pub part : IsOneOf told file
  pub enough : IsEnough next file
  pub rest : Follows told (next file.bytes) (file ∷ old) new reached

-- a command whose end passes such a test read the file and followed the rest of its plan
pub read_on : (test : Status → Bool) → IsTest test → (told : Option (List File)) (name : List ℕ)
    (shown : List ℕ → List ℕ) (next : List ℕ → Plan Outcome) (old new : List Heard) (reached : Reached Outcome) →
    Follows told (Read name shown next) old new reached → test (outcome_of reached).status ≡ true →
    ReadsOn told name next old new reached
read_on test is told name shown next old new reached (inl before) passed =
    absurd (false≢true (sym is.full ∙ (rw (before.1) at passed)))
read_on test is told name shown next old new reached (inr (file, named, part, inl within)) passed =
    absurd (false≢true (sym (untold_within test is file.ending) ∙ (rw (within.1) at passed)))
read_on test is told name shown next old new reached (inr (file, named, part, inr (enough, rest))) passed =
    record { file = file; named = named; part = part; enough = enough; rest = rest }

-- a result was no fault, since its fault doesn't pass
pub unless_on : {A : Type 0} (test : Status → Bool) (told : Option (List File)) (result : Result A Status)
    (f : A → Plan Outcome) (old new : List Heard) (reached : Reached Outcome) →
    Follows told (unless_refused result >>= f) old new reached → test (outcome_of reached).status ≡ true →
    ((status : Status) → result ≡ Err status → test status ≡ false) →
    (value : A) × (result ≡ Ok value) × Follows told (f value) old new reached
unless_on test told (Ok value) f old new reached follows passed faulty = (value, refl, follows)
unless_on test told (Err status) f old new reached follows passed faulty =
    absurd (false≢true (sym (faulty status refl) ∙ (rw (follows.1) at passed)))

-- a rule file that is accepted has these rules
pub accepted_rules : (result : Result RuleLists LineFault) (lists : RuleLists) →
    refused_rules RulesRefused result ≡ Ok lists → result ≡ Ok lists
accepted_rules (Ok all) lists is = let same : all ≡ lists = cc in ap Ok same
accepted_rules (Err fault) lists is = absurd (cc)

-- rules that are refused come without a report
pub untold_rules : (result : Result RuleLists LineFault) (status : Status) →
    refused_rules RulesRefused result ≡ Err status → is_told status ≡ false
untold_rules (Ok all) status is = absurd (cc)
untold_rules (Err fault) status is = let same : RulesRefused fault ≡ status = cc in rw (← same) refl

-- A test of statuses that no total above the budget passes.
abbrev pub IsSmall : (Status → Bool) → Type 0
IsSmall test = (family : Family) (total budget : ℕ) → test (TooLarge family total budget) ≡ false

-- a check that refuses doesn't pass either, where its refusal doesn't
refused_table : (test : Status → Bool) (fits : Bool) (table : TableView) (refusal status : Status) →
    test refusal ≡ false → (if fits then Ok table else Err refusal) ≡ Err status → test status ≡ false
refused_table test true table refusal status refused is = absurd (cc)
refused_table test false table refusal status refused is =
    let same : refusal ≡ status = cc in rw (← same) refused

-- nor does a table whose total is above the budget
refused_total : (test : Status → Bool) → IsSmall test → (budget : ℕ) (family : Family) (lists : RuleLists)
    (status : Status) → table_within budget family lists ≡ Err status → test status ≡ false
refused_total test small budget family lists status is =
    refused_table test (nat_le (total_of (set_of family lists) budget) budget)
    (built_of (set_of family lists) budget) (TooLarge family (total_of (set_of family lists) budget) budget) status
    (small family (total_of (set_of family lists) budget) budget) is

-- a table that was made is that of the rules, and within the budget
table_made : (budget : ℕ) (family : Family) (lists : RuleLists) (table : TableView) →
    table_within budget family lists ≡ Ok table →
    (table ≡ built_of (set_of family lists) budget) × (total_of (set_of family lists) budget ≤ budget)
table_made budget family lists table is = go (nat_le (total_of (set_of family lists) budget) budget) refl is
  where
    go : (fits : Bool) → nat_le (total_of (set_of family lists) budget) budget ≡ fits →
        (if fits then Ok (built_of (set_of family lists) budget)
        else Err (TooLarge family (total_of (set_of family lists) budget) budget)) ≡ Ok table →
        (table ≡ built_of (set_of family lists) budget) × (total_of (set_of family lists) budget ≤ budget)
    go true at e = (cc, leb-true (total_of (set_of family lists) budget) budget at)
    go false at e = absurd (cc)

-- no total above the budget comes with a report
pub told_small : IsSmall is_told
told_small family total budget = refl

-- Both tables were made, and the rest of the plan followed.
pub record MakesBoth (told : Option (List File)) (budget : ℕ) (lists : RuleLists) (f : Tables → Plan Outcome)
    (old new : List Heard) (reached : Reached Outcome) : Type 0 where
  pub tables : Tables
  pub within : tables_within budget lists ≡ Give tables
  pub ip4_is : tables.ip4 ≡ built_of (set_of Ip4 lists) budget
  pub ip6_is : tables.ip6 ≡ built_of (set_of Ip6 lists) budget
  pub ip4_fits : total_of (set_of Ip4 lists) budget ≤ budget
  pub ip6_fits : total_of (set_of Ip6 lists) budget ≤ budget
  pub rest : Follows told (f tables) old new reached

-- the tables of both families were made, where the end passes such a test
pub both_on : (test : Status → Bool) → IsSmall test → (told : Option (List File)) (budget : ℕ) (lists : RuleLists)
    (f : Tables → Plan Outcome) (old new : List Heard) (reached : Reached Outcome) →
    Follows told (tables_within budget lists >>= f) old new reached → test (outcome_of reached).status ≡ true →
    MakesBoth told budget lists f old new reached
both_on test small told budget lists f old new reached follows passed =
    go (table_within budget Ip4 lists) (table_within budget Ip6 lists) refl refl follows
  where
    go : (one two : Result TableView Status) → table_within budget Ip4 lists ≡ one →
        table_within budget Ip6 lists ≡ two →
        Follows told
        ((unless_refused one >>= λ ip4. unless_refused two >>= λ ip6. Give (record { ip4 = ip4; ip6 = ip6 })) >>= f)
        old new reached → MakesBoth told budget lists f old new reached
    go (Ok ip4) (Ok ip6) at_ip4 at_ip6 rest =
        let first = table_made budget Ip4 lists ip4 at_ip4 in
        let second = table_made budget Ip6 lists ip6 at_ip6 in
        record {
          tables = record { ip4 = ip4; ip6 = ip6 };
          within = rw (at_ip4, at_ip6) refl;
          ip4_is = first.0;
          ip6_is = second.0;
          ip4_fits = first.1;
          ip6_fits = second.1;
          rest = rest;
        }
    go (Ok ip4) (Err status) at_ip4 at_ip6 rest =
        absurd (false≢true (sym (refused_total test small budget Ip6 lists status at_ip6) ∙ (rw (rest.1) at passed)))
    go (Err status) two at_ip4 at_ip6 rest =
        absurd (false≢true (sym (refused_total test small budget Ip4 lists status at_ip4) ∙ (rw (rest.1) at passed)))

-- some list is longer than a number
pub longer : (n : ℕ) → (long : List ℕ) × (n < length long)
longer n = (replicate (n + 1) 0, omega (arith, length-replicate {A = ℕ} (n + 1) 0))

-- a command that is done comes with a report
pub done_told : (status : Status) → (Done ≡ status) ⊎ ((Done ≡ WriteFault) ⊎ (Done ≡ OutOfMemory)) →
    is_told status ≡ true
done_told status (inl is) = rw (← is) refl
done_told status (inr (inl written)) = absurd (cc)
done_told status (inr (inr full)) = absurd (cc)
