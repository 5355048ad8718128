-- An accepted rule file was read to its end, whatever comes after it.
use Rattle.std.proofs.Common.{◌≡◌, List, ℕ, ◌++◌, Bool, true, false, Result, Ok, Err, inl, inr, sym, ap, ◌∙◌, arith}
use Rattle.std.proofs.Common.{length-append, not, ◌⊎◌, refl}
use Rattle.std.proofs.lemmas.Bool.{false≢true}
use Rattle.acl_outside.specs.Heard.{Heard, Ended}
use Rattle.classbench_reader.specs.declared.rules_fault.LineFault.{LineFault}
use Rattle.classbench_reader.specs.declared.rules_fault.RulesFault.{RulesFault}
use Rattle.classbench_reader.specs.declared.rules_fault.RulesFault.TheVariants as faults
use Rattle.classbench_reader.specs.Limits.{max_rule_file}
use Rattle.classbench_reader.specs.RuleFile.{RuleLists, rule_file_of}
use Rattle.command_ending.specs.declared.status.Status.{Status}
use Rattle.command_ending.specs.declared.status.Status.TheVariants.{OutOfMemory}
use Rattle.command_ending.specs.Plan.{Outcome, Plan, ◌>>=◌, Give, Stop, Read, unless_refused}
use Rattle.command_ending.specs.Follow.{IsEnough}
use Rattle.acl_tool.specs.Listings.{refused_as, rules_refused}
use Rattle.acl_tool.specs.declared.rule_file.Listing.{Listing}
use Rattle.acl_tool.specs.RuleTables.{refused_rules, rules_of_bytes}
use Rattle.acl_tool.proofs.ReadOn.{longer}
use Rattle.acl_tool.proofs.RuleFiles.{rule_file_of-long}

-- a plan stops
abbrev pub stops : Plan Outcome → Bool
stops (Give value) = false
stops (Stop status) = true
stops (Read name shown next) = false

-- With enough bytes more the file would be too long, and the command would stop with that. So where it goes on in
-- another way, as a test of plans tells, the file was read to its end.
pub whole_by : (test : Plan Outcome → Bool) (refused : LineFault → Status) →
    ((fault : LineFault) → test (Stop (refused fault)) ≡ false) → (f : RuleLists → Plan Outcome) (file : Heard)
    (lists : RuleLists) → rules_of_bytes refused file.bytes ≡ Ok lists → test (f lists) ≡ true →
    IsEnough (λ bytes. unless_refused (rules_of_bytes refused bytes) >>= f) file → file.ending ≡ Ended
whole_by test refused fails f file lists accepted passes (inl ended) = ended
whole_by test refused fails f file lists accepted passes (inr on) =
    let (long, is_long) = longer max_rule_file in
    let too_long = rule_file_of-long (file.bytes ++ long) (omega (arith, length-append file.bytes long, is_long)) in
    let other : test (unless_refused (rules_of_bytes refused (file.bytes ++ long)) >>= f) ≡ false =
    ap (λ (r : Result RuleLists LineFault). test (unless_refused (refused_rules refused r) >>= f)) too_long ∙ fails _ in
    let this : test (unless_refused (rules_of_bytes refused file.bytes) >>= f) ≡ true =
    ap (λ (r : Result RuleLists Status). test (unless_refused r >>= f)) accepted ∙ passes in
    absurd (false≢true (sym other ∙ ap test ((on.1) long) ∙ this))

-- the same where the command doesn't stop
pub whole_file : (refused : LineFault → Status) (f : RuleLists → Plan Outcome) (file : Heard) (lists : RuleLists) →
    rules_of_bytes refused file.bytes ≡ Ok lists → stops (f lists) ≡ false →
    IsEnough (λ bytes. unless_refused (rules_of_bytes refused bytes) >>= f) file → file.ending ≡ Ended
whole_file refused f file lists accepted goes_on =
    whole_by (λ plan. not (stops plan)) refused (λ fault. refl) f file lists accepted (ap not goes_on)

-- a rule file that is accepted has these rules, whatever a refused one is called
pub accepted_by : (refused : LineFault → Status) (result : Result RuleLists LineFault) (lists : RuleLists) →
    refused_rules refused result ≡ Ok lists → result ≡ Ok lists
accepted_by refused (Ok all) lists is = let same : all ≡ lists = cc in ap Ok same
accepted_by refused (Err fault) lists is = absurd (cc)

-- the status of rules that weren't read is that of the file's bytes, or memory ran out
pub refused_rules_are : (listing : Listing) (bytes : List ℕ) (fault : RulesFault) (status : Status) →
    ((line : LineFault) → fault ≡ faults.Line line → rule_file_of bytes ≡ Err line) →
    status ≡ rules_refused listing fault →
    (rules_of_bytes (refused_as listing) bytes ≡ Err status) ⊎ (status ≡ OutOfMemory)
refused_rules_are listing bytes (faults.Line line) status faulty is =
    inl (ap (refused_rules (refused_as listing)) (faulty line refl) ∙ ap Err (sym is))
refused_rules_are listing bytes faults.OutOfMemory status faulty is = inr is
