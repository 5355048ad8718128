-- How a command ends with rules that are too large.
use Rattle.std.proofs.Common.{◌≡◌, ◌⊎◌, ℕ, Bool, true, false, Option, Some, None, Result, Ok, Err, inl, inr, refl}
use Rattle.field_defs.specs.declared.field.Family.{Family}
use Rattle.classbench_reader.specs.RuleFile.{RuleLists}
use Rattle.classbench_reader.specs.declared.rules_fault.LineFault.{LineFault}
use Rattle.command_ending.specs.declared.status.Status.{Status}
use Rattle.command_ending.specs.declared.status.Status.TheVariants.{OutOfMemory, RulesRefused, TooLarge, WriteFault}
use Rattle.acl_tool.specs.RuleTables.{refused_rules}
use Rattle.acl_tool.proofs.ReadOn.{IsTest}

-- a status of rules that are too large
abbrev pub is_large : Status → Bool
is_large (TooLarge family words budget) = true
is_large status = false

-- no end within a file is that of rules that are too large
pub large_test : IsTest is_large
large_test = record { unread = refl; full = refl }

-- rules that are refused for a line aren't too large
pub small_rules : (result : Result RuleLists LineFault) (status : Status) →
    refused_rules RulesRefused result ≡ Err status → is_large status ≡ false
small_rules (Ok all) status is = absurd (cc)
small_rules (Err fault) status is = let same : RulesRefused fault ≡ status = cc in rw (← same) refl

-- the family of a status of rules that are too large
abbrev pub family_in : Status → Option Family
family_in (TooLarge family words budget) = Some family
family_in status = None

-- how many words such rules need
abbrev pub words_in : Status → ℕ
words_in (TooLarge family words budget) = words
words_in status = 0

-- the budget that they are above
abbrev pub budget_in : Status → ℕ
budget_in (TooLarge family words budget) = budget
budget_in status = 0

-- if two families are found to be one, they are one
pub same_family : (one two : Family) → Some one ≡ Some two → one ≡ two
same_family one two is = cc

-- a command that ends with rules that are too large has this status
pub large_status : (family : Family) (size budget : ℕ) (status : Status) →
    (TooLarge family size budget ≡ status)
    ⊎ ((TooLarge family size budget ≡ WriteFault) ⊎ (TooLarge family size budget ≡ OutOfMemory)) →
    TooLarge family size budget ≡ status
large_status family size budget status (inl is) = is
large_status family size budget status (inr (inl written)) = absurd (cc)
large_status family size budget status (inr (inr full)) = absurd (cc)
