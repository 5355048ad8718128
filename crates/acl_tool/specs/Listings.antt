-- Which of a command's rule files one is, and what a refused one is called.
use Rattle.classbench_reader.specs.declared.rules_fault.LineFault.{LineFault}
use Rattle.classbench_reader.specs.declared.rules_fault.RulesFault.{RulesFault}
use Rattle.classbench_reader.specs.declared.rules_fault.RulesFault.TheVariants as faults
use Rattle.command_ending.specs.declared.status.Status.{Status}
use Rattle.command_ending.specs.declared.status.Status.TheVariants.{RulesRefused, SecondRulesRefused, OutOfMemory}
use Rattle.acl_tool.specs.declared.rule_file.Listing.{Listing}
use Rattle.acl_tool.specs.declared.rule_file.Listing.TheVariants.{First, Second}

-- the status of a file of rules that isn't one
abbrev pub refused_as : Listing → LineFault → Status
refused_as First = RulesRefused
refused_as Second = SecondRulesRefused

-- the status of rules that weren't read
abbrev pub rules_refused : Listing → RulesFault → Status
rules_refused listing (faults.Line fault) = refused_as listing fault
rules_refused listing faults.OutOfMemory = OutOfMemory
