-- The rules that the contexts of both families hold.
use Rattle.classbench_reader.specs.RuleFile.{RuleLists}
use Rattle.acl_tool.specs.declared.tables.Contexts.{Contexts}

-- the rules of both, as lists
abbrev pub lists_held : Contexts → RuleLists
lists_held contexts = record { ip4 = contexts.ip4.set.rules; ip6 = contexts.ip6.set.rules }
