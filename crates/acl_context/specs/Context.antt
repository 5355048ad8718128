-- What a classification context holds (DPDK Programmer's Guide, "Packet Classification and Access
-- Control": rules are added to a context, a build makes run-time structures of them, and packets
-- are classified by these).
use Rattle.std.specs.Prelude.{◌≡◌, ℕ, ◌≤◌, List, length, Option, IfSome}
use Rattle.table_sizes.specs.Sizes.{max_rules, max_tries, max_words}
use Rattle.rule_set.specs.Groups.{IsPartition}
use Rattle.field_defs.specs.Layout.{key_len_of}
use Rattle.rule_set.specs.declared.rule.Rule.{Rule}
use Rattle.rule_set.specs.Rule.{RuleView, RuleSetView}
use Rattle.rule_split.specs.Split.{groups_of}
use Rattle.flat_table.specs.Table.{TableView, words_of}
use Rattle.table_fill.specs.Filled.{filled}
use Rattle.table_fill.specs.Serves.{Serves}

-- a context: its rules, how many it may hold, and the table of its last build, if there is one
pub record ContextView : Type 0 where
  pub set : RuleSetView
  pub max_rules : ℕ
  pub table : Option TableView

-- What holds of every context: it holds no more rules than it may, it may hold no more than a set
-- does, and the keys of its table are those of its layout.
pub record IsContext (context : ContextView) : Type 0 where
  pub few : length context.set.rules ≤ context.max_rules
  pub limit : context.max_rules ≤ max_rules
  pub keys : IfSome context.table (λ table. table.key_len ≡ key_len_of context.set.layout)

-- the context with these rules in place of its own
abbrev pub with_rules : ContextView → List RuleView → ContextView
with_rules context rules = record context {
  set = record { layout = context.set.layout; rules = rules };
}

-- a rule that is written down in a program, as contracts see rules
abbrev pub rule_view : {N : ℕ} → Rule N → RuleView
rule_view rule = record { tag = rule.tag; fields = rule.fields }

-- the table that a build makes of a set under a budget: a trie for each group of its split
abbrev pub built_of : RuleSetView → ℕ → TableView
built_of set budget = filled set (groups_of set budget)

-- A table that holds all rules of a set: a trie for each of at most eight groups, whichever they
-- are, that hold each rule once. It answers for each key and category as the rules do.
pub record HoldsAll (set : RuleSetView) (table : TableView) : Type 0 where
  pub groups : List (List ℕ)
  pub few : length groups ≤ max_tries
  pub once : IsPartition (length set.rules) groups
  pub is : table ≡ filled set groups
  pub size : words_of table ≤ max_words
  pub serves : Serves set table
