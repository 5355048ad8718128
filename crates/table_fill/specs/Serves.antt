-- Which tables answer as the rules of a set do.
use Rattle.std.specs.Prelude.{◌≡◌, ℕ, ◌/◌, ◌<◌, ◌==◌, ◌↔◌, nat_le, List, drop, length, Bool, true}
use Rattle.std.specs.Prelude.{◌&&◌, ◌||◌, None}
use Rattle.std.specs.List.{list_all}
use Rattle.field_defs.specs.Layout.{key_len_of}
use Rattle.rule_set.specs.Rule.{RuleSetView}
use Rattle.rule_set.specs.Winner.{winner, verdict}
use Rattle.group_states.specs.Laws.{AreBytes}
use Rattle.table_sizes.specs.Sizes.{row_len}
use Rattle.flat_table.specs.Table.{TableView}
use Rattle.flat_table.specs.Walk.{joined, table_verdict, userdatas}

-- the word of a row is 0, or has the rank of one of so many rules in its high half
abbrev pub is_ranked : ℕ → ℕ → Bool
is_ranked rules word =
    word == 0 || (nat_le 1 (word / userdatas) && nat_le (word / userdatas) rules)

-- The table answers for each key and category as the rules do: the userdata of the winner. And
-- userdata 0 isn't taken for no winner: the joined word is 0 exactly where there is none. Each word
-- of a row is that of a rule.
pub record Serves (set : RuleSetView) (table : TableView) : Type 0 where
  pub key_len : table.key_len ≡ key_len_of set.layout
  pub verdicts : (key : List ℕ) (category : ℕ) → AreBytes key →
      length key ≡ key_len_of set.layout → category < row_len →
      table_verdict table key category ≡ verdict set.layout set.rules key category
  pub none : (key : List ℕ) (category : ℕ) → AreBytes key →
      length key ≡ key_len_of set.layout → category < row_len →
      (joined table key category ≡ 0 ↔ winner set.layout set.rules key category ≡ None)
  pub rules : table.rules ≡ length set.rules
  pub ranked : list_all (list_all (is_ranked table.rules)) (drop 1 table.rows) ≡ true
