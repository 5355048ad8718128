-- The way back from the rows of merged states: links, kept places, and the bytes of a key.
use Rattle.std.specs.Prelude.{ℕ, ◌≡◌, ◌<◌, List, length, map}
use Rattle.field_defs.specs.Layout.{key_len_of}
use Rattle.field_defs.specs.Lawful.{IsLayout}
use Rattle.rule_set.specs.Laws.{TheWinnerIsAmongAllPlaces}
use Rattle.rule_set.specs.Rule.{RuleSetView}
use Rattle.rule_set.specs.RuleSet.{IsRuleSet}
use Rattle.group_states.specs.Levels.{LevelsView, levels_of}
use Rattle.acl_audit.specs.declared.links.Link.{Link}
use Rattle.acl_audit.specs.Least.{all_rules}
use Rattle.acl_audit.specs.Links.{links_of}
use Rattle.table_sizes.specs.Groups.{kept_places}

-- The merged states of all rules of a set that has some.
pub record AreMerged (set : RuleSetView) (levels : LevelsView) : Type 0 where
  pub some : 0 < length set.rules
  pub rules : IsRuleSet set
  pub layout : IsLayout set.layout
  pub merged : levels ≡ levels_of set (all_rules set)
  pub among : TheWinnerIsAmongAllPlaces

-- The links, the kept places and the length of a key are those of the merged states of all rules.
pub record IsWay (set : RuleSetView) (levels : LevelsView) (links : List (List Link))
    (places : List ℕ) (key_len : ℕ) : Type 0 where
  pub its : AreMerged set levels
  pub links_are : links ≡ map links_of levels.levels
  pub places_are : places ≡ kept_places (key_len_of set.layout) levels.kept
  pub len_is : key_len ≡ key_len_of set.layout
