use Rattle.std.proofs.Common.{◌≡◌, ◌-◌, ◌∷◌, [], ℕ, List, sym, ◌∙◌, subst, length, arith}
use Rattle.std.specs.List.{range_with_len}
use Rattle.std.proofs.lemmas.List.Elements.{All-from_recursion}
use Rattle.rule_set.specs.Groups.{IsPartition}
use Rattle.group_states.specs.Levels.{LevelsView, levels_of, IsGroup}
use Rattle.tests_of_tables.proofs.Partitions.{group_of_range, one_group, own_group}
use Rattle.tests_of_tables.proofs.filled.fill_one.Goals as goal

pub build-requires-clause-group : goal.build-requires-clause-group
build-requires-clause-group g c =
    subst (IsGroup c.args.rules.now) (sym (c.deref.ensures.value ∙ c.in_ok-group.ensures))
    (group_of_range c.args.rules.now 0 c.len-len.result (omega arith) (omega arith))

pub fill-requires-clause-groups : goal.fill-requires-clause-groups
fill-requires-clause-groups g c =
    let len : ℕ = c.len-len.result in
    let own = own_group c.args.rules.now c.deref.result.now c.in_ok-levels.levels c.in_ok-levels.ensures.levels in
    subst (λ (group : List ℕ). IsPartition (length c.args.rules.now.rules) (group ∷ []))
    (sym (own.0 ∙ c.deref.ensures.value ∙ c.in_ok-group.ensures))
    (subst (λ n. IsPartition n (range_with_len 0 len ∷ [])) c.len-len.ensures (one_group len (omega arith)))

pub fill-requires-clause-levels : goal.fill-requires-clause-levels
fill-requires-clause-levels g c =
    let set = c.args.rules.now in
    let own = own_group set c.deref.result.now c.in_ok-levels.levels c.in_ok-levels.ensures.levels in
    All-from_recursion (λ (trie : LevelsView). trie ≡ levels_of set trie.group) (c.in_ok-levels.levels ∷ []) (own.1, tt)
