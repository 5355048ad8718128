use Rattle.std.proofs.Common.{◌≡◌, ◌-◌, ◌∷◌, [], ℕ, List, sym, ◌∙◌, subst, length, arith}
use Rattle.std.specs.List.{range_with_len}
use Rattle.std.proofs.lemmas.List.Elements.{All-from_recursion}
use Rattle.rule_set.specs.Groups.{IsPartition}
use Rattle.group_states.specs.Levels.{LevelsView, levels_of, IsGroup}
use Rattle.tests_of_tables.proofs.Partitions.{group_of_range, two_groups, own_group}
use Rattle.tests_of_tables.proofs.filled.fill_two.Goals as goal

pub build-requires-clause-group : goal.build-requires-clause-group
build-requires-clause-group g c =
    subst (IsGroup c.args.rules.now) (sym (c.deref.ensures.value ∙ c.in_ok-group.ensures))
    (group_of_range c.args.rules.now 0 c.args.first (omega arith) (omega arith))

pub build-requires-2-clause-group : goal.build-requires-2-clause-group
build-requires-2-clause-group g c =
    subst (IsGroup c.args.rules.now) (sym (c.deref-2.ensures.value ∙ c.in_ok-others.ensures))
    (group_of_range c.args.rules.now c.args.first (c.len-len.result - c.args.first) (omega arith) (omega arith))

pub fill-requires-clause-groups : goal.fill-requires-clause-groups
fill-requires-clause-groups g c =
    let set = c.args.rules.now in
    let len : ℕ = c.len-len.result in
    let first : ℕ = c.args.first in
    let own = own_group set c.deref.result.now c.in_ok-levels.levels c.in_ok-levels.ensures.levels in
    let other = own_group set c.deref-2.result.now c.in_ok-after.after c.in_ok-after.ensures.levels in
    subst (λ (group : List ℕ). IsPartition (length set.rules) (group ∷ c.in_ok-after.after.group ∷ []))
    (sym (own.0 ∙ c.deref.ensures.value ∙ c.in_ok-group.ensures))
    (subst (λ (group : List ℕ). IsPartition (length set.rules) (range_with_len 0 first ∷ group ∷ []))
    (sym (other.0 ∙ c.deref-2.ensures.value ∙ c.in_ok-others.ensures))
    (subst (λ n. IsPartition n (range_with_len 0 first ∷ range_with_len first (len - first) ∷ [])) c.len-len.ensures
    (two_groups len first (omega arith) (omega arith))))

pub fill-requires-clause-levels : goal.fill-requires-clause-levels
fill-requires-clause-levels g c =
    let set = c.args.rules.now in
    let own = own_group set c.deref.result.now c.in_ok-levels.levels c.in_ok-levels.ensures.levels in
    let other = own_group set c.deref-2.result.now c.in_ok-after.after c.in_ok-after.ensures.levels in
    All-from_recursion (λ (trie : LevelsView). trie ≡ levels_of set trie.group)
    (c.in_ok-levels.levels ∷ c.in_ok-after.after ∷ []) (own.1, (other.1, tt))
