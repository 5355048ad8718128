use Rattle.std.proofs.Common.{◌≡◌, ℕ, ◌<◌, ◌≤◌, List, length, map, sym, ◌∙◌, subst}
use Rattle.std.specs.Prelude.{All}
use Rattle.std.specs.List.Sorted.{IsStrictlyIncreasing}
use Rattle.std.proofs.lemmas.Result.{IfOk-weaker}
use Rattle.state_parts.specs.Target.{count}
use Rattle.trie_merge.proofs.build.finish_rows.Goals as goal
use Rattle.group_states.proofs.Offered.{rows_long}
use Rattle.group_states.specs.Row.{rows_of}
use Rattle.trie_merge.proofs.Zipped.{all_named_are}
use Rattle.trie_merge.specs.Names.{row_named}
use Rattle.trie_merge.specs.Shared.{AreIn}

pub rows-rows-requires : goal.rows-rows-requires
rows-rows-requires c = (c.requires.rows.rows.0, c.requires.rows.rows.1)

pub name_rows-requires : goal.name_rows-requires
name_rows-requires c =
    rw c.as_slice-2.ensures.keys
    (subst (λ t. All (λ n. (0 < n) × (n ≤ count t)) c.args.reached.now.found.keys) c.rows-rows.ensures
    c.requires.rows.inside)

pub returns : goal.returns
returns c =
    let set = c.args.rules.now in
    let group = c.args.group.now in
    let its = c.requires.rows in
    let tree = its.tree in
    let names : List ℕ = c.in_ok-names.names.items in
    let named = (λ i. map (row_named c.rows-rows.result.now (c.as_slice.ensures.value i)) (c.as_slice-2.ensures.keys i))
    ∙ all_named_are set c.ranks_order_rules.ensures c.the_best_has_the_greatest_rank.ensures tree
    (subst IsStrictlyIncreasing (sym its.rules) c.requires.group.group.ascending)
    (subst (All (λ rule. rule < length set.rules)) (sym its.rules) c.requires.group.group.within) names
    c.in_ok-names.ensures
    c.rows-rows.result.now (rows_of set group) c.args.reached.now.found.keys (rows_long set group)
    (subst (λ t. AreIn set t tree (rows_of set group) c.args.reached.now.found.keys) c.rows-rows.ensures its.each) in
    IfOk-weaker c.name_rows.result _ (λ found. found.items ≡ rows_of set group) (λ found is. is ∙ named)
    c.name_rows.ensures
