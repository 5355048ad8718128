use Rattle.std.proofs.Common.{◌+◌, [], flat_map, ℕ, List, drop, length, get_or, refl, sym, ◌∙◌, subst, arith}
use Rattle.std.proofs.lemmas.List.{drop_more}
use Rattle.std.proofs.lemmas.List.Sums.{sum_by-drop_more}
use Rattle.std.proofs.lemmas.List.FromFn.{length-map-range_with_len}
use Rattle.group_states.specs.declared.run.Run.{Run}
use Rattle.table_fill.specs.Filled.{match_of, level_len, targets_of, matches_of, node_words}
use Rattle.table_fill.specs.Tries.{AreLevels, HasTargets}
use Rattle.list_lemmas.proofs.Loops.{at_place, writes_more, writes_all}
use Rattle.table_fill.proofs.Given.{has_targets, level_written}
use Rattle.table_fill.proofs.trie.push_trie.Goals as goal

pub push_level-requires-clause-targets : goal.push_level-requires-clause-targets
push_level-requires-clause-targets c =
    let trie = c.args.trie.now in
    let matches : List ℕ = matches_of c.args.row trie in
    let rest : List (List (List Run)) = drop (c.loop-depth.depth + 1) trie.levels in
    let level : List (List Run) = get_or trie.levels c.loop-depth.depth [] in
    let targets_are = at_place (λ n. targets_of n matches rest) c.deref.ensures.value c.in_ok-targets.ensures
    (c.len.ensures ∙ c.loop-depth.words.ok.0) c.level_len.ensures in
    let are = subst (AreLevels (length trie.rows)) (drop_more trie.levels c.loop-depth.depth [] (omega arith))
    c.loop-depth.invariant.2 in
    λ k d within. subst (λ (targets : List ℕ). HasTargets (length targets) (get_or level k d)) (sym targets_are)
    (has_targets (length c.loop-depth.words.items + level_len level) (length trie.rows) matches rest (get_or level k d)
    (length-map-range_with_len match_of c.args.row (length trie.rows)) (are.0 k d within))

pub loop-depth-preserved : goal.loop-depth-preserved
loop-depth-preserved c =
    let trie = c.args.trie.now in
    let matches : List ℕ = matches_of c.args.row trie in
    let rest : List (List (List Run)) = drop (c.loop-depth.depth + 1) trie.levels in
    let level : List (List Run) = get_or trie.levels c.loop-depth.depth [] in
    let targets_are = at_place (λ n. targets_of n matches rest) c.deref.ensures.value c.in_ok-targets.ensures
    (c.len.ensures ∙ c.loop-depth.words.ok.0) c.level_len.ensures in
    let written = level_written c.loop-depth.words.items c.push_level.new.words.items c.deref.result.now matches level
    rest targets_are c.in_ok-push_level.ensures in (
      writes_more [] (flat_map (node_words c.deref.result.now) level) c.loop-depth.invariant.0 (omega arith) refl
          c.in_ok-push_level.ensures written.0,
      omega (arith, written.1, sum_by-drop_more level_len trie.levels c.loop-depth.depth [] (omega arith)),
      (subst (AreLevels (length trie.rows)) (drop_more trie.levels c.loop-depth.depth [] (omega arith))
          c.loop-depth.invariant.2).1,
    )

pub level_len-requires-clause-size : goal.level_len-requires-clause-size
level_len-requires-clause-size c =
    omega (arith, sum_by-drop_more level_len c.args.trie.now.levels c.loop-depth.depth [] (omega arith))

pub overflow_add-after : goal.overflow_add-after
overflow_add-after c =
    omega (
      arith,
      sum_by-drop_more level_len c.args.trie.now.levels c.loop-depth.depth [] (omega arith),
      c.len.ensures ∙ c.loop-depth.words.ok.0,
    )

pub targets_of-requires-clause-size : goal.targets_of-requires-clause-size
targets_of-requires-clause-size c inside =
    omega (
      arith,
      sum_by-drop_more level_len c.args.trie.now.levels c.loop-depth.depth [] (omega arith),
      sum_by-drop_more level_len c.args.trie.now.levels (c.loop-depth.depth + 1) [] inside,
      c.len.ensures ∙ c.loop-depth.words.ok.0,
    )

pub returns : goal.returns
returns c =
    writes_all c.loop-depth.invariant.0 refl (omega (arith, c.loop-depth-test.false, c.depths-depth-end.ensures))
