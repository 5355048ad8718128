use Rattle.std.proofs.Common.{◌≡◌, ℕ, List, ◌+◌, ◌-◌, ◌∙◌, [], sym, ap, arith, length, refl, get_or, drop, take, sum, map}
use Rattle.std.proofs.Math.Path.{subst}
use Rattle.std.proofs.lemmas.Result.{err_from_is_err_and}
use Rattle.flat_table.specs.Groups.{depth_of}
use Rattle.flat_table.specs.Table.{levels_from, portions}
use Rattle.table_image.specs.ImageReading.{Reading, words_of_levels, words_of_tries}
use Rattle.table_image.specs.Loading.{IsFaultOf, levels_of_tries}
use Rattle.table_image.proofs.Readings.{both}
use Rattle.table_image.proofs.Loops.{fault_of_both, fault_of_same, trie_turn, trie_words_more, tries_words_end}
use Rattle.table_image.proofs.words.read_words.Goals as goal

pub returns-in_err-read_levels-clause-fault : goal.returns-in_err-read_levels-clause-fault
returns-in_err-read_levels-clause-fault c =
    let groups : List ℕ = c.as_slice-groups.result.now in
    let lens : List ℕ = c.as_slice-lens.result.now in
    let i : ℕ = c.loop-kept.kept-index in
    let first : ℕ = c.loop-kept.first in
    let items : List ℕ = c.loop-kept.words.items in
    let depth : ℕ → ℕ = depth_of c.args.key_len in
    let d : ℕ = depth (get_or groups i 0) in
    let p : ℕ = length items in
    let read : ℕ → Reading (List ℕ) = λ n. words_of_levels c.args.rows c.args.bytes.now c.args.tries.now.end
    (levels_from p (take n (drop first lens))) items in
    let count : first + c.depth_of.result - first ≡ d = omega (arith, c.depth_of.ensures.value) in
    let fault = subst (λ n. IsFaultOf (read n) c.in_err-read_levels.field-0.0) count c.in_err-read_levels.ensures.fault
    in
    let whole : words_of_tries c.args.rows c.args.bytes.now c.args.tries.now.end
    (levels_of_tries c.args.key_len c.args.tries.now.kept.items c.args.tries.now.level_lens.items) []
    ≡ words_of_tries c.args.rows c.args.bytes.now c.args.tries.now.end (levels_of_tries c.args.key_len groups lens) [] =
    rw (c.as_slice-groups.ensures.value, c.as_slice-lens.ensures.value) refl in
    let failed = err_from_is_err_and c.from_residual-in_err-read_levels.result
    c.from_residual-in_err-read_levels.ensures.1 in
    rw (failed.1, failed.2) (fault_of_same _ _ _ (whole ∙ c.loop-kept.invariant.rest
    ∙ trie_words_more c.args.rows c.args.bytes.now c.args.tries.now.end depth i p groups (drop first lens) items
    (omega arith))
    (fault_of_both (read d) (words_of_tries c.args.rows c.args.bytes.now c.args.tries.now.end
    (portions (map depth (drop (i + 1) groups)) (levels_from (p + sum (take d (drop first lens)))
    (drop d (drop first lens)))))
    c.in_err-read_levels.field-0.0 fault))

pub loop-kept-preserved : goal.loop-kept-preserved
loop-kept-preserved c =
    let groups : List ℕ = c.as_slice-groups.result.now in
    let lens : List ℕ = c.as_slice-lens.result.now in
    let i : ℕ = c.loop-kept.kept-index in
    let first : ℕ = c.loop-kept.first in
    let items : List ℕ = c.loop-kept.words.items in
    let now : List ℕ = c.read_levels.new.words.items in
    let depth : ℕ → ℕ = depth_of c.args.key_len in
    let d : ℕ = depth (get_or groups i 0) in
    let p : ℕ = length items in
    let read : ℕ → Reading (List ℕ) = λ n. words_of_levels c.args.rows c.args.bytes.now c.args.tries.now.end
    (levels_from p (take n (drop first lens))) items in
    let count : first + c.depth_of.result - first ≡ d = omega (arith, c.depth_of.ensures.value) in
    let next : first + c.depth_of.result ≡ first + d = omega (arith, c.depth_of.ensures.value) in
    let turn = trie_turn depth i first groups lens (omega arith) c.loop-kept.invariant.levels in
    let sums : sum (take (first + c.depth_of.result - first) (drop first lens)) ≡ sum (take d (drop first lens)) =
    ap (λ n. sum (take n (drop first lens))) count in
    let long : length now ≡ p + sum (take d (drop first lens)) = c.in_ok-read_levels.ensures.len
    ∙ ap (λ n. p + n) sums in
    record {
      rest = c.loop-kept.invariant.rest
          ∙ trie_words_more c.args.rows c.args.bytes.now c.args.tries.now.end depth i p groups (drop first lens) items
          (omega arith)
          ∙ both (read d) (words_of_tries c.args.rows c.args.bytes.now c.args.tries.now.end
          (portions (map depth (drop (i + 1) groups)) (levels_from (p + sum (take d (drop first lens)))
          (drop d (drop first lens))))) now _
          (ap read (sym count) ∙ c.in_ok-read_levels.ensures.words) refl
          ∙ ap (λ n. words_of_tries c.args.rows c.args.bytes.now c.args.tries.now.end
          (portions (map depth (drop (i + 1) groups)) (levels_from n (drop d (drop first lens)))) now) (sym long)
          ∙ ap (λ xs. words_of_tries c.args.rows c.args.bytes.now c.args.tries.now.end
          (portions (map depth (drop (i + 1) groups)) (levels_from (length now) xs)) now)
          (turn.back ∙ ap (λ n. drop n lens) (sym next));
      levels = omega (arith, turn.levels, next);
      len = ap (λ n. length now + sum (drop n lens)) next ∙ omega (arith, long, turn.words, c.loop-kept.invariant.len);
      inside = c.in_ok-read_levels.ensures.inside;
    }

pub returns-clause-words : goal.returns-clause-words
returns-clause-words c =
    let groups : List ℕ = c.as_slice-groups.result.now in
    let lens : List ℕ = c.as_slice-lens.result.now in
    let whole : words_of_tries c.args.rows c.args.bytes.now c.args.tries.now.end
    (levels_of_tries c.args.key_len c.args.tries.now.kept.items c.args.tries.now.level_lens.items) []
    ≡ words_of_tries c.args.rows c.args.bytes.now c.args.tries.now.end (levels_of_tries c.args.key_len groups lens) [] =
    rw (c.as_slice-groups.ensures.value, c.as_slice-lens.ensures.value) refl in
    whole ∙ c.loop-kept.invariant.rest
    ∙ tries_words_end c.args.rows c.args.bytes.now c.args.tries.now.end (depth_of c.args.key_len) c.loop-kept.kept-index
    (length c.loop-kept.words.items) groups (drop c.loop-kept.first lens) c.loop-kept.words.items (omega arith)
