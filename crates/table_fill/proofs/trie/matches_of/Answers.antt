use Rattle.std.proofs.Common.{◌≡◌, ℕ, ◌++◌, ◌∷◌, [], ◌+◌, length, map, refl, sym, ap, ◌∙◌, arith}
use Rattle.std.specs.List.{range_with_len}
use Rattle.std.proofs.lemmas.List.FromFn.{map-range_with_len_more}
use Rattle.table_fill.specs.Filled.{match_of}
use Rattle.table_fill.proofs.trie.matches_of.Goals as goal

pub loop-number-preserved : goal.loop-number-preserved
loop-number-preserved c =
    c.in_ok-push.ensures.items
    ∙ (λ i. c.loop-number.invariant i ++ c.match_of.ensures i ∷ [])
    ∙ sym (map-range_with_len_more match_of c.args.row c.loop-number.number (c.args.row + c.loop-number.number) refl)

pub returns : goal.returns
returns c =
    let number : ℕ = c.loop-number.number in
    let all : number ≡ length c.args.trie.now.rows =
    omega (arith, c.loop-number.auto.number-end, c.loop-number-test.false, c.rows-number-end.ensures) in
    c.loop-number.invariant ∙ ap (λ n. map match_of (range_with_len c.args.row n)) all
