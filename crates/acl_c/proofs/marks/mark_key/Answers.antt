-- Each turn writes the mark of one category more.
use Rattle.std.proofs.Common.{◌≡◌, ℕ, List, ◌∷◌, [], ◌++◌, Bool, false, map, take, length, slice_index_or, length-set}
use Rattle.std.proofs.Common.{ap, sym, ◌∙◌, arith}
use Rattle.std.proofs.lemmas.List.{map-append, take_all, take_more, take_more_set}
use Rattle.acl_c.specs.Marks.{mark_of, key_marks}
use Rattle.acl_c.proofs.Marking.{marks_of_winners}
use Rattle.acl_c.proofs.marks.mark_key.Goals as goal

pub loop-category-preserved : goal.loop-category-preserved
loop-category-preserved c =
    let l = c.loop-category in
    let won = c.winners.new.won in
    let one : Bool = slice_index_or won l.category false in
    let mark : ℕ = c.mark_of.result in
    let here = c.loop-category-test.true in
    record {
      len = length-set l.marks l.category mark ∙ l.invariant.len;
      written =
          take_more_set l.marks l.category mark (omega (arith, here, l.invariant.len))
          ∙ (λ i. l.invariant.written i ++ c.mark_of.ensures i ∷ [])
          ∙ sym (ap (map mark_of)
          (take_more won l.category false (omega (arith, here, c.requires.few, c.winners.array_long)))
          ∙ map-append mark_of (take l.category won) (one ∷ []));
    }

pub returns : goal.returns
returns c =
    let l = c.loop-category in
    let all : l.category ≡ length c.args.marks.now = omega (arith, l.auto.category-end, c.loop-category-test.false) in
    sym (take_all l.category l.marks (omega (arith, l.invariant.len)))
    ∙ l.invariant.written
    ∙ ap (λ (won : List Bool). map mark_of (take l.category won)) c.winners.ensures
    ∙ marks_of_winners c.args.table.now c.args.key.now l.category (omega (arith, c.requires.few))
    ∙ ap (λ (n : ℕ). key_marks c.args.table.now n c.args.key.now) all
