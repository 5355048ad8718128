use Rattle.std.proofs.Common.{◌≡◌, ℕ, ◌<◌, List, length, cond, ◌/◌, ◌%◌, ◌^◌, ◌==◌, sym, ◌∙◌, ap, arith}
use Rattle.std.proofs.lemmas.List.{length-set}
use Rattle.state_parts.proofs.RowLaws.{set_done, set_left, stay_done, rule_done}
use Rattle.state_parts.proofs.rows.row_of_rule.Goals as goal
use Rattle.state_parts.proofs.rows.row_of_rule.Goals.{then-is_in, else-is_in}

pub loop-category-preserved : goal.loop-category-preserved
loop-category-preserved c =
    let inv = c.loop-category.invariant in
    let k : ℕ = c.loop-category.category in
    let row : List ℕ = c.loop-category.row in
    let f : ℕ → ℕ = λ n. cond (c.args.rule.mask / 2 ^ n % 2 == 1) c.args.rule.rank 0 in
    let below : k < length row = omega (arith, inv.0, c.loop-category-test.true) in
    elim c.if-is_in.branch [
      | then-is_in w ↦
          let is : c.args.rule.rank ≡ f k = sym (ap (λ b. cond b c.args.rule.rank 0)
          (sym c.is_in.ensures ∙ w.if-is_in.true)) in
          rw w.row-is (
            length-set row k c.args.rule.rank ∙ inv.0,
            set_done row f k c.args.rule.rank below is inv.1,
            set_left row (λ n. 0) k c.args.rule.rank inv.2,
          )
      | else-is_in w ↦
          let is : 0 ≡ f k = sym (ap (λ b. cond b c.args.rule.rank 0)
          (sym c.is_in.ensures ∙ w.if-is_in.false)) in
          rw w.row-is (
            inv.0,
            stay_done row f k (inv.2 k (omega arith) ∙ is) inv.1,
            λ n above. inv.2 n (omega (arith, above)),
          )
    ]

pub returns : goal.returns
returns c =
    let inv = c.loop-category.invariant in
    rule_done c.loop-category.row c.args.rule inv.0
    (λ k below. inv.1 k (omega (arith, below, c.loop-category-test.false)))
