use Rattle.std.proofs.Common.{◌≡◌, ℕ, ◌-◌, List, [], get_or, sym, ◌∙◌, ap, subst, arith, Ok, Err, OnOk, IfOk, Result}
use Rattle.std.specs.Str.{bytes_eq}
use Rattle.state_parts.specs.Keys.{KeyAt}
use Rattle.state_parts.specs.Rows.{join_rows, IsRow}
use Rattle.state_parts.proofs.RowLaws.{join-none, join_same, no_row, row_is, row_of_number, joined_row}
use Rattle.state_parts.proofs.rows.Rows.join.Goals as goal

pub returns-then-right-eq0-clause-joins : goal.returns-then-right-eq0-clause-joins
returns-then-right-eq0-clause-joins c = λ one other left right.
    let rows : List (List ℕ) = c.args.self.now.rows in
    let none : other ≡ [] = no_row rows other (subst (IsRow rows other) c.if-right-eq0.true right) in
    subst (λ row. IsRow rows row c.args.left) (sym (ap (join_rows one) none ∙ join-none one)) left

pub returns-then-left-right-clause-joins : goal.returns-then-left-right-clause-joins
returns-then-left-right-clause-joins c = λ one other left right.
    let rows : List (List ℕ) = c.args.self.now.rows in
    let same : one ≡ other = row_is rows one other c.args.left left
    (subst (IsRow rows other) (sym c.if-left-right.true) right) in
    subst (λ row. IsRow rows row c.args.left) (sym (ap (join_rows one) (sym same) ∙ join_same one)) left

-- what follows from two clauses on one result
from_both : {T E A : Type 0} (r : Result T E) {P Q : T → Type 0} → OnOk r A → IfOk r P →
    (A → (x : T) → P x → Q x) → IfOk r Q
from_both (Ok x) a p f = f a x p
from_both (Err e) a p f = tt

pub returns-clause-joins : goal.returns-clause-joins
returns-clause-joins c =
    from_both c.number.result c.number.ensures.grows c.number.ensures.number (λ grown number at one other left right.
    (let old : List (List ℕ) = c.args.self.now.rows in
    let new : List (List ℕ) = c.number.new.self.rows in
    let first : get_or old (c.args.left - 1) [] ≡ one =
    row_of_number old grown.0 one c.args.left (omega (arith, c.if-left-eq0.false)) c.requires.left
    (subst (λ rows. IsRow rows one c.args.left) grown.1 left) in
    let second : get_or old (c.args.right - 1) [] ≡ other =
    row_of_number old grown.0 other c.args.right (omega (arith, c.if-right-eq0.false)) c.requires.right
    (subst (λ rows. IsRow rows other c.args.right) grown.1 right) in
    let is : c.join_rows-row.result ≡ join_rows one other = c.join_rows-row.ensures
    ∙ (λ i. join_rows ((c.row.ensures ∙ first) i) ((c.row-2.ensures ∙ second) i)) in
    joined_row new one other c.args.left number (omega (arith, c.if-left-eq0.false)) left
    (subst (λ row. KeyAt bytes_eq new row number) is at)))
