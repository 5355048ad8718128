use Rattle.std.proofs.Common.{◌∙◌, List, ℕ, sym, ap}
use Rattle.flow_core.specs.Rows.{joined_row}
use Rattle.flow_core.proofs.Join.{greater_words, joined_zero}
use Rattle.flow_core.proofs.scratch.join_rows.Goals as goal

pub returns : goal.returns
returns c = greater_words c.args.row.now c.args.other.now c.told-row c.told-other

pub returns-then-is_zero : goal.returns-then-is_zero
returns-then-is_zero c =
    joined_zero c.args.other.now c.told-other
    ∙ sym (ap (λ (row : List ℕ). joined_row row c.args.other.now) (c.is_zero.ensures c.if-is_zero.true))
