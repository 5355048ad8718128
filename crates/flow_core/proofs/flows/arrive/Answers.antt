use Rattle.std.proofs.Common.{◌≡◌, ℕ, List, [], true, ap, sym, ◌∙◌, get_or, arith}
use Rattle.std.proofs.lemmas.Option.{get_or_from_slice_get}
use Rattle.flat_table.specs.Word.{index_of, is_match}
use Rattle.flat_table.proofs.Offered.{places_bound}
use Rattle.flow_core.specs.Rows.{joined_into}
use Rattle.flow_core.proofs.flows.arrive.Goals as goal

pub returns-then-is_match-clause-rows : goal.returns-then-is_match-clause-rows
returns-then-is_match-clause-rows c =
    let rows = c.args.table.now.rows in
    let match : is_match c.args.word ≡ true = sym c.is_match.ensures ∙ c.if-is_match.true in
    let row_is : c.row.result.now ≡ get_or rows (index_of c.args.word) [] =
    sym (get_or_from_slice_get rows c.index_of.result c.row.result.now [] c.row.ensures)
    ∙ ap (λ (n : ℕ). get_or rows n []) c.index_of.ensures.value in
    rw match (c.join.ensures
    ∙ ap (λ (row : List ℕ). joined_into c.args.flight.key row c.args.scratch.now) row_is)

pub overflow_add-result : goal.overflow_add-result
overflow_add-result c = omega (
  arith,
  c.requires.onward.depth (sym c.is_match.ensures ∙ c.if-is_match.false),
  places_bound c.args.table.now c.args.flight.trie,
  c.stay_in.ensures.short,
)
