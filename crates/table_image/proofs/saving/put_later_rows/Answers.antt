use Rattle.std.proofs.Common.{◌≡◌, ℕ, List, [], ◌∷◌, ◌∙◌, sym, ap, arith, length, get_or}
use Rattle.std.specs.List.{list_all}
use Rattle.std.proofs.lemmas.Result.{on_ok_weaker}
use Rattle.flat_table.specs.Sound.{begins_with_zeros}
use Rattle.table_image.specs.Spelling.{is_row}
use Rattle.table_image.proofs.Written.{zeros_typed}
use Rattle.table_image.proofs.saving.put_later_rows.Goals as goal

pub returns-clause-typed : goal.returns-clause-typed
returns-clause-typed c =
    let rows : c.args.rows.now ≡ c.in-Some._zeros.now ∷ c.in-Some.later.now = c.in-Some.ensures.cases.0 in
    let len : length c.in-Some._zeros.now ≡ 16 =
    ap (λ (all : List (List ℕ)). length (get_or all 0 [])) (sym rows) ∙ c.told-rows 0 (omega (arith, ap length rows)) in
    on_ok_weaker c.put_rows.result (λ later. ap (list_all is_row) rows
    ∙ zeros_typed c.in-Some._zeros.now c.in-Some.later.now len (ap begins_with_zeros (sym rows) ∙ c.requires) later)
    c.put_rows.ensures.typed
