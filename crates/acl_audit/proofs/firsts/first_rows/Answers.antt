use Rattle.std.proofs.Common.{◌≡◌, ℕ, ◌+◌, ◌-◌, ◌<◌, [], ◌++◌, length, take, drop, get_or, sym, ◌∙◌, ap, subst, arith}
use Rattle.acl_audit.specs.Firsts.{row_noted}
use Rattle.acl_audit.proofs.Noting.{FirstsFrom, one_more_row, no_rows_yet, are_firsts, whole_written}
use Rattle.acl_audit.proofs.firsts.first_rows.Goals as goal

pub loop-passed-init : goal.loop-passed-init
loop-passed-init c =
    let rows = c.args.levels.now.rows in
    let e : length rows ≡ length rows - 0 = omega arith in
    subst (λ n. FirstsFrom rows c.args.count n c.in_ok-table.table.items) e
    (subst (FirstsFrom rows c.args.count (length rows)) (sym c.in_ok-table.ensures) (no_rows_yet rows c.args.count))

pub loop-passed-preserved : goal.loop-passed-preserved
loop-passed-preserved c =
    let rows = c.args.levels.now.rows in
    let passed : ℕ = c.loop-passed.passed in
    let row : ℕ = length rows - 1 - passed in
    let old = c.loop-passed.table.items in
    let within : passed < length rows = omega (arith, c.loop-passed-test.true, c.rows-passed-end.ensures) in
    let before : length rows - passed ≡ length rows - 1 - passed + 1 = omega (arith, within) in
    let after : length rows - 1 - passed ≡ length rows - (passed + 1) = omega (arith, within) in
    let noted = one_more_row rows c.args.count (length rows - 1 - passed) old (omega (arith, within)) c.requires.rows
    c.requires.whole
    (subst (λ n. FirstsFrom rows c.args.count n old) before c.loop-passed.invariant) in
    let is : c.note_row.new.table ≡ row_noted old (length rows - 1 - passed + 1) 0
    (get_or rows (length rows - 1 - passed) []) =
    c.note_row.ensures
    ∙ (λ i. row_noted (c.deref_mut.ensures.value i) (c.rows.ensures i - 1 - passed + 1) 0
    ((c.row.ensures ∙ ap (λ n. get_or rows (n - 1 - passed) []) c.rows.ensures) i)) in
    let new = subst (FirstsFrom rows c.args.count (length rows - 1 - passed)) (sym is) noted in
    let whole = whole_written c.loop-passed.table.len c.note_row.new.table old
    (new.table_is.long ∙ sym c.loop-passed.invariant.table_is.long) c.loop-passed.table.ok.0 in
    subst (λ n. FirstsFrom rows c.args.count n
    (take c.loop-passed.table.len (c.note_row.new.table ++ drop (length c.note_row.new.table) old))) after
    (subst (FirstsFrom rows c.args.count (length rows - 1 - passed)) (sym whole) new)

pub returns : goal.returns
returns c =
    let rows = c.args.levels.now.rows in
    let all : length rows - c.loop-passed.passed ≡ 0 =
    omega (arith, c.loop-passed-test.false, c.rows-passed-end.ensures) in
    are_firsts rows c.args.count c.loop-passed.table.items
    (subst (λ n. FirstsFrom rows c.args.count n c.loop-passed.table.items) all c.loop-passed.invariant)
