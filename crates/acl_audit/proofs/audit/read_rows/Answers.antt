use Rattle.std.proofs.Common.{◌-◌, ◌<◌, ◌≤◌, List, [], length, get_or, sym, ◌∙◌, ap, subst, arith, All}
use Rattle.acl_audit.specs.declared.links.Link.{Link}
use Rattle.acl_audit.specs.Firsts.{AreFirsts}
use Rattle.acl_audit.specs.Traced.{keys_traced, AreChained}
use Rattle.acl_audit.proofs.Ready.{rows_few, rows_fit, rows_wide, way_short, way_chained, way_last, way_long}
use Rattle.acl_audit.proofs.Ready.{way_within, way_has_keys, way_tells}
use Rattle.acl_audit.proofs.audit.read_rows.Goals as goal

pub first_rows-requires-clause-rows : goal.first_rows-requires-clause-rows
first_rows-requires-clause-rows c =
    subst (λ n. All (All (λ entry. entry ≤ n)) c.args.levels.now.rows) (sym c.len-count.ensures)
    (rows_fit c.args.rules.now c.args.levels.now c.requires.way.its)

pub first_rows-requires-clause-whole : goal.first_rows-requires-clause-whole
first_rows-requires-clause-whole c = rows_wide c.args.rules.now c.args.levels.now c.requires.way.its

pub first_rows-requires-clause-few : goal.first_rows-requires-clause-few
first_rows-requires-clause-few c = rows_few c.args.rules.now c.args.levels.now c.requires.way.its c.requires.within

pub row_keys-requires-clause-len : goal.row_keys-requires-clause-len
row_keys-requires-clause-len c = way_short _ _ _ _ _ c.requires.way

pub row_keys-requires-clause-chained : goal.row_keys-requires-clause-chained
row_keys-requires-clause-chained c =
    subst AreChained (sym c.as_slice-links.ensures.value) (way_chained _ _ _ _ _ c.requires.way)

pub row_keys-requires-clause-rows : goal.row_keys-requires-clause-rows
row_keys-requires-clause-rows c =
    subst (λ (ls : List (List Link)). c.rows-rows.result ≤ length (get_or ls (length ls - 1) []))
    (sym c.as_slice-links.ensures.value) (omega (arith, c.rows-rows.ensures, way_last _ _ _ _ _ c.requires.way))

pub row_keys-requires-clause-long : goal.row_keys-requires-clause-long
row_keys-requires-clause-long c =
    ap length c.as_slice-places.ensures.value ∙ way_long _ _ _ _ _ c.requires.way
    ∙ ap length (sym c.as_slice-links.ensures.value)

pub row_keys-requires-clause-places : goal.row_keys-requires-clause-places
row_keys-requires-clause-places c =
    subst (All (λ place. place < c.args.way.now.key_len)) (sym c.as_slice-places.ensures.value)
    (way_within _ _ _ _ _ c.requires.way)

pub invariant_of-result : goal.invariant_of-result
invariant_of-result c =
    let firsts_are = subst (λ n. AreFirsts c.args.levels.now.rows n c.in_ok-firsts.firsts.items) c.len-count.ensures
    c.in_ok-firsts.ensures in
    way_has_keys c.args.rules.now c.args.levels.now _ _ _ c.requires.way c.in_ok-firsts.firsts.items
    c.in_ok-keys.keys.items firsts_are
    (c.in_ok-keys.ensures ∙ (λ i. keys_traced (c.as_slice-links.ensures.value i) (c.as_slice-places.ensures.value i)
    c.args.way.now.key_len (c.rows-rows.ensures i)))

pub returns : goal.returns
returns c =
    let firsts_are = subst (λ n. AreFirsts c.args.levels.now.rows n c.in_ok-firsts.firsts.items) c.len-count.ensures
    c.in_ok-firsts.ensures in
    way_tells c.args.rules.now c.args.levels.now _ _ _ c.requires.way c.in_ok-firsts.firsts.items
    c.in_ok-keys.keys.items firsts_are
    (c.in_ok-keys.ensures ∙ (λ i. keys_traced (c.as_slice-links.ensures.value i) (c.as_slice-places.ensures.value i)
    c.args.way.now.key_len (c.rows-rows.ensures i)))
