use Rattle.std.proofs.Common.{◌-◌, ◌<◌, List, [], length, get_or, sym, ◌∙◌, ap, subst, replicate, arith, All}
use Rattle.std.proofs.lemmas.Result.{IfOk-weaker}
use Rattle.acl_audit.specs.declared.links.Link.{Link}
use Rattle.acl_audit.specs.Traced.{traced, AreChained}
use Rattle.acl_audit.proofs.Ready.{way_short, way_chained, way_last, way_long, way_within}
use Rattle.acl_audit.proofs.compare.key_of_row.Goals as goal

pub row_key-requires-clause-len : goal.row_key-requires-clause-len
row_key-requires-clause-len c = way_short _ _ _ _ _ c.in_ok-way.ensures

pub row_key-requires-clause-chained : goal.row_key-requires-clause-chained
row_key-requires-clause-chained c =
    subst AreChained (sym c.as_slice-links.ensures.value) (way_chained _ _ _ _ _ c.in_ok-way.ensures)

pub row_key-requires-clause-row : goal.row_key-requires-clause-row
row_key-requires-clause-row c =
    subst (λ (ls : List (List Link)). c.args.row < length (get_or ls (length ls - 1) []))
    (sym c.as_slice-links.ensures.value) (omega (arith, c.requires.row, way_last _ _ _ _ _ c.in_ok-way.ensures))

pub row_key-requires-clause-long : goal.row_key-requires-clause-long
row_key-requires-clause-long c =
    ap length c.as_slice-places.ensures.value ∙ way_long _ _ _ _ _ c.in_ok-way.ensures
    ∙ ap length (sym c.as_slice-links.ensures.value)

pub row_key-requires-clause-places : goal.row_key-requires-clause-places
row_key-requires-clause-places c =
    subst (All (λ place. place < c.in_ok-way.way.key_len)) (sym c.as_slice-places.ensures.value)
    (way_within _ _ _ _ _ c.in_ok-way.ensures)

pub returns : goal.returns
returns c =
    let way = c.in_ok-way.ensures in
    let links_are = c.as_slice-links.ensures.value ∙ way.links_are in
    let places_are = c.as_slice-places.ensures.value ∙ way.places_are in
    IfOk-weaker c.row_key.result _ _
    (λ key is. is ∙ (λ i. traced (links_are i) (places_are i) (length (links_are i)) c.args.row
    (replicate (way.len_is i) 0))) c.row_key.ensures
