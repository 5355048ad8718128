use Rattle.std.proofs.Common.{◌≡◌, ℕ, List, ◌++◌, length, replicate, sym, ◌∙◌, ap, arith}
use Rattle.std.specs.List.{flat_map, range_with_len}
use Rattle.acl_audit.specs.Traced.{traced, keys_traced}
use Rattle.acl_audit.proofs.trace.row_keys.Goals as goal
use Rattle.list_lemmas.proofs.Ranges.{parts_more}

pub loop-row-preserved : goal.loop-row-preserved
loop-row-preserved c =
    let links = c.args.links.now in
    let key : ℕ → List ℕ = λ row. traced links c.args.places.now (length links) row (replicate c.args.key_len 0) in
    c.in_ok-push_key.ensures ∙ ap (λ (keys : List ℕ). keys ++ key c.loop-row.row) c.loop-row.invariant
    ∙ sym (parts_more key c.loop-row.row)

pub returns : goal.returns
unfolding keys_traced
returns c =
    let links = c.args.links.now in
    let key : ℕ → List ℕ = λ row. traced links c.args.places.now (length links) row (replicate c.args.key_len 0) in
    let all : c.loop-row.row ≡ c.args.rows = omega arith in
    c.loop-row.invariant ∙ ap (λ n. flat_map key (range_with_len 0 n)) all
