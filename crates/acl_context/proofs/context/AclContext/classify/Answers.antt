use Rattle.std.proofs.Common.{◌≡◌, ◌≤◌, ap, ◌∙◌, sym, arith}
use Rattle.std.proofs.lemmas.Bool.Decides.{nat_tests}
use Rattle.field_defs.specs.Layout.{key_len_of}
use Rattle.table_sizes.specs.Sizes.{row_len}
use Rattle.acl_context.specs.Context.{ContextView}
use Rattle.acl_context.proofs.Serving.{batch_by_rules, are_bytes_from_fits}
use Rattle.acl_context.proofs.context.AclContext.classify.Goals as goal
use Rattle.list_lemmas.proofs.Numbers.{whole_of_lengths}

pub returns-in-Some-clause-served : goal.returns-in-Some-clause-served
returns-in-Some-clause-served g c = λ set.
    let keys = c.args.keys.now in
    let table = c.in-Some.table in
    let few : c.args.cats.count ≤ row_len = grind (arith, nat_tests, c.args.cats.lawful) in
    let of_layout : table.key_len ≡ key_len_of c.args.self.now.set.layout =
    (rw c.in-Some.is at c.self.invariant.keys)
    ∙ ap (λ (context : ContextView). key_len_of context.set.layout) c.self.view_is in
    rw (sym (ap (λ (context : ContextView). context.table) c.self.view_is), c.in-Some.is) (λ serves.
    c.classify_by.ensures.verdicts
    ∙ batch_by_rules set table c.args.cats.count keys serves few
    (are_bytes_from_fits keys (λ k. omega (arith, c.type_inv.keys k)))
    (whole_of_lengths keys _ _ (sym of_layout ∙ serves.key_len) c.requires.fits.whole))
