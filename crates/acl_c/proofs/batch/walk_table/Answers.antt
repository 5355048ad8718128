use Rattle.std.proofs.Common.{◌≤◌, ◌∙◌, arith}
use Rattle.std.proofs.lemmas.Bool.Decides.{nat_tests}
use Rattle.table_sizes.specs.Sizes.{row_len}
use Rattle.acl_c.proofs.Serving.{batch_by_rules}
use Rattle.acl_context.proofs.Offered.{are_bytes_from_fits}
use Rattle.acl_c.proofs.batch.walk_table.Goals as goal

pub returns-clause-served : goal.returns-clause-served
returns-clause-served g c = λ set serves.
    let keys = c.args.keys.now in
    let few : c.args.asked.cats.count ≤ row_len = grind (arith, nat_tests, c.args.asked.cats.lawful) in
    c.classify_by.ensures.verdicts
    ∙ batch_by_rules set c.args.table.now c.args.asked.cats.count keys serves few
    (are_bytes_from_fits keys (λ k. omega (arith, c.type_inv.keys k))) c.requires.fits.whole
