use Rattle.std.proofs.Common.{sym, arith}
use Rattle.std.proofs.lemmas.Result.{err_from_is_err_and}
use Rattle.table_image.specs.Loading.{table_of_read}
use Rattle.table_image.specs.Spelling.{PairView}
use Rattle.table_image.proofs.Fields.{are_bytes}
use Rattle.table_image.proofs.ImageSteps.{version_fault, ip4_fault, ip6_fault, end_fault, pair_is}
use Rattle.table_image.proofs.Images.{either, image_read}
use Rattle.table_image.proofs.loading.load.Goals as goal

pub returns-in_err-version-clause-fault : goal.returns-in_err-version-clause-fault
returns-in_err-version-clause-fault c =
    let failed = err_from_is_err_and c.from_residual.result c.from_residual.ensures.1 in
    rw (failed.1, failed.2) (version_fault c.args.bytes.now c.in_err-version.field-0.0
    (sym c.in_err-version.ensures.version))

pub returns-in_err-ip4-clause-fault : goal.returns-in_err-ip4-clause-fault
returns-in_err-ip4-clause-fault c =
    let failed = err_from_is_err_and c.from_residual-in_err-ip4.result c.from_residual-in_err-ip4.ensures.1 in
    rw (failed.1, failed.2) (ip4_fault c.args.bytes.now c.in_ok-version.version (sym c.in_ok-version.ensures.version)
    c.in_err-ip4.field-0.0 c.in_err-ip4.ensures.fault)

pub returns-in_err-ip6-clause-fault : goal.returns-in_err-ip6-clause-fault
returns-in_err-ip6-clause-fault c =
    let failed = err_from_is_err_and c.from_residual-in_err-ip6.result c.from_residual-in_err-ip6.ensures.1 in
    rw (failed.1, failed.2) (ip6_fault c.args.bytes.now c.in_ok-version.version (sym c.in_ok-version.ensures.version)
    (table_of_read c.in_ok-ip4.ip4) c.in_ok-ip4.ensures.table c.in_err-ip6.field-0.0 c.in_err-ip6.ensures.fault)

pub returns-in_err-checked-clause-fault : goal.returns-in_err-checked-clause-fault
returns-in_err-checked-clause-fault c =
    let failed = err_from_is_err_and c.from_residual-in_err-checked.result c.from_residual-in_err-checked.ensures.1 in
    rw (failed.1, failed.2) (end_fault c.args.bytes.now c.in_ok-version.version (sym c.in_ok-version.ensures.version)
    (table_of_read c.in_ok-ip4.ip4) c.in_ok-ip4.ensures.table (table_of_read c.in_ok-ip6.ip6) c.in_ok-ip6.ensures.table
    tt c.in_err-checked.field-0.0 (sym c.in_err-checked.ensures))

pub returns-clause-pair : goal.returns-clause-pair
returns-clause-pair c =
    pair_is c.args.bytes.now c.in_ok-version.version (sym c.in_ok-version.ensures.version)
    (table_of_read c.in_ok-ip4.ip4) c.in_ok-ip4.ensures.table (table_of_read c.in_ok-ip6.ip6) c.in_ok-ip6.ensures.table
    tt (sym c.in_ok-checked.ensures)

pub returns-clause-image : goal.returns-clause-image
returns-clause-image c =
    let is = pair_is c.args.bytes.now c.in_ok-version.version (sym c.in_ok-version.ensures.version)
    (table_of_read c.in_ok-ip4.ip4) c.in_ok-ip4.ensures.table (table_of_read c.in_ok-ip6.ip6) c.in_ok-ip6.ensures.table
    tt (sym c.in_ok-checked.ensures) in
    let pair : PairView = record { ip4 = c.in_ok-ip4.ip4.table; ip6 = c.in_ok-ip6.ip6.table } in
    either c.args.bytes.now pair (image_read c.args.bytes.now pair
    (are_bytes c.args.bytes.now (λ k. omega (arith, c.type_inv.bytes k))) is)
