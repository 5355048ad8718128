use Rattle.std.proofs.Common.{◌≡◌, ◌∙◌, refl, sym, Ok, Err}
use Rattle.std.proofs.lemmas.Result.{err_from_is_err_and}
use Rattle.table_image.specs.ImageReading.{kept_groups}
use Rattle.table_image.proofs.tries.Tries.read_one.Goals as goal

pub returns-in_err-kept-clause-fault : goal.returns-in_err-kept-clause-fault
returns-in_err-kept-clause-fault c =
    let read : kept_groups c.args.version c.args.key_len c.args.bytes.now c.args.self.now.end
    ≡ Err c.in_err-kept.field-0.0 = sym c.kept_groups.ensures.kept ∙ c.in_err-kept.was in
    let failed = err_from_is_err_and c.from_residual.result c.from_residual.ensures.1 in
    rw (failed.1, failed.2) (rw read refl)

pub returns-clause-trie : goal.returns-clause-trie
returns-clause-trie c =
    let read : kept_groups c.args.version c.args.key_len c.args.bytes.now c.args.self.now.end
    ≡ Ok c.in_ok-kept.kept = sym c.kept_groups.ensures.kept ∙ c.in_ok-kept.was in
    rw read (rw c.depth_of-depth.ensures.value at c.read_kept.ensures.trie)

pub returns-clause-fault : goal.returns-clause-fault
returns-clause-fault c =
    let read : kept_groups c.args.version c.args.key_len c.args.bytes.now c.args.self.now.end
    ≡ Ok c.in_ok-kept.kept = sym c.kept_groups.ensures.kept ∙ c.in_ok-kept.was in
    rw read (rw c.depth_of-depth.ensures.value at c.read_kept.ensures.fault)
