use Rattle.std.proofs.Common.{Some, ap, ◌∙◌}
use Rattle.table_image.specs.Loading.{pair_of_tables}
use Rattle.acl_c.proofs.Loading.{loads_pair, loads_none}
use Rattle.acl_c.proofs.image_exports.aclc_proved_load.Goals as goal

pub returns-in-Ok-clause-empty : goal.returns-in-Ok-clause-empty
returns-in-Ok-clause-empty c = λ none4 none6.
    let held = c.in-Ok.ensures in
    rw (c.put.ensures ∙ ap Some held.ip4, c.put-in-Ok.ensures ∙ ap Some held.ip6, held.placed)
    (loads_pair c.args.image.now (pair_of_tables c.in-Ok.pair.ip4.value.table c.in-Ok.pair.ip6.value.table)
    c.args.place.now held.pair)

pub returns-in-Err-clause-empty : goal.returns-in-Err-clause-empty
returns-in-Err-clause-empty c = λ none4 none6.
    loads_none c.args.image.now c.args.ip4.now.slot.inside c.args.ip6.now.slot.inside c.args.place.now
    c.load_pair.new.place c.in-Err.code c.in-Err.ensures.fault c.in-Err.ensures.memory none4 none6
