use Rattle.std.proofs.Common.{inl, ap}
use Rattle.table_image.specs.Loading.{pair_of}
use Rattle.acl_tool.specs.ReplayPlan.{refused_image}
use Rattle.acl_tool.proofs.ReplayEnds.{image_keys}
use Rattle.acl_tool.proofs.replay.load_image.Goals as goal

pub returns-in-Ok-clause-tables : goal.returns-in-Ok-clause-tables
returns-in-Ok-clause-tables c = ap refused_image c.in-Ok.ensures.pair

pub returns-in-Ok-clause-ip4 : goal.returns-in-Ok-clause-ip4
returns-in-Ok-clause-ip4 c = (image_keys c.args.bytes.now (pair_of c.in-Ok.pair) c.in-Ok.ensures.image).0

pub returns-in-Ok-clause-ip6 : goal.returns-in-Ok-clause-ip6
returns-in-Ok-clause-ip6 c = (image_keys c.args.bytes.now (pair_of c.in-Ok.pair) c.in-Ok.ensures.image).1

pub returns-in-Err-Image-clause-fault : goal.returns-in-Err-Image-clause-fault
returns-in-Err-Image-clause-fault c =
    inl (ap refused_image (rw c.in-Err-Image.field-0-is at c.in-Err-Image.ensures.fault))
