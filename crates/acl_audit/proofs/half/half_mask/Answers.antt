use Rattle.acl_audit.proofs.Masking.{half_mask_code}
use Rattle.acl_audit.proofs.half.half_mask.Goals as goal

pub returns : goal.returns
returns c = half_mask_code c.args.tag.now c.args.half c.args.list c.requires.list
