use Rattle.text_scan.proofs.Addresses.{ip6_of-gap}
use Rattle.text_scan.proofs.laws.ip6_is_cut_anywhere.Goals as goal

pub returns : goal.returns
returns c = ip6_of-gap c.args.before.now c.args.after.now c.requires.before c.requires.after c.requires.few
