use Rattle.pcapng_reader.proofs.FollowLaws.{whole-follows}
use Rattle.pcapng_reader.proofs.laws.records_follow_a_whole_capture.Goals as goal

pub returns : goal.returns
returns c = whole-follows c.args.front.now c.args.after.now
