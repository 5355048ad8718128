use Rattle.pcapng_reader.proofs.CaptureLaws.{records-step}
use Rattle.pcapng_reader.proofs.laws.each_record_is_next.Goals as goal

pub returns : goal.returns
returns c = λ state. records-step state c.args.left.now
