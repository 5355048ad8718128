use Rattle.pcap_reader.proofs.HeaderLaws.{file_header-big, file_header-little}
use Rattle.pcap_reader.proofs.laws.file_headers_are_read_in_order.Goals as goal

pub returns-clause-big : goal.returns-clause-big
returns-clause-big c = file_header-big c.args.bytes.now c.told-bytes

pub returns-clause-little : goal.returns-clause-little
returns-clause-little c = file_header-little c.args.bytes.now c.told-bytes
