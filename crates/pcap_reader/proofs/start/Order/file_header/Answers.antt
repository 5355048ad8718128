use Rattle.std.proofs.Common.{◌∙◌, sym, ap}
use Rattle.pcap_reader.specs.Headers.{file_header_of}
use Rattle.pcap_reader.proofs.HeaderLaws.{file_header-big, file_header-little}
use Rattle.pcap_reader.proofs.start.Order.file_header.Goals as goal

pub returns-in-Big : goal.returns-in-Big
returns-in-Big c =
    c.file_header.ensures
    ∙ file_header-big c.args.bytes.now c.told-bytes
    ∙ ap (λ order. file_header_of order c.args.bytes.now) (sym c.in-Big.is)

pub returns-in-Little : goal.returns-in-Little
returns-in-Little c =
    c.file_header-in-Little.ensures
    ∙ file_header-little c.args.bytes.now c.told-bytes
    ∙ ap (λ order. file_header_of order c.args.bytes.now) (sym c.in-Little.is)
