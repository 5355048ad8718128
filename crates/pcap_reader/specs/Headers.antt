-- The numbers in the headers of a capture (libpcap savefile format 2.4, file header and per-packet
-- header).
use Rattle.std.specs.Prelude.{ℕ, List}
use Rattle.byte_numbers.specs.Number.{number_at, mirrored_number_at}
use Rattle.pcap_reader.specs.declared.header.FileHeader.{FileHeader}
use Rattle.pcap_reader.specs.declared.header.RecordHeader.{RecordHeader}
use Rattle.pcap_reader.specs.declared.start.Order.{Order}
use Rattle.pcap_reader.specs.declared.start.Order.TheVariants.{Big, Little}

-- the number of the `size` bytes from place `at` on, in the order of the file
abbrev pub number_in : Order → List ℕ → ℕ → ℕ → ℕ
number_in Big bytes at size = number_at bytes at size
number_in Little bytes at size = mirrored_number_at bytes at size

-- the file header: magic, major and minor version and network stand at the places 0, 4, 6 and 20
abbrev pub file_header_of : Order → List ℕ → FileHeader
file_header_of order bytes = record {
  magic = number_in order bytes 0 4;
  major = number_in order bytes 4 2;
  minor = number_in order bytes 6 2;
  network = number_in order bytes 20 4;
}

-- the record header: the captured and the original length stand at the places 8 and 12
abbrev pub record_header_of : Order → List ℕ → RecordHeader
record_header_of order bytes = record {
  captured = number_in order bytes 8 4;
  original = number_in order bytes 12 4;
}
