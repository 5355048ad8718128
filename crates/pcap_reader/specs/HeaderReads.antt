-- The headers of a capture as a byte order reads them.
use Rattle.std.specs.Prelude.{ℕ, List, drop}
use Rattle.pcap_reader.specs.declared.header.FileHeader.{FileHeader}
use Rattle.pcap_reader.specs.declared.header.RecordHeader.{RecordHeader}

-- the file header, where `number` gives the number that the first bytes of a list spell, as many
-- as it is told
abbrev pub file_header_by : (ℕ → List ℕ → ℕ) → List ℕ → FileHeader
file_header_by number bytes = record {
  magic = number 4 bytes;
  major = number 2 (drop 4 bytes);
  minor = number 2 (drop 6 bytes);
  network = number 4 (drop 20 bytes);
}

-- the record header, in the same way
abbrev pub record_header_by : (ℕ → List ℕ → ℕ) → List ℕ → RecordHeader
record_header_by number bytes = record {
  captured = number 4 (drop 8 bytes);
  original = number 4 (drop 12 bytes);
}
