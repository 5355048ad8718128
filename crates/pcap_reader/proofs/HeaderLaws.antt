-- The numbers of a file header, read by the numbers of its bytes in either order.
use Rattle.std.proofs.Common.{◌≡◌, ℕ, List, length, arith}
use Rattle.std.proofs.lemmas.Grind.{common_steps}
use Rattle.byteorder.specs.Endian.{big_number, little_number}
use Rattle.pcap_reader.specs.declared.start.Order.TheVariants.{Big, Little}
use Rattle.pcap_reader.specs.Headers.{file_header_of}
use Rattle.pcap_reader.specs.HeaderReads.{file_header_by}

-- by the numbers of bytes in network order a header is read as in that order
pub file_header-big : (bytes : List ℕ) → length bytes ≡ 24 → file_header_by big_number bytes ≡ file_header_of Big bytes
file_header-big bytes long = grind (arith, common_steps)

-- by the numbers of bytes the other way round a header is read as in that order
pub file_header-little : (bytes : List ℕ) → length bytes ≡ 24 →
    file_header_by little_number bytes ≡ file_header_of Little bytes
file_header-little bytes long = grind (arith, common_steps)
