-- Examples of captures, each checked by evaluation.
use Rattle.std.specs.Prelude.{◌≡◌, ℕ, List, [], ◌∷◌, ◌++◌, take, replicate, Some, None, Ok, Err, refl}
use Rattle.pcap_reader.specs.declared.capture_fault.CaptureFault.TheVariants.{HeaderCut, RecordCut, RecordTooLong, TooManyRecords}
use Rattle.pcap_reader.specs.declared.link.Link.TheVariants.{Ethernet, Ip6}
use Rattle.pcap_reader.specs.declared.start.Order.TheVariants.{Big, Little}
use Rattle.pcap_reader.specs.declared.state.Progress.TheVariants as progress
use Rattle.pcap_reader.specs.declared.state.CaptureState.{CaptureState}
use Rattle.pcap_reader.specs.State.{CaptureRecord, state_of}
use Rattle.pcap_reader.specs.Capture.{End, Record, Fault, next_of, capture_of, whole_records}
use Rattle.pcap_reader.specs.StartExamples.{ethernet_header, ip6_header}

-- the header of a record, little-endian: four bytes of the captured length, and an original length
-- that lies
abbrev pub little_record : List ℕ → List ℕ
little_record len = replicate 8 0 ++ len ++ 3 ∷ 0 ∷ 0 ∷ 0 ∷ []

-- the same, big-endian
abbrev pub big_record : List ℕ → List ℕ
big_record len = replicate 8 0 ++ len ++ 0 ∷ 0 ∷ 0 ∷ 3 ∷ []

abbrev of_ethernet : List ℕ → CaptureRecord
of_ethernet bytes = record { link = Ethernet; bytes = bytes }

abbrev of_ip6 : List ℕ → CaptureRecord
of_ip6 bytes = record { link = Ip6; bytes = bytes }

-- the reader of a little-endian capture of Ethernet frames after so many records
abbrev little : ℕ → CaptureState
little count = state_of (record { order = Little; link = Ethernet }) count progress.Reading

-- the reader of a big-endian capture of IPv6 packets
abbrev big : ℕ → CaptureState
big count = state_of (record { order = Big; link = Ip6 }) count progress.Reading

-- a record of two captured bytes, and one of none
abbrev two : List ℕ
two = little_record (2 ∷ 0 ∷ 0 ∷ 0 ∷ []) ++ 8 ∷ 9 ∷ []

abbrev nought : List ℕ
nought = little_record (replicate 4 0)

nothing_is_left : next_of (little 5) [] ≡ End
nothing_is_left = refl

a_record_and_what_is_after : next_of (little 0) (two ++ 7 ∷ [])
    ≡ Record (of_ethernet (8 ∷ 9 ∷ [])) (7 ∷ [])
a_record_and_what_is_after = refl

a_record_of_no_bytes : next_of (little 0) nought ≡ Record (of_ethernet []) []
a_record_of_no_bytes = refl

a_big_endian_record : next_of (big 0) (big_record (0 ∷ 0 ∷ 0 ∷ 1 ∷ []) ++ 5 ∷ [])
    ≡ Record (of_ip6 (5 ∷ [])) []
a_big_endian_record = refl

header_of_15_bytes : next_of (little 6) (take 15 two) ≡ Fault (RecordCut 7)
header_of_15_bytes = refl

header_of_one_byte : next_of (little 0) (0 ∷ []) ≡ Fault (RecordCut 1)
header_of_one_byte = refl

header_with_no_captured_bytes : next_of (little 0) (take 16 two) ≡ Fault (RecordCut 1)
header_with_no_captured_bytes = refl

one_captured_byte_less : next_of (little 0) (take 17 two) ≡ Fault (RecordCut 1)
one_captured_byte_less = refl

-- a captured length of 262,145, also where the bytes are missing
one_byte_too_long : next_of (little 8) (little_record (1 ∷ 0 ∷ 4 ∷ 0 ∷ []))
    ≡ Fault (RecordTooLong 9)
one_byte_too_long = refl

-- a captured length of 262,144 is lawful
greatest_length_cut : next_of (little 8) (little_record (0 ∷ 0 ∷ 4 ∷ 0 ∷ [])) ≡ Fault (RecordCut 9)
greatest_length_cut = refl

too_long_and_the_header_cut : next_of (little 8) (take 15 (little_record (1 ∷ 0 ∷ 4 ∷ 0 ∷ [])))
    ≡ Fault (RecordCut 9)
too_long_and_the_header_cut = refl

length_in_the_other_order : next_of (big 0) (two ++ []) ≡ Fault (RecordTooLong 1)
length_in_the_other_order = refl

the_last_record : next_of (little 999999999) nought ≡ Record (of_ethernet []) []
the_last_record = refl

one_record_too_many : next_of (little 1000000000) nought ≡ Fault TooManyRecords
one_record_too_many = refl

-- it comes before a cut record
one_byte_too_many : next_of (little 1000000000) (0 ∷ []) ≡ Fault TooManyRecords
one_byte_too_many = refl

no_byte_too_many : next_of (little 1000000000) [] ≡ End
no_byte_too_many = refl

no_records : capture_of ethernet_header ≡ Ok (record { records = []; fault = None })
no_records = refl

cut_file_header : capture_of (take 23 ethernet_header) ≡ Err HeaderCut
cut_file_header = refl

three_records : capture_of (ethernet_header ++ two ++ nought ++ two)
    ≡ Ok (record {
      records = of_ethernet (8 ∷ 9 ∷ []) ∷ of_ethernet [] ∷ of_ethernet (8 ∷ 9 ∷ []) ∷ [];
      fault = None;
    })
three_records = refl

ip6_records : capture_of (ip6_header ++ big_record (0 ∷ 0 ∷ 0 ∷ 1 ∷ []) ++ 0x60 ∷ [])
    ≡ Ok (record { records = of_ip6 (0x60 ∷ []) ∷ []; fault = None })
ip6_records = refl

second_record_cut : capture_of (ethernet_header ++ two ++ take 17 two)
    ≡ Ok (record { records = of_ethernet (8 ∷ 9 ∷ []) ∷ []; fault = Some (RecordCut 2) })
second_record_cut = refl

third_record_too_long : capture_of (ethernet_header ++ two ++ nought ++ replicate 16 255)
    ≡ Ok (record {
      records = of_ethernet (8 ∷ 9 ∷ []) ∷ of_ethernet [] ∷ [];
      fault = Some (RecordTooLong 3);
    })
third_record_too_long = refl

whole_records_before_a_cut : whole_records (ethernet_header ++ two ++ take 17 two)
    ≡ of_ethernet (8 ∷ 9 ∷ []) ∷ []
whole_records_before_a_cut = refl

no_whole_records : whole_records (replicate 24 0) ≡ []
no_whole_records = refl
