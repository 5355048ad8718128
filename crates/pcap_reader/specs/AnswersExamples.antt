-- Examples of what the answers of a reader come to, each checked by evaluation.
use Rattle.std.specs.Prelude.{◌≡◌, List, [], ◌∷◌, Some, None, Ok, Err, true, false, refl}
use Rattle.pcap_reader.specs.declared.capture_fault.CaptureFault.TheVariants.{RecordCut, ReadFault}
use Rattle.pcap_reader.specs.declared.link.Link.TheVariants.{Raw}
use Rattle.pcap_reader.specs.State.{Answer, CaptureRecord}
use Rattle.pcap_reader.specs.Answers.{recorded_by, have_ending}

-- a record of two bytes
abbrev long : CaptureRecord
long = record { link = Raw; bytes = 8 ∷ 9 ∷ [] }

-- a record of none
abbrev short : CaptureRecord
short = record { link = Raw; bytes = [] }

abbrev two_records : List Answer → List Answer
two_records later = Ok (Some long) ∷ Ok (Some short) ∷ later

abbrev both : List CaptureRecord
both = long ∷ short ∷ []

whole : recorded_by (two_records (Ok None ∷ [])) ≡ record { records = both; fault = None }
whole = refl

cut : recorded_by (two_records (Err (RecordCut 3) ∷ []))
    ≡ record { records = both; fault = Some (RecordCut 3) }
cut = refl

ended : have_ending (two_records (Ok None ∷ [])) ≡ true
ended = refl

ended_by_a_fault : have_ending (two_records (Err (RecordCut 3) ∷ [])) ≡ true
ended_by_a_fault = refl

broken_off : have_ending (two_records (Err ReadFault ∷ [])) ≡ false
broken_off = refl

still_reading : have_ending (two_records []) ≡ false
still_reading = refl

no_answers : have_ending [] ≡ false
no_answers = refl
