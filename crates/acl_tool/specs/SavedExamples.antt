-- Examples of images that are made, replayed and refused, each checked by evaluation.
use Rattle.std.specs.Prelude.{◌≡◌, ℕ, List, [], ◌∷◌, ◌++◌, length, take, replicate, codes, refl}
use Rattle.std.specs.Fmt.{digits}
use Rattle.table_image.specs.declared.load_fault.ImageKind.TheVariants.{Length, Magic, Trailing}
use Rattle.table_image.specs.Spelling.{spelled, spelled_pair, spelled_table}
use Rattle.table_image.specs.ImageReading as reading
use Rattle.acl_outside.specs.Desk.{File}
use Rattle.pcap_reader.specs.StartExamples.{ethernet_header}
use Rattle.command_ending.specs.declared.status.Status.TheVariants.{Done, ImageRefused, ReadFault}
use Rattle.command_ending.specs.Plan.{printed, silent}
use Rattle.acl_tool.specs.BuildPlan.{image_bytes}
use Rattle.acl_tool.specs.ClassifyExamples.{no_tables, udp_record, wild_tables}
use Rattle.acl_tool.specs.Outcome.{outcome}

-- the image of no rules: magic and version, and of each table its family, rules, tries and rows
abbrev empty_image : List ℕ
empty_image =
    0x41 ∷ 0x43 ∷ 0x4C ∷ 0x54 ∷ 0 ∷ 0 ∷ 0 ∷ 2
    ∷ 0 ∷ 0 ∷ 0 ∷ 4 ∷ (replicate 12 0 ++ 0 ∷ 0 ∷ 0 ∷ 6 ∷ replicate 12 0)

empty_is_spelled : image_bytes no_tables ≡ empty_image
unfolding spelled_pair spelled_table spelled
empty_is_spelled = refl

lengths : (length (image_bytes no_tables) ∷ length (image_bytes wild_tables) ∷ []) ≡ 40 ∷ 192 ∷ []
unfolding spelled_pair spelled_table spelled
lengths = refl

-- the image and the capture under their names
abbrev both : List ℕ → List ℕ → List File
both image capture = record { name = codes "i"; bytes = image }
    ∷ record { name = codes "c"; bytes = capture } ∷ []

-- `replay i c` with these words after it
abbrev replay_with : List (List ℕ) → List (List ℕ)
replay_with options = codes "replay" ∷ codes "i" ∷ codes "c" ∷ options

-- an image prints by its tables
by_image : outcome (replay_with (codes "stats=on" ∷ []))
    (both (image_bytes wild_tables) (ethernet_header ++ udp_record 210)) ≡ printed Done
    (codes "1 ip4 7\npackets 1 ip4 1 ip6 0 other 0 short 0\n"
    ++ codes "ip4 rules 1 tries 1 words 33\nip6 rules 0 tries 0 words 16\ntransitions 1\n") 1
unfolding digits spelled_pair spelled_table spelled reading.image_of reading.table_read
    reading.numbers_after reading.tries_after reading.words_of_levels reading.words_of_tries
    reading.rows_after reading.no_rule
by_image = refl

-- an image is refused before the capture is asked for, by its first failing check
longer : outcome (replay_with []) (record { name = codes "i"; bytes = empty_image ++ 0 ∷ [] } ∷ [])
    ≡ silent (ImageRefused (record { place = 40; kind = Trailing }))
unfolding reading.image_of reading.table_read reading.numbers_after reading.tries_after
    reading.words_of_levels reading.words_of_tries reading.rows_after reading.no_rule
longer = refl

shorter : outcome (replay_with []) (record { name = codes "i"; bytes = take 39 empty_image } ∷ [])
    ≡ silent (ImageRefused (record { place = 36; kind = Length }))
unfolding reading.image_of reading.table_read reading.numbers_after reading.tries_after
    reading.words_of_levels reading.words_of_tries reading.rows_after reading.no_rule
shorter = refl

no_image : outcome (replay_with []) (record { name = codes "c"; bytes = ethernet_header } ∷ [])
    ≡ silent ReadFault
no_image = refl

a_capture : outcome (replay_with []) (both ethernet_header ethernet_header)
    ≡ silent (ImageRefused (record { place = 0; kind = Magic }))
unfolding reading.image_of
a_capture = refl
