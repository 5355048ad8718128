-- Examples of reports of pcapng captures, each checked by evaluation.
use Rattle.std.specs.Prelude.{◌≡◌, ℕ, List, [], ◌∷◌, ◌++◌, replicate, take, codes, refl}
use Rattle.std.specs.Fmt.{digits}
use Rattle.rule_split.specs.Split as split
use Rattle.pcap_reader.specs.declared.capture_fault.CaptureFault.TheVariants.{PngCut, PngInterface}
use Rattle.command_ending.specs.declared.status.Status.TheVariants.{Done, CaptureRefused}
use Rattle.command_ending.specs.Plan.{Outcome, printed}
use Rattle.capture_report.specs.CaptureOutcome.{lines_so_far, report}
use Rattle.acl_tool.specs.ClassifyExamples.{both, by_guide, classify, udp_frame, usual}
use Rattle.acl_tool.specs.Outcome.{outcome}

-- a number of four bytes below 256, in little-endian and in big-endian order
abbrev little : ℕ → List ℕ
little n = n ∷ 0 ∷ 0 ∷ 0 ∷ []

abbrev big : ℕ → List ℕ
big n = 0 ∷ 0 ∷ 0 ∷ n ∷ []

-- a section of version 1.0 whose length isn't told
abbrev little_section : List ℕ
little_section =
    0x0A ∷ 0x0D ∷ 0x0D ∷ 0x0A ∷ little 28 ++ 0x4D ∷ 0x3C ∷ 0x2B ∷ 0x1A ∷ 1 ∷ 0 ∷ 0 ∷ 0
    ∷ replicate 8 255 ++ little 28

abbrev big_section : List ℕ
big_section =
    0x0A ∷ 0x0D ∷ 0x0D ∷ 0x0A ∷ big 28 ++ 0x1A ∷ 0x2B ∷ 0x3C ∷ 0x4D ∷ 0 ∷ 1 ∷ 0 ∷ 0
    ∷ replicate 8 255 ++ big 28

-- an interface of Ethernet frames, with a snap length
abbrev little_interface : List ℕ
little_interface = little 1 ++ little 20 ++ little 1 ++ 0 ∷ 0 ∷ 4 ∷ 0 ∷ little 20

abbrev big_interface : List ℕ
big_interface = big 1 ++ big 20 ++ 0 ∷ 1 ∷ 0 ∷ 0 ∷ 0 ∷ 4 ∷ 0 ∷ 0 ∷ big 20

-- a block of another type without a body
abbrev empty_block : List ℕ
empty_block = little 4 ++ little 12 ++ little 12

-- an enhanced packet of the first interface: a UDP frame of 38 bytes to a port that ends in the
-- byte, and two bytes that fill the block
abbrev little_udp : ℕ → List ℕ
little_udp port =
    little 6 ++ little 72 ++ little 0 ++ replicate 8 0 ++ little 38 ++ little 38
    ++ udp_frame port ++ 0 ∷ 0 ∷ little 72

abbrev big_udp : ℕ → List ℕ
big_udp port =
    big 6 ++ big 72 ++ big 0 ++ replicate 8 0 ++ big 38 ++ big 38
    ++ udp_frame port ++ 0 ∷ 0 ∷ big 72

-- a packet to port 1234 and one to port 1235 over Ethernet
abbrev little_file : List ℕ
little_file = little_section ++ little_interface ++ little_udp 210 ++ little_udp 211

-- what the rule of the DPDK Programmer's Guide answers for them
abbrev two_packets : Outcome
two_packets = printed Done (codes "1 ip4 1\n2 ip4 0\npackets 2 ip4 2 ip6 0 other 0 short 0\n") 0

little_endian : report (by_guide usual) little_file ≡ two_packets
unfolding digits
little_endian = refl

big_endian : report (by_guide usual)
    (big_section ++ big_interface ++ big_udp 210 ++ big_udp 211) ≡ two_packets
unfolding digits
big_endian = refl

-- blocks of other types are passed over
block_between : report (by_guide usual)
    (little_section ++ little_interface ++ little_udp 210 ++ empty_block ++ little_udp 211)
    ≡ two_packets
unfolding digits
block_between = refl

-- the lines before a cut block, and no lines after them
cut : report (by_guide usual) (take 191 little_file)
    ≡ printed (CaptureRefused (PngCut 2)) (codes "1 ip4 1\n") 0
unfolding digits
cut = refl

no_interface : report (by_guide usual) (little_section ++ little_udp 210)
    ≡ printed (CaptureRefused (PngInterface 1)) [] 0
unfolding digits
no_interface = refl

-- the line of the whole block in front of a part of the next, once so much was read
so_far : lines_so_far (by_guide usual) (take 150 little_file) ≡ codes "1 ip4 1\n"
unfolding digits
so_far = refl

-- a section alone has no packets
section_alone : outcome classify (both [] little_section)
    ≡ printed Done (codes "packets 0 ip4 0 ip6 0 other 0 short 0\n") 0
unfolding digits split.total_of split.groups_of split.groups_by split.turns split.turn
section_alone = refl
