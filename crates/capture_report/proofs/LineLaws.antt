-- Lines of packets, and then more of them.
use Rattle.std.proofs.Common.{◌≡◌, ℕ, ◌+◌, ◌≤◌, ◌==◌, List, [], ◌∷◌, ◌++◌, length, map, cond, count_by, sum_by}
use Rattle.std.proofs.Common.{decimal, refl, sym, ap, ◌∙◌, append_assoc, append-nil, add-zero, arith}
use Rattle.std.proofs.lemmas.Grind.{common_steps}
use Rattle.std.proofs.lemmas.List.{length-map, map-append}
use Rattle.std.proofs.lemmas.List.Sums.{sum_by-append, sum_by-cons}
use Rattle.header_extract.specs.declared.class.Class.{Class}
use Rattle.header_extract.specs.declared.class.Class.TheVariants.{Ip4, Ip6, Other, Short}
use Rattle.header_extract.specs.Class.{FrameClass}
use Rattle.pcap_reader.specs.State.{CaptureRecord}
use Rattle.acl_report.specs.declared.counts.Counts.{Counts}
use Rattle.acl_report.specs.Line.{line_feed, line_of, spaced}
use Rattle.acl_report.specs.Counting.{counted}
use Rattle.acl_report.specs.Counts.{counts_of, same_class}
use Rattle.acl_report.specs.Packet.{class_word, answer_words}
use Rattle.capture_report.specs.Shown.{classes_of, counts_of_records, packet_of}
use Rattle.capture_report.specs.Classifier.{Tables}
use Rattle.capture_report.specs.ReportForm.{ReportForm}
use Rattle.capture_report.specs.Report.{transitions_on, transitions_of_packets, transitions_of_records, answers_on, line_of_packet}
use Rattle.capture_report.specs.Report.{lines_of_packets, lines_of_records, counted_all}
use Rattle.capture_report.specs.Report.{lines_in}

-- the lines of further packets come after those of the first ones and are numbered on
lines_of_packets-append : (form : ReportForm) (number : ℕ) (first second : List FrameClass) →
    lines_of_packets form number (first ++ second)
    ≡ lines_of_packets form number first ++ lines_of_packets form (number + length first) second
lines_of_packets-append form number [] second =
    ap (λ n. lines_of_packets form n second) (sym (add-zero number))
lines_of_packets-append form number (p ∷ ps) second =
    let line = line_of_packet form number p in
    let rest = lines_of_packets form (number + 1) ps in
    let sum : (number + 1) + length ps ≡ number + length (p ∷ ps) = omega arith in
    ap (λ l. line ++ l) (lines_of_packets-append form (number + 1) ps second)
    ∙ sym (append_assoc line rest (lines_of_packets form ((number + 1) + length ps) second))
    ∙ ap (λ n. (line ++ rest) ++ lines_of_packets form n second) sum

-- the lines of records, and then of those after them
pub lines_of_records-append : (form : ReportForm) (first second : List CaptureRecord) (number : ℕ) →
    number ≡ length first + 1 →
    lines_of_records form (first ++ second)
    ≡ lines_of_records form first ++ lines_of_packets form number (map packet_of second)
lines_of_records-append form first second number is =
    let sum : 1 + length (map packet_of first) ≡ number = omega (arith, is, length-map first packet_of) in
    ap (lines_of_packets form 1) (map-append packet_of first second)
    ∙ lines_of_packets-append form 1 (map packet_of first) (map packet_of second)
    ∙ ap (λ n. lines_of_records form first ++ lines_of_packets form n (map packet_of second)) sum

-- one more class is counted after the others
counts_more : (classes : List Class) (class : Class) →
    counts_of (classes ++ class ∷ []) ≡ counted class (counts_of classes)
counts_more classes Ip4 = grind (arith, common_steps)
counts_more classes Ip6 = grind (arith, common_steps)
counts_more classes Other = grind (arith, common_steps)
counts_more classes Short = grind (arith, common_steps)

-- packets that are counted after others are counted with them
counted_all-counts : (first second : List FrameClass) →
    counted_all second (counts_of (classes_of first)) ≡ counts_of (classes_of (first ++ second))
counted_all-counts first [] = ap (λ l. counts_of (classes_of l)) (sym (append-nil first))
counted_all-counts first (p ∷ ps) =
    ap (counted_all ps)
    (sym (ap counts_of (map-append (λ (packet : FrameClass). packet.class) first (p ∷ []))
    ∙ counts_more (classes_of first) p.class))
    ∙ counted_all-counts (first ++ p ∷ []) ps
    ∙ ap (λ l. counts_of (classes_of l)) (append_assoc first (p ∷ []) ps)

-- the counts of records, and then of those after them
pub counts_of_records-append : (first second : List CaptureRecord) →
    counted_all (map packet_of second) (counts_of_records first) ≡ counts_of_records (first ++ second)
counts_of_records-append first second =
    counted_all-counts (map packet_of first) (map packet_of second)
    ∙ ap (λ l. counts_of (classes_of l)) (sym (map-append packet_of first second))

-- the steps of records, and then of those after them
pub transitions_of_records-append : (tables : Tables) (first second : List CaptureRecord) →
    transitions_of_records tables (first ++ second)
    ≡ transitions_of_records tables first + transitions_of_packets tables (map packet_of second)
transitions_of_records-append tables first second =
    ap (transitions_of_packets tables) (map-append packet_of first second)
    ∙ sum_by-append (λ (packet : FrameClass). transitions_on packet.class tables packet.key) (map packet_of first)
    (map packet_of second)

-- the count of all records
pub packets_counted : (records : List CaptureRecord) → (counts_of_records records).packets ≡ length records
packets_counted records =
    length-map (map packet_of records) (λ packet. packet.class) ∙ length-map records packet_of

-- a record more of one of the classes adds one
one_class : (class : Class) →
    cond (same_class Ip4 class) 1 0 + cond (same_class Ip6 class) 1 0 + cond (same_class Other class) 1 0
    + cond (same_class Short class) 1 0 ≡ 1
one_class Ip4 = refl
one_class Ip6 = refl
one_class Other = refl
one_class Short = refl

-- the counts of the four classes add up to all
classes_add_up : (classes : List Class) →
    count_by (same_class Ip4) classes + count_by (same_class Ip6) classes + count_by (same_class Other) classes
    + count_by (same_class Short) classes
    ≡ length classes
classes_add_up [] = refl
classes_add_up (class ∷ classes) =
    omega (
      arith,
      one_class class,
      sum_by-cons (λ c. cond (same_class Ip4 c) 1 0) class classes,
      sum_by-cons (λ c. cond (same_class Ip6 c) 1 0) class classes,
      sum_by-cons (λ c. cond (same_class Other c) 1 0) class classes,
      sum_by-cons (λ c. cond (same_class Short c) 1 0) class classes,
      classes_add_up classes,
    )

-- the counts of the classes add up
pub records_add_up : (records : List CaptureRecord) (counts : Counts) → counts ≡ counts_of_records records →
    counts.ip4 + counts.ip6 + counts.other + counts.short ≡ counts.packets
records_add_up records counts is = rw is (classes_add_up (classes_of (map packet_of records)))

-- a line has at least one line feed
ends_in_line_feed : (first : List ℕ) (words : List (List ℕ)) → 1 ≤ lines_in (line_of first words)
ends_in_line_feed first words =
    let f : ℕ → ℕ = λ byte. cond (byte == line_feed) 1 0 in
    let end : sum_by f (line_feed ∷ []) ≡ 1 = refl in
    let all : lines_in (line_of first words) ≡ sum_by f (first ++ spaced words) + sum_by f (line_feed ∷ []) =
    sum_by-append f (first ++ spaced words) (line_feed ∷ []) in
    omega (arith, all, end)

-- packets have at least as many lines as they are
lines_in-packets : (form : ReportForm) (number : ℕ) (packets : List FrameClass) →
    length packets ≤ lines_in (lines_of_packets form number packets)
lines_in-packets form number [] = omega arith
lines_in-packets form number (p ∷ ps) =
    let f : ℕ → ℕ = λ byte. cond (byte == line_feed) 1 0 in
    let line = line_of_packet form number p in
    let ends : 1 ≤ lines_in line = ends_in_line_feed (decimal number)
    (class_word p.class ∷ answer_words p.class (answers_on p.class form p.key)) in
    let all : lines_in (line ++ lines_of_packets form (number + 1) ps)
    ≡ lines_in line + lines_in (lines_of_packets form (number + 1) ps) =
    sum_by-append f line (lines_of_packets form (number + 1) ps) in
    omega (
      arith,
      all,
      ends,
      lines_in-packets form (number + 1) ps,
    )

-- a line for each record
pub lines_in-records : (form : ReportForm) (records : List CaptureRecord) (more : List ℕ) →
    length records ≤ lines_in (lines_of_records form records ++ more)
lines_in-records form records more =
    let f : ℕ → ℕ = λ byte. cond (byte == line_feed) 1 0 in
    let all : lines_in (lines_of_records form records ++ more)
    ≡ lines_in (lines_of_records form records) + lines_in more =
    sum_by-append f (lines_of_records form records) more in
    omega (
      arith,
      all,
      lines_in-packets form 1 (map packet_of records),
      length-map records packet_of,
    )

-- one packet more
pub counted-packets : (class : Class) (counts : Counts) → (counted class counts).packets ≡ counts.packets + 1
counted-packets Ip4 counts = refl
counted-packets Ip6 counts = refl
counted-packets Other counts = refl
counted-packets Short counts = refl

-- how many packets are counted with these more
pub counted_all-packets : (packets : List FrameClass) (counts : Counts) →
    (counted_all packets counts).packets ≡ counts.packets + length packets
counted_all-packets [] counts = omega arith
counted_all-packets (p ∷ ps) counts =
    omega (arith, counted_all-packets ps (counted p.class counts), counted-packets p.class counts)

-- nothing is counted yet
pub counts-none : (counts : Counts) →
    (counts.packets ≡ 0) × ((counts.ip4 ≡ 0) × ((counts.ip6 ≡ 0) × ((counts.other ≡ 0) × (counts.short ≡ 0)))) →
    counts ≡ counts_of_records []
counts-none counts none =
    let with_counts : ℕ → ℕ → ℕ → ℕ → ℕ →
    Counts = λ p a b o s. record { packets = p; ip4 = a; ip6 = b; other = o; short = s } in
    ap (λ n. with_counts n counts.ip4 counts.ip6 counts.other counts.short) (none.0)
    ∙ ap (λ n. with_counts 0 n counts.ip6 counts.other counts.short) (none.1.0)
    ∙ ap (λ n. with_counts 0 0 n counts.other counts.short) (none.1.1.0)
    ∙ ap (λ n. with_counts 0 0 0 n counts.short) (none.1.1.1.0) ∙ ap (with_counts 0 0 0 0) (none.1.1.1.1)
