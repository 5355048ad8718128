-- What a file header says, and that bytes after it change nothing.
use Rattle.std.proofs.Common.{◌≡◌, ℕ, ◌+◌, ◌-◌, ◌<◌, ◌≤◌, List, [], ◌++◌, length, take, drop, true, Option, Some, None, Result, Ok, Err, refl, sym, ap, ◌∙◌, append_assoc, append-nil, arith, length-append, length-take, length-drop}
use Rattle.std.proofs.lemmas.Bool.{le-leb, lt-leb, false≢true}
use Rattle.std.proofs.lemmas.List.{take_at, take_all, drop_at, drop_all}
use borrow.Rule.Slice.PartMut.{put_mid}
use Rattle.acl_outside.specs.Fault.{Rose}
use Rattle.acl_outside.specs.Told.{Changes}
use Rattle.acl_outside.specs.Desk.{Content, DeskView, Gives}
use Rattle.acl_outside.specs.DeskReading.{ReadsOn, and_goes_on}
use Rattle.acl_outside.proofs.Offered.{Changes-weaker}
use Rattle.pcap_reader.specs.declared.capture_fault.CaptureFault.{CaptureFault}
use Rattle.pcap_reader.specs.declared.capture_fault.CaptureFault.TheVariants.{HeaderCut, Magic, Version, LinkType, ReadFault}
use Rattle.pcap_reader.specs.declared.header.FileHeader.{FileHeader}
use Rattle.pcap_reader.specs.declared.link.Link.{Link}
use Rattle.pcap_reader.specs.declared.start.Order.{Order}
use Rattle.pcap_reader.specs.declared.start.Start.{Start}
use Rattle.pcap_reader.specs.Headers.{file_header_of}
use Rattle.pcap_reader.specs.Start.{◌>>=◌, or_fault, order_of, of_version, link_of, start_in, start_of, file_header_len}
use Rattle.pcap_reader.specs.Fill.{KeepsReading, IsAtEnd, Fills}
use Rattle.pcap_reader.proofs.FillLaws.{reads-full, reads-short}
use Rattle.pcap_reader.specs.Reader.{BreaksOffAt, IsStart, ReadsStart, after_start, is_cut_start}

-- a whole header has one of three faults, or none
abbrev IsJudged : Result Start CaptureFault → Type 0
IsJudged (Ok start) = Unit {0}
IsJudged (Err Magic) = Unit {0}
IsJudged (Err Version) = Unit {0}
IsJudged (Err LinkType) = Unit {0}
IsJudged (Err fault) = ⊥

-- a link type is known, or has its fault
link_judged : (order : Order) (link : Option Link) →
    IsJudged (or_fault LinkType link >>= λ l. Ok (record { order = order; link = l }))
link_judged order None = tt
link_judged order (Some l) = tt

-- a version and a link type are known, or the first that isn't has its fault
version_judged : (order : Order) (numbers : Option FileHeader) →
    IsJudged (or_fault Version numbers >>= λ n. or_fault LinkType (link_of n.network) >>= λ l.
    Ok (record { order = order; link = l }))
version_judged order None = tt
version_judged order (Some n) = link_judged order (link_of n.network)

-- and so are a byte order and these two
order_judged : (header : List ℕ) (order : Option Order) →
    IsJudged (or_fault Magic order >>= λ o. or_fault Version (of_version (file_header_of o header))
    >>= λ n. or_fault LinkType (link_of n.network) >>= λ l. Ok (record { order = o; link = l }))
order_judged header None = tt
order_judged header (Some o) = version_judged o (of_version (file_header_of o header))

-- a whole header has one of these faults, or none
start_judged : (header : List ℕ) → IsJudged (start_in header)
start_judged header = order_judged header (order_of header)

-- what a file header says is said by its own bytes
pub start_of-append : (header rest : List ℕ) → length header ≡ file_header_len →
    start_of (header ++ rest) ≡ start_in header
start_of-append header rest whole =
    rw (
      le-leb file_header_len (length (header ++ rest)) (omega (arith, whole, length-append header rest)),
      take_at header rest file_header_len whole,
    ) refl

-- the answer of what was left, where it began with the header
answer-left : (header left after : List ℕ) (result : Result Start CaptureFault) → length header ≡ file_header_len →
    start_in header ≡ result →
    IsJudged result → left ≡ header ++ after → IsStart left after result
answer-left header left after (Ok start) whole says judged is_left = (
  ap start_of is_left ∙ start_of-append header after whole
      ∙ says,
  sym (ap (drop file_header_len) is_left ∙ drop_at header after file_header_len whole),
)
answer-left header left after (Err Magic) whole says judged is_left = ap start_of is_left
    ∙ start_of-append header after whole ∙ says
answer-left header left after (Err Version) whole says judged is_left = ap start_of is_left
    ∙ start_of-append header after whole ∙ says
answer-left header left after (Err LinkType) whole says judged is_left = ap start_of is_left
    ∙ start_of-append header after whole ∙ says
answer-left header left after (Err fault) whole says judged is_left = absurd judged

-- the reading goes on after a whole header
reads-judged : (header : List ℕ) (old new : DeskView) (result : Result Start CaptureFault) → IsJudged result →
    ReadsOn and_goes_on header old new → ReadsOn (after_start result) header old new
reads-judged header old new (Ok start) judged reads = reads
reads-judged header old new (Err Magic) judged reads = reads
reads-judged header old new (Err Version) judged reads = reads
reads-judged header old new (Err LinkType) judged reads = reads
reads-judged header old new (Err fault) judged reads = absurd judged

-- what is judged is no read fault
no_read_fault : (result : Result Start CaptureFault) (before now : ℕ) → IsJudged result → result ≡ Err ReadFault →
    Rose before now
no_read_fault result before now judged is = absurd (rw is at judged)

-- what is judged isn't a header that the end of the file cuts
not_cut : (new : DeskView) (result : Result Start CaptureFault) → IsJudged result → is_cut_start result ≡ true →
    IsAtEnd new
not_cut new (Ok start) judged cut = absurd (false≢true cut)
not_cut new (Err Magic) judged cut = absurd (false≢true cut)
not_cut new (Err Version) judged cut = absurd (false≢true cut)
not_cut new (Err LinkType) judged cut = absurd (false≢true cut)
not_cut new (Err fault) judged cut = absurd judged

-- first bytes and a part after them leave the rest of the same bytes
more_after : (first part was now : List ℕ) → was ≡ part ++ now → first ++ was ≡ (first ++ part) ++ now
more_after first part was now is = ap (λ (l : List ℕ). first ++ l) is ∙ sym (append_assoc first part now)

-- what a header says of which these first bytes were read before, and the part was read now
start_answered : (first part : List ℕ) (old new : DeskView) (result : Result Start CaptureFault) →
    length (first ++ part) ≡ file_header_len → start_in (first ++ part) ≡ result →
    IsJudged result → ReadsOn and_goes_on part old new → KeepsReading old new → ReadsStart first old new result
start_answered first part old new result whole says judged reads keeps =
    let header : List ℕ = first ++ part in
    record {
      given = part;
      reads = reads-judged part old new result judged reads;
      answer = answer-left header header [] result whole says judged (sym (append-nil header));
      told = Changes-weaker (Gives part) (λ was now. IsStart (first ++ was.left) now.left result)
          (λ was now gives. answer-left header (first ++ was.left) now.left result whole says judged
          (more_after first part was.left now.left gives.left)) old.content new.content reads.told;
      end = not_cut new result judged;
      read_fault = no_read_fault result old.read_faults new.read_faults judged;
      keeps = keeps;
    }

-- All that the reading of a whole file header promises.
pub ReadsStart-whole : {E : Type 0} (first before part : List ℕ) (count : ℕ) (old new : DeskView) →
    length first + count ≡ file_header_len → length before ≡ count → length part ≡ count →
    Fills {E = E} before part old new (Ok count) → ReadsStart first old new (start_in (first ++ part))
ReadsStart-whole first before part count old new all room whole filled =
    start_answered first part old new (start_in (first ++ part))
    (omega (arith, all, whole, length-append first part)) refl (start_judged (first ++ part))
    (rw (take_all count part (omega (arith, whole))) at
    (reads-full (length before) count (take count part) old new (omega (arith, room)) filled.reads))
    filled.keeps

-- a header is cut if there are fewer bytes than it has
start_of-short : (bytes : List ℕ) → length bytes < file_header_len → start_of bytes ≡ Err HeaderCut
start_of-short bytes short = rw (lt-leb file_header_len (length bytes) short) refl

-- all that was left was read, where it is told
told-cut : (first part : List ℕ) (old new : Option Content) → length (first ++ part) < file_header_len →
    ((content : Content) → new ≡ Some content → content.left ≡ []) → Changes (Gives part) old new →
    Changes (λ was now. start_of (first ++ was.left) ≡ Err HeaderCut) old new
told-cut first part None None short end step = tt
told-cut first part (Some was) (Some now) short end step =
    ap (λ (l : List ℕ). start_of (first ++ l))
    (step.left ∙ ap (λ (l : List ℕ). part ++ l) (end now refl) ∙ append-nil part) ∙ start_of-short (first ++ part) short
told-cut first part None (Some now) short end step = absurd step
told-cut first part (Some was) None short end step = absurd step

-- fewer bytes than a header has, and the end of the file
pub ReadsStart-cut : {E : Type 0} (first before part : List ℕ) (count : ℕ) (old new : DeskView) →
    length first + length before ≡ file_header_len → count < length before →
    Fills {E = E} before part old new (Ok count) → ReadsStart first old new (Err HeaderCut)
ReadsStart-cut first before part count old new all less filled =
    let short : length (first ++ take count part) < file_header_len =
    omega (arith, all, less, length-append first (take count part), length-take count part) in
    let reads = reads-short (length before) count (take count part) old new less filled.reads in
    record {
      given = take count part;
      reads = reads;
      answer = start_of-short (first ++ take count part) short;
      told = told-cut first (take count part) old.content new.content short (filled.end less) reads.told;
      end = λ e. filled.end less;
      read_fault = λ e. absurd (cc);
      keeps = filled.keeps;
    }

-- fewer bytes than a header has, and a read that failed
pub ReadsStart-broken : {E : Type 0} (fault : E) (first before part : List ℕ) (old new : DeskView) →
    length first + length before ≡ file_header_len →
    Fills {E = E} before part old new (Err fault) → ReadsStart first old new (Err ReadFault)
ReadsStart-broken fault first before part old new all filled =
    let broken = filled.breaks_off in
    let few = broken.few in
    let short = start_of-short (first ++ broken.bytes)
    (omega (arith, all, few, length-append first broken.bytes)) in
    record {
      given = broken.bytes;
      reads = broken.reads;
      answer = record {
        front = first ++ broken.bytes;
        parts = sym (append-nil (first ++ broken.bytes));
        no_whole = short;
      };
      told = Changes-weaker (Gives broken.bytes)
          (λ was now. BreaksOffAt (λ front. start_of front ≡ Err HeaderCut) (first ++ was.left) now.left)
          (λ was now gives. record {
            front = first ++ broken.bytes;
            parts = more_after first broken.bytes was.left now.left gives.left;
            no_whole = short;
          }) old.content new.content broken.reads.told;
      end = λ e. absurd (false≢true e);
      read_fault = λ e. filled.cause;
      keeps = filled.keeps;
    }

-- how many bytes of a header are read after the first
pub length-rest : (n : ℕ) (first zeros : List ℕ) → length first ≡ n → length zeros ≡ file_header_len →
    n ≤ file_header_len →
    length (take (file_header_len - n) (drop n (first ++ drop n zeros))) ≡ file_header_len - n
length-rest n first zeros is all few =
    omega (
      arith,
      is,
      all,
      few,
      length-take (file_header_len - n) (drop n (first ++ drop n zeros)),
      length-drop n (first ++ drop n zeros),
      length-append first (drop n zeros),
      length-drop n zeros,
    )

-- a header into which its first bytes were copied and the rest was read
pub header-is : (n : ℕ) (first zeros part : List ℕ) → length first ≡ n → length zeros ≡ file_header_len →
    n ≤ file_header_len → length part ≡ file_header_len - n →
    put_mid n (file_header_len - n) (first ++ drop n zeros) part ≡ first ++ part
header-is n first zeros part is all few fits =
    let copied : List ℕ = first ++ drop n zeros in
    let none : drop (file_header_len - n) (drop n copied) ≡ [] =
    drop_all (file_header_len - n) (drop n copied)
    (omega (arith, is, all, few, length-drop n copied, length-append first (drop n zeros), length-drop n zeros)) in
    ap (λ (l : List ℕ). l ++ (part ++ drop (file_header_len - n) (drop n copied)))
    (take_at first (drop n zeros) n is)
    ∙ ap (λ (l : List ℕ). first ++ (part ++ l)) none ∙ ap (λ (l : List ℕ). first ++ l) (append-nil part)
