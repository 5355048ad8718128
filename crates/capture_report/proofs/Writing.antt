-- Lines are written packet by packet: what was written, and what is to come.
use Rattle.std.proofs.Common.{◌≡◌, ℕ, ◌+◌, ◌*◌, ◌≤◌, List, ◌∷◌, ◌++◌, length, take, drop, sym, ap, ◌∙◌, Bool, true, false, replicate, refl}
use Rattle.std.proofs.Common.{◌⊎◌, inl, inr, append_assoc, arith}
use Rattle.std.proofs.lemmas.List.{drop_at, length-append}
use Rattle.std.proofs.Math.Seq.{take-append_seam}
use Rattle.std.proofs.lemmas.List.Elements.{All-tail}
use Rattle.std.proofs.lemmas.List.FromFn.{length-map-range_with_len}
use Rattle.field_defs.specs.declared.field.Family.TheVariants as family
use Rattle.flat_table.specs.Table.{TableView}
use Rattle.flat_table.specs.Walk.{table_verdict}
use Rattle.flat_table.specs.Batch.{key_verdicts}
use Rattle.header_extract.specs.declared.class.Class.{Class}
use Rattle.header_extract.specs.declared.class.Class.TheVariants.{Ip4, Ip6, Other, Short}
use Rattle.header_extract.specs.Class.{FrameClass}
use Rattle.acl_report.specs.declared.counts.Counts.{Counts}
use Rattle.acl_report.specs.declared.line.TheConstants.{LINE_ROOM}
use Rattle.acl_report.specs.Counting.{counted}
use Rattle.capture_report.specs.Packet.{IsPacket}
use Rattle.capture_report.specs.ReportForm.{ReportForm}
use Rattle.capture_report.specs.Report.{counted_all, line_of_packet, lines_of_packets}
use Rattle.capture_report.specs.Batch.{AreAnswered, AreInFront, AreMarked, AreNext, verdicts_of, verdicts_on}
use Rattle.capture_report.specs.Batch.{dashes_of, dashes_of_family, dashes_on}
use Rattle.capture_report.proofs.LineLaws.{counted-packets}
use Rattle.capture_report.proofs.Marks.{dashes_count}

-- The lines of the packets up to the rest stand in front, and the verdicts on the rest are left, and
-- their dashes.
pub record Written (form : ReportForm) (was now : Counts) (all rest : List FrameClass) (ip4 ip6 : List ℕ)
    (dashes4 dashes6 : List Bool) (number at size : ℕ) (lines : List ℕ) : Type 0 where
  pub next : AreNext now rest
  pub answered : AreAnswered form rest ip4 ip6
  pub marked : form.marks ≡ true → AreMarked form rest dashes4 dashes6
  pub room : at + length rest * LINE_ROOM ≤ length lines
  pub written : take at lines ++ lines_of_packets form (now.packets + 1) rest
      ≡ lines_of_packets form (was.packets + 1) all
  pub counting : counted_all rest now ≡ counted_all all was
  pub len : length lines ≡ size
  pub numbered : number ≡ now.packets + 1

-- one packet more of a class
classes_more : (class : Class) (now : Counts) → now.ip4 + now.ip6 + now.other + now.short ≡ now.packets →
    (counted class now).ip4 + (counted class now).ip6 + (counted class now).other + (counted class now).short
    ≡ (counted class now).packets
classes_more Ip4 now is = omega (arith, is)
classes_more Ip6 now is = omega (arith, is)
classes_more Other now is = omega (arith, is)
classes_more Short now is = omega (arith, is)

-- once a packet is counted, the packets after it come next
next_more : (now : Counts) (p : FrameClass) (rest : List FrameClass) → AreNext now (p ∷ rest) →
    AreNext (counted p.class now) rest
next_more now p rest next = record {
  classes = classes_more p.class now next.classes;
  few = omega (arith, next.few, counted-packets p.class now);
  own = All-tail IsPacket p rest next.own;
}

-- the line of a packet was written after the others
pub Written-next : {form : ReportForm} {was now later : Counts} {all rest : List FrameClass} {p : FrameClass}
    {ip4 ip6 left4 left6 lines new after : List ℕ} {dashes4 dashes6 more4 more6 : List Bool}
    {number next at end next_at size : ℕ} →
    Written form was now all (p ∷ rest) ip4 ip6 dashes4 dashes6 number at size lines → later ≡ counted p.class now →
    next ≡ number + 1 → next_at ≡ end → after ≡ new → end ≤ at + LINE_ROOM →
    take end new ≡ take at lines ++ line_of_packet form number p → length new ≡ length lines →
    AreAnswered form rest left4 left6 → (form.marks ≡ true → AreMarked form rest more4 more6) →
    Written form was later all rest left4 left6 more4 more6 next next_at size after
Written-next {form = form} {was = was} {now = now} {all = all} {rest = rest} {p = p} {lines = lines} {new = new}
    {number = number} {at = at} {end = end} w is_later is_next is_at is_after ends line len answered marked =
    let more = counted-packets p.class now in
    let first = take at lines in
    let one = line_of_packet form (now.packets + 1) p in
    let others = lines_of_packets form ((now.packets + 1) + 1) rest in
    rw (is_later, is_next, is_at, is_after)
    record {
      next = next_more now p rest w.next;
      answered = answered;
      marked = marked;
      room = omega (arith, w.room, ends, len);
      written =
          ap (λ n. take end new ++ lines_of_packets form (n + 1) rest) more
          ∙ ap (λ (l : List ℕ). l ++ others) (line ∙ ap (λ n. first ++ line_of_packet form n p) w.numbered)
          ∙ append_assoc first one others
          ∙ w.written;
      counting = w.counting;
      len = len ∙ w.len;
      numbered = ap (λ n. n + 1) (w.numbered ∙ sym more);
    }

-- a key has as many verdicts as categories are asked for
verdicts_count : (table : TableView) (key : List ℕ) (n : ℕ) → length (key_verdicts table n key) ≡ n
verdicts_count table key n = length-map-range_with_len (λ category. table_verdict table key category) 0 n

-- the verdicts on an IPv4 packet are taken off the front
pub answered_ip4 : {form : ReportForm} {p : FrameClass} {rest : List FrameClass} {ip4 ip6 left4 left6 : List ℕ}
    {count : ℕ} → AreAnswered form (p ∷ rest) ip4 ip6 → p.class ≡ Ip4 → count ≡ form.categories →
    left4 ≡ drop count ip4 → left6 ≡ ip6 → AreAnswered form rest left4 left6
answered_ip4 {form = form} {p = p} {rest = rest} {ip4 = ip4} answered is is_count is_left4 is_left6 =
    let n = form.categories in
    let table = form.tables.ip4 in
    let first = key_verdicts table n p.key in
    let others = verdicts_of family.Ip4 table n rest in
    let all : ip4 ≡ first ++ others = rw is at answered.on_ip4 in
    rw (is_left4, is_left6, is_count)
    record {
      on_ip4 = ap (drop n) all ∙ drop_at first others n (verdicts_count table p.key n);
      on_ip6 = rw is at answered.on_ip6;
    }

-- the same of an IPv6 packet
pub answered_ip6 : {form : ReportForm} {p : FrameClass} {rest : List FrameClass} {ip4 ip6 left4 left6 : List ℕ}
    {count : ℕ} → AreAnswered form (p ∷ rest) ip4 ip6 → p.class ≡ Ip6 → count ≡ form.categories →
    left4 ≡ ip4 → left6 ≡ drop count ip6 → AreAnswered form rest left4 left6
answered_ip6 {form = form} {p = p} {rest = rest} {ip6 = ip6} answered is is_count is_left4 is_left6 =
    let n = form.categories in
    let table = form.tables.ip6 in
    let first = key_verdicts table n p.key in
    let others = verdicts_of family.Ip6 table n rest in
    let all : ip6 ≡ first ++ others = rw is at answered.on_ip6 in
    rw (is_left4, is_left6, is_count)
    record {
      on_ip4 = rw is at answered.on_ip4;
      on_ip6 = ap (drop n) all ∙ drop_at first others n (verdicts_count table p.key n);
    }

-- a frame without a packet has no verdicts
pub answered_none : {form : ReportForm} {p : FrameClass} {rest : List FrameClass} {ip4 ip6 left4 left6 : List ℕ}
    {class : Class} → AreAnswered form (p ∷ rest) ip4 ip6 → class ≡ p.class → (class ≡ Other) ⊎ (class ≡ Short) →
    left4 ≡ ip4 → left6 ≡ ip6 → AreAnswered form rest left4 left6
answered_none {p = p} answered shown (inl is) is_left4 is_left6 =
    let other : p.class ≡ Other = sym shown ∙ is in
    rw (is_left4, is_left6) record { on_ip4 = rw other at answered.on_ip4; on_ip6 = rw other at answered.on_ip6 }
answered_none {p = p} answered shown (inr is) is_left4 is_left6 =
    let short : p.class ≡ Short = sym shown ∙ is in
    rw (is_left4, is_left6) record { on_ip4 = rw short at answered.on_ip4; on_ip6 = rw short at answered.on_ip6 }

-- in front of the verdicts that are left stand those of a key
front_verdicts : (table : TableView) (key others left : List ℕ) (n count : ℕ) →
    left ≡ key_verdicts table n key ++ others → count ≡ n →
    (count ≤ length left) × (take count left ≡ key_verdicts table n key)
front_verdicts table key others left n count is is_count =
    let first = key_verdicts table n key in (
      omega (arith, ap length is, length-append first others, verdicts_count table key n, is_count),
      ap (take count) is
          ∙ ap (λ k. take k (first ++ others)) (is_count ∙ sym (verdicts_count table key n))
          ∙ take-append_seam first others,
    )

-- so it is of the first IPv4 packet
verdicts_ip4 : {form : ReportForm} {p : FrameClass} {rest : List FrameClass} {ip4 ip6 : List ℕ} {count : ℕ} →
    AreAnswered form (p ∷ rest) ip4 ip6 → p.class ≡ Ip4 → count ≡ form.categories →
    (count ≤ length ip4) × (take count ip4 ≡ verdicts_on p.class form p.key)
verdicts_ip4 {form = form} {p = p} {rest = rest} {ip4 = ip4} {count = count} answered is is_count =
    let n = form.categories in
    rw is
    (front_verdicts form.tables.ip4 p.key (verdicts_of family.Ip4 form.tables.ip4 n rest) ip4 n count
    (rw is at answered.on_ip4) is_count)

-- and of the first IPv6 packet
verdicts_ip6 : {form : ReportForm} {p : FrameClass} {rest : List FrameClass} {ip4 ip6 : List ℕ} {count : ℕ} →
    AreAnswered form (p ∷ rest) ip4 ip6 → p.class ≡ Ip6 → count ≡ form.categories →
    (count ≤ length ip6) × (take count ip6 ≡ verdicts_on p.class form p.key)
verdicts_ip6 {form = form} {p = p} {rest = rest} {ip6 = ip6} {count = count} answered is is_count =
    let n = form.categories in
    rw is
    (front_verdicts form.tables.ip6 p.key (verdicts_of family.Ip6 form.tables.ip6 n rest) ip6 n count
    (rw is at answered.on_ip6) is_count)

-- there is a dash or none for each verdict
pub same_count : (form : ReportForm) (class : Class) (key : List ℕ) →
    length (dashes_on class form key) ≡ length (verdicts_on class form key)
same_count form Ip4 key =
    dashes_count form form.tables.ip4 key ∙ sym (verdicts_count form.tables.ip4 key form.categories)
same_count form Ip6 key =
    dashes_count form form.tables.ip6 key ∙ sym (verdicts_count form.tables.ip6 key form.categories)
same_count form Other key = refl
same_count form Short key = refl

-- in front of the dashes that are left stand those of a key
front_dashes : (form : ReportForm) (table : TableView) (key : List ℕ) (others left : List Bool) (count : ℕ) →
    left ≡ dashes_of form table key ++ others → count ≡ form.categories →
    (count ≤ length left) × (take count left ≡ dashes_of form table key)
front_dashes form table key others left count is is_count =
    let first = dashes_of form table key in (
      omega (arith, ap length is, length-append first others, dashes_count form table key, is_count),
      ap (take count) is
          ∙ ap (λ n. take n (first ++ others)) (is_count ∙ sym (dashes_count form table key))
          ∙ take-append_seam first others,
    )

-- so it is of the first IPv4 packet
front_ip4 : {form : ReportForm} {p : FrameClass} {rest : List FrameClass} {ip4 ip6 : List Bool} {count : ℕ} →
    AreMarked form (p ∷ rest) ip4 ip6 → p.class ≡ Ip4 → count ≡ form.categories →
    (count ≤ length ip4) × (take count ip4 ≡ dashes_on p.class form p.key)
front_ip4 {form = form} {p = p} {rest = rest} {ip4 = ip4} {count = count} marked is is_count =
    rw is
    (front_dashes form form.tables.ip4 p.key (dashes_of_family family.Ip4 form.tables.ip4 form rest) ip4 count
    (rw is at marked.on_ip4) is_count)

-- and of the first IPv6 packet
front_ip6 : {form : ReportForm} {p : FrameClass} {rest : List FrameClass} {ip4 ip6 : List Bool} {count : ℕ} →
    AreMarked form (p ∷ rest) ip4 ip6 → p.class ≡ Ip6 → count ≡ form.categories →
    (count ≤ length ip6) × (take count ip6 ≡ dashes_on p.class form p.key)
front_ip6 {form = form} {p = p} {rest = rest} {ip6 = ip6} {count = count} marked is is_count =
    rw is
    (front_dashes form form.tables.ip6 p.key (dashes_of_family family.Ip6 form.tables.ip6 form rest) ip6 count
    (rw is at marked.on_ip6) is_count)

-- the dashes of an IPv4 packet are taken off the front
pub marked_ip4 : {form : ReportForm} {p : FrameClass} {rest : List FrameClass} {ip4 ip6 left4 left6 : List Bool}
    {count : ℕ} → AreMarked form (p ∷ rest) ip4 ip6 → p.class ≡ Ip4 → count ≡ form.categories →
    left4 ≡ drop count ip4 → left6 ≡ ip6 → AreMarked form rest left4 left6
marked_ip4 {form = form} {p = p} {rest = rest} {ip4 = ip4} marked is is_count is_left4 is_left6 =
    let table = form.tables.ip4 in
    let first = dashes_of form table p.key in
    let others = dashes_of_family family.Ip4 table form rest in
    let all : ip4 ≡ first ++ others = rw is at marked.on_ip4 in
    rw (is_left4, is_left6, is_count)
    record {
      on_ip4 = ap (drop form.categories) all ∙ drop_at first others form.categories (dashes_count form table p.key);
      on_ip6 = rw is at marked.on_ip6;
    }

-- the same of an IPv6 packet
pub marked_ip6 : {form : ReportForm} {p : FrameClass} {rest : List FrameClass} {ip4 ip6 left4 left6 : List Bool}
    {count : ℕ} → AreMarked form (p ∷ rest) ip4 ip6 → p.class ≡ Ip6 → count ≡ form.categories →
    left4 ≡ ip4 → left6 ≡ drop count ip6 → AreMarked form rest left4 left6
marked_ip6 {form = form} {p = p} {rest = rest} {ip6 = ip6} marked is is_count is_left4 is_left6 =
    let table = form.tables.ip6 in
    let first = dashes_of form table p.key in
    let others = dashes_of_family family.Ip6 table form rest in
    let all : ip6 ≡ first ++ others = rw is at marked.on_ip6 in
    rw (is_left4, is_left6, is_count)
    record {
      on_ip4 = rw is at marked.on_ip4;
      on_ip6 = ap (drop form.categories) all ∙ drop_at first others form.categories (dashes_count form table p.key);
    }

-- a frame without a packet has no dashes
pub marked_none : {form : ReportForm} {p : FrameClass} {rest : List FrameClass} {ip4 ip6 left4 left6 : List Bool}
    {class : Class} → AreMarked form (p ∷ rest) ip4 ip6 → class ≡ p.class → (class ≡ Other) ⊎ (class ≡ Short) →
    left4 ≡ ip4 → left6 ≡ ip6 → AreMarked form rest left4 left6
marked_none {p = p} marked shown (inl is) is_left4 is_left6 =
    let other : p.class ≡ Other = sym shown ∙ is in
    rw (is_left4, is_left6) record { on_ip4 = rw other at marked.on_ip4; on_ip6 = rw other at marked.on_ip6 }
marked_none {p = p} marked shown (inr is) is_left4 is_left6 =
    let short : p.class ≡ Short = sym shown ∙ is in
    rw (is_left4, is_left6) record { on_ip4 = rw short at marked.on_ip4; on_ip6 = rw short at marked.on_ip6 }

-- the answers for the first IPv4 packet stand in front
pub in_front_ip4 : {form : ReportForm} {p : FrameClass} {rest : List FrameClass} {ip4 ip6 : List ℕ}
    {dashes4 dashes6 : List Bool} → AreAnswered form (p ∷ rest) ip4 ip6 →
    (form.marks ≡ true → AreMarked form (p ∷ rest) dashes4 dashes6) → p.class ≡ Ip4 → AreInFront form p ip4 dashes4
in_front_ip4 answered marked is =
    let verdicts = verdicts_ip4 answered is refl in
    record {
      few = verdicts.0;
      verdicts_are = verdicts.1;
      marks_fit = λ asked. (front_ip4 (marked asked) is refl).0;
      marks_are = λ asked. (front_ip4 (marked asked) is refl).1;
      unmarked = λ off. rw (is, off) refl;
    }

-- and those for the first IPv6 packet
pub in_front_ip6 : {form : ReportForm} {p : FrameClass} {rest : List FrameClass} {ip4 ip6 : List ℕ}
    {dashes4 dashes6 : List Bool} → AreAnswered form (p ∷ rest) ip4 ip6 →
    (form.marks ≡ true → AreMarked form (p ∷ rest) dashes4 dashes6) → p.class ≡ Ip6 → AreInFront form p ip6 dashes6
in_front_ip6 answered marked is =
    let verdicts = verdicts_ip6 answered is refl in
    record {
      few = verdicts.0;
      verdicts_are = verdicts.1;
      marks_fit = λ asked. (front_ip6 (marked asked) is refl).0;
      marks_are = λ asked. (front_ip6 (marked asked) is refl).1;
      unmarked = λ off. rw (is, off) refl;
    }

-- What is taken for the dashes of a packet is what it shows: they stand in front, or marks aren't
-- asked for and none is shown.
pub shown_own : {form : ReportForm} {p : FrameClass} {verdicts : List ℕ} {left dashes : List Bool} {count : ℕ} →
    (marks : Bool) → form.marks ≡ marks → AreInFront form p verdicts left → count ≡ form.categories →
    (marks ≡ true → dashes ≡ take count left) → (marks ≡ false → dashes ≡ replicate count false) →
    dashes ≡ dashes_on p.class form p.key
shown_own {left = left} true asked own is_count front none =
    front refl ∙ ap (λ n. take n left) is_count ∙ own.marks_are asked
shown_own false off own is_count front none =
    none refl ∙ ap (λ n. replicate n false) is_count ∙ sym (own.unmarked off)
