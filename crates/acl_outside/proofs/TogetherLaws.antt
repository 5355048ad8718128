-- What was heard of the opened file and what is left of it are together the file, call by call.
use Rattle.std.proofs.Common.{◌≡◌, ℕ, ◌==◌, List, [], ◌∷◌, ◌++◌, length, take, false, Option, Some, None, Result, Ok, Err, inl, inr, sym, ◌∙◌, ap, refl, append_assoc, append-nil, IsTrue}
use Rattle.std.proofs.lemmas.Bool.{cases_Bool}
use Rattle.acl_outside.specs.Told.{Changes}
use Rattle.acl_outside.specs.Desk.{Content, DeskView, Opens, GivesUp, Gives, Creates, Writes, OpensFile}
use Rattle.acl_outside.specs.Desk.{CreatesFile, FinishesFile}
use Rattle.acl_outside.specs.Heard.{Heard, BrokenOff, Ended, heard, change_newest, with_bytes, with_ending, after_read}
use Rattle.acl_outside.specs.DeskReading.{ReadsOn, and_goes_on, after_fault}
use Rattle.acl_outside.specs.declared.reading.ReadAll.{ReadAll}
use Rattle.acl_outside.specs.declared.reading.ReadAll.TheVariants.{ReadFault, OutOfMemory}
use Rattle.acl_outside.specs.Memory.{desk_over, shown_desk, content_of}
use Rattle.acl_outside.specs.Together.{NewestIsWhole, HoldsTogether}
use Rattle.acl_outside.specs.Laws.{DesksBeginTogether, OpeningsHoldTogether, ReadsHoldTogether}
use Rattle.acl_outside.specs.Laws.{CreationsHoldTogether, WritesHoldTogether, FinishesHoldTogether}
use Rattle.acl_outside.specs.Laws.{ReadingsHoldTogether}
use Rattle.acl_outside.proofs.HeardLaws.{unlost}

-- what is told after a step was told before it
told_before : {A : Type 0} (P : A → A → Type 0) (old new : Option A) (after : A) → Changes P old new →
    new ≡ Some after → (before : A) × (old ≡ Some before) × P before after
told_before P None None after step told = absurd (cc)
told_before P (Some before) (Some now) after step told =
    let same : now ≡ after = cc in
    (before, refl, rw same at step)
told_before P None (Some now) after step told = absurd step
told_before P (Some before) None after step told = absurd step

-- where no file is opened and none is read, nothing is to be said of it
nothing_read : (desk : DeskView) → desk.reading ≡ false →
    ((content : Content) → desk.content ≡ Some content → content.opened ≡ None) → HoldsTogether desk
nothing_read desk idle opened = record {
  whole = λ content told reads. absurd (cc);
  none = λ content told is_idle. opened content told;
  apart = λ reads. absurd (cc);
}

-- The newest file has these bytes more and the same name, and the desk gave them.
record Hears (change : Heard → Heard) (bytes : List ℕ) (old new : DeskView) : Type 0 where
  heard_is : heard new.answers ≡ change_newest change (heard old.answers)
  told : Changes (Gives bytes) old.content new.content
  names : (file : Heard) → (change file).name ≡ file.name
  gains : (file : Heard) → (change file).bytes ≡ file.bytes ++ bytes
  reading : new.reading ≡ old.reading
  writing : new.writing ≡ old.writing

-- bytes that move from what is left to what was heard leave the file whole
newest_changed : (change : Heard → Heard) (bytes : List ℕ) (old new : DeskView) → Hears change bytes old new →
    (before after : Content) (files : List Heard) → Gives bytes before after → NewestIsWhole before files →
    NewestIsWhole after (change_newest change files)
newest_changed change bytes old new hears before after [] gives whole = absurd whole
newest_changed change bytes old new hears before after (file ∷ files) gives whole = record {
  opened = gives.opened ∙ whole.opened ∙ ap Some (sym (hears.names file));
  bytes =
      rw (hears.names file, hears.gains file, gives.files)
      (whole.bytes ∙ ap (λ left. Some (file.bytes ++ left)) gives.left
      ∙ ap Some (sym (append_assoc file.bytes bytes after.left)));
}

-- if the newest file was heard to have more bytes, the desk still holds together
hears_more : (change : Heard → Heard) (bytes : List ℕ) (old new : DeskView) → HoldsTogether old →
    Hears change bytes old new → HoldsTogether new
hears_more change bytes old new together hears = record {
  whole = λ content told reads.
      let before = told_before (Gives bytes) old.content new.content content hears.told told in
      rw hears.heard_is
      (newest_changed change bytes old new hears before.0 content (heard old.answers) before.2
      (together.whole before.0 before.1 (sym hears.reading ∙ reads)));
  none = λ content told idle.
      let before = told_before (Gives bytes) old.content new.content content hears.told told in
      before.2.opened ∙ together.none before.0 before.1 (sym hears.reading ∙ idle);
  apart = λ reads. hears.writing ∙ together.apart (sym hears.reading ∙ reads);
}

-- more bytes leave the name of a file
with_bytes-name : (bytes : List ℕ) (file : Heard) → (with_bytes bytes file).name ≡ file.name
with_bytes-name [] file = refl
with_bytes-name (b ∷ bs) file = refl

-- more bytes come after those that a file has
with_bytes-bytes : (bytes : List ℕ) (file : Heard) → (with_bytes bytes file).bytes ≡ file.bytes ++ bytes
with_bytes-bytes [] file = sym (append-nil file.bytes)
with_bytes-bytes (b ∷ bs) file = refl

-- a read leaves the name of a file
after_read-name : (room : ℕ) (bytes : List ℕ) (file : Heard) → (after_read room (Some bytes) file).name ≡ file.name
after_read-name room [] file = elim (cases_Bool (room == 0)) [
  | inl none ↦ rw none refl
  | inr some ↦ rw some refl
]
after_read-name room (b ∷ bs) file = refl

-- the bytes of a read come after those that a file has
after_read-bytes : (room : ℕ) (bytes : List ℕ) (file : Heard) →
    (after_read room (Some bytes) file).bytes ≡ file.bytes ++ bytes
after_read-bytes room [] file = elim (cases_Bool (room == 0)) [
  | inl none ↦ rw none (sym (append-nil file.bytes))
  | inr some ↦ rw some (sym (append-nil file.bytes))
]
after_read-bytes room (b ∷ bs) file = refl

-- the file was read on, and how its reading stands says nothing of its name and bytes
pub HoldsTogether-reads_on : (change : Heard → Heard) (bytes : List ℕ) (old new : DeskView) → HoldsTogether old →
    ((file : Heard) → (change file).name ≡ file.name) → ((file : Heard) → (change file).bytes ≡ file.bytes) →
    new.reading ≡ old.reading → new.writing ≡ old.writing → ReadsOn change bytes old new → HoldsTogether new
HoldsTogether-reads_on change bytes old new together names same reading writing on =
    hears_more (λ file. change (with_bytes bytes file)) bytes old new together
    record {
      heard_is = on.heard;
      told = on.told;
      names = λ file. names (with_bytes bytes file) ∙ with_bytes-name bytes file;
      gains = λ file. same (with_bytes bytes file) ∙ with_bytes-bytes bytes file;
      reading = reading;
      writing = writing;
    }

-- a desk over memory holds together at its beginning
pub desks_begin : DesksBeginTogether
desks_begin files piece room failing_reads failing_writes =
    let desk = desk_over files piece room failing_reads failing_writes in
    nothing_read (shown_desk desk) refl (λ content told.
    let same : content ≡ content_of desk = cc in
    ap (λ (c : Content). c.opened) same)

-- a desk holds together after an opening
pub HoldsTogether-opening : {T E : Type 0} (name : List ℕ) (old new : DeskView) (result : Result T E) →
    OpensFile name old new result → HoldsTogether new
HoldsTogether-opening name old new (Ok value) opens = record {
  whole = λ content told reads.
      let before = told_before (Opens name) old.content new.content content opens.opened told in
      rw opens.answer
      record { opened = before.2.opened; bytes = rw (before.2.files) (before.2.left) };
  none = λ content told idle. absurd (let reads = opens.reading in cc);
  apart = λ reads. opens.writing;
}
HoldsTogether-opening name old new (Err fault) opens = nothing_read new opens.reading
    (λ content told. (told_before GivesUp old.content new.content content opens.given_up told).2.opened)

-- and so of each opening
pub openings : OpeningsHoldTogether
openings name old new result opens = HoldsTogether-opening name old new result opens

-- a desk that holds together does so after a read
pub reads : ReadsHoldTogether
reads into_old into_new old new (Ok count) together read =
    hears_more (after_read (length into_old) (Some (take count into_new))) (take count into_new) old new together
    record {
      heard_is = ap heard read.answer;
      told = read.given;
      names = after_read-name (length into_old) (take count into_new);
      gains = after_read-bytes (length into_old) (take count into_new);
      reading = read.reading;
      writing = read.writing;
    }
reads into_old into_new old new (Err fault) together read =
    hears_more (with_ending BrokenOff) [] old new together
    record {
      heard_is = ap heard read.answer;
      told = unlost old.content new.content read.lost_nothing;
      names = λ file. refl;
      gains = λ file. sym (append-nil file.bytes);
      reading = read.reading;
      writing = read.writing;
    }

-- a desk holds together after a creation
pub HoldsTogether-creation : {T E : Type 0} (name : List ℕ) (old new : DeskView) (result : Result T E) →
    CreatesFile name old new result → HoldsTogether new
HoldsTogether-creation name old new (Ok value) creates = nothing_read new creates.reading
    (λ content told. (told_before (Creates name) old.content new.content content creates.created told).2.opened)
HoldsTogether-creation name old new (Err fault) creates = nothing_read new creates.reading
    (λ content told. (told_before GivesUp old.content new.content content creates.given_up told).2.opened)

-- and so of each creation
pub creations : CreationsHoldTogether
creations name old new result creates = HoldsTogether-creation name old new result creates

-- no file is read while one is written
idle_while_writing : (desk : DeskView) → HoldsTogether desk → IsTrue desk.writing → desk.reading ≡ false
idle_while_writing desk together writing = elim (cases_Bool desk.reading) [
  | inl reads ↦ absurd (let idle = together.apart reads in cc)
  | inr idle ↦ idle
]

-- bytes were written while no file was read
pub HoldsTogether-writing : (bytes : List ℕ) (old new : DeskView) → HoldsTogether old → old.reading ≡ false →
    new.reading ≡ old.reading → Changes (Writes bytes) old.content new.content → HoldsTogether new
HoldsTogether-writing bytes old new together idle reading written =
    nothing_read new (reading ∙ idle) (λ content told.
    let before = told_before (Writes bytes) old.content new.content content written told in
    before.2.opened ∙ together.none before.0 before.1 idle)

-- a desk that holds together does so after a write
pub writes : WritesHoldTogether
writes piece old new (Ok count) together writing write =
    HoldsTogether-writing (take count piece) old new together (idle_while_writing old together writing) write.reading
    write.taken
writes piece old new (Err fault) together writing write =
    let idle = idle_while_writing old together writing in
    nothing_read new (write.reading ∙ idle)
    (λ content told. together.none content (sym write.took_nothing ∙ told) idle)

-- a desk holds together after a finish
pub HoldsTogether-finish : {T E : Type 0} (old new : DeskView) (result : Result T E) → FinishesFile old new result →
    HoldsTogether new
HoldsTogether-finish old new result finish = nothing_read new finish.reading
    (λ content told. (told_before GivesUp old.content new.content content finish.ended told).2.opened)

-- and so of each finish
pub finishes : FinishesHoldTogether
finishes old new result finish = HoldsTogether-finish old new result finish

-- a fault leaves the name of a file
after_fault-name : (fault : ReadAll) (file : Heard) → (after_fault fault file).name ≡ file.name
after_fault-name ReadFault file = refl
after_fault-name OutOfMemory file = refl

-- a fault leaves the bytes of a file
after_fault-bytes : (fault : ReadAll) (file : Heard) → (after_fault fault file).bytes ≡ file.bytes
after_fault-bytes ReadFault file = refl
after_fault-bytes OutOfMemory file = refl

-- a desk that holds together does so after a file was read up to a cap
pub readings : ReadingsHoldTogether
readings cap old new (Ok bytes) together read = elim read.heard [
  | inl (ended, below) ↦ HoldsTogether-reads_on (with_ending Ended) bytes.items old new together
      (λ file. refl) (λ file. refl) read.reading read.writing ended
  | inr (on, full) ↦ HoldsTogether-reads_on and_goes_on bytes.items old new together (λ file. refl) (λ file. refl)
      read.reading read.writing on
]
readings cap old new (Err fault) together read =
    HoldsTogether-reads_on (after_fault fault) read.lost.0 old new together
    (after_fault-name fault) (after_fault-bytes fault) read.reading read.writing read.lost.1

-- where a file is told to be opened, the newest that was heard of is that file, and is whole
pub whole_where_opened : (desk : DeskView) (content : Content) (name : List ℕ) → HoldsTogether desk →
    desk.content ≡ Some content → content.opened ≡ Some name → NewestIsWhole content (heard desk.answers)
whole_where_opened desk content name together told opened = elim (cases_Bool desk.reading) [
  | inl reads ↦ together.whole content told reads
  | inr idle ↦ absurd (let none = together.none content told idle in cc)
]
