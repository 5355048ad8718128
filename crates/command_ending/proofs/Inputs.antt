-- A file that is opened and read.
use Rattle.std.proofs.Common.{◌≡◌, ◌⊎◌, ℕ, ◌<◌, ◌≤◌, List, [], ◌∷◌, length, true, false, Option, Some, None, Result, Ok, Err}
use Rattle.std.proofs.Common.{IsSome, inl, inr, ap, ◌∙◌, refl, arith, length-take}
use Rattle.std.proofs.lemmas.List.{drop_all}
use Rattle.std.specs.Option.{option_map}
use Rattle.std.specs.declared.vec.Vec.{Vec}
use Rattle.std.specs.declared.alloc.Global.{Global}
use Rattle.acl_outside.specs.Fault.{Rose}
use Rattle.acl_outside.specs.Told.{Changes}
use Rattle.acl_outside.specs.Desk.{File, Content, DeskView, bytes_of, Opens, GivesUp, Gives, OpensFile, KeepsCounts}
use Rattle.acl_outside.specs.Heard.{Heard, Ending, GoesOn, Ended, BrokenOff, heard, opening_of, change_newest}
use Rattle.acl_outside.specs.Heard.{with_bytes, with_ending}
use Rattle.acl_outside.specs.Made.{KeepsMade}
use Rattle.acl_outside.specs.Together.{HoldsTogether}
use Rattle.acl_outside.proofs.Offered.{KeepsMade-opening, KeepsMade-join, KeepsCounts-join, HoldsTogether-opening}
use Rattle.acl_outside.proofs.Offered.{HoldsTogether-reading}
use Rattle.acl_outside.specs.DeskReading.{GivesUpTo, ReadsOn, ReadsUpTo, and_goes_on}
use Rattle.acl_outside.specs.declared.reading.ReadAll.{ReadAll}
use Rattle.acl_outside.specs.declared.reading.ReadAll.TheVariants as reading
use Rattle.command_ending.specs.declared.status.Status.TheVariants.{ReadFault, OutOfMemory}
use Rattle.command_ending.specs.Follow.{IsPartOf}
use Rattle.command_ending.specs.StepEffects.{files_of, heard_of, KeepsFiles, CannotRead, ReadsFile}

-- what `open_file` says of a file that is there, where the content is told
abbrev IsKnown : Option Content → List ℕ → DeskView → DeskView → Type 0
IsKnown content name old new = (told : Content) → content ≡ Some told → IsSome (bytes_of told.files name) →
    (new.absent ≡ old.absent) × Rose old.read_faults new.read_faults

-- a file that no told content has
abbrev IsAbsent : Option Content → List ℕ → Type 0
IsAbsent content name = (files : List File) → option_map (λ c. c.files) content ≡ Some files →
    bytes_of files name ≡ None

-- a file is there or absent, by what its name finds
found_or_absent : (told : Content) (name : List ℕ) (found : Option (List ℕ)) → bytes_of told.files name ≡ found →
    IsSome (bytes_of told.files name) ⊎ IsAbsent (Some told) name
found_or_absent told name (Some bytes) e = inl (rw e refl)
found_or_absent told name None e = inr (λ files same. let at : told.files ≡ files = cc in rw (← at) e)

-- if no file was opened, the desk had a read fault or the file is absent
known_or_absent : (content : Option Content) (name : List ℕ) (old new : DeskView) → IsKnown content name old new →
    Rose old.read_faults new.read_faults ⊎ IsAbsent content name
known_or_absent None name old new known = inr (λ files told. absurd (cc))
known_or_absent (Some told) name old new known =
    elim (found_or_absent told name (bytes_of told.files name) refl) [
      | inl found ↦ inl
          ((known told refl found).1)
      | inr absent ↦ inr absent
    ]

-- A file that can't be opened is a fault of the desk, or it is absent.
pub cannot_open : (name : List ℕ) (old new : DeskView) →
    Rose old.read_faults new.read_faults ⊎ Rose old.absent new.absent →
    IsKnown old.content name old new → CannotRead old new (λ files. bytes_of files name ≡ None)
cannot_open name old new (inl rose) known = inl rose
cannot_open name old new (inr rose) known =
    elim (known_or_absent old.content name old new known) [ inl fault ↦ inl fault | inr absent ↦ inr (rose, absent) ]

-- the files of what is told stay
pub told_files : (P : Content → Content → Type 0) → ((a b : Content) → P a b → b.files ≡ a.files) →
    (old new : Option Content) → Changes P old new →
    option_map (λ c. c.files) new ≡ option_map (λ c. c.files) old
told_files P keeps None None step = refl
told_files P keeps (Some old) (Some new) step = ap Some (keeps old new step)
told_files P keeps None (Some new) step = absurd step
told_files P keeps (Some old) None step = absurd step

-- where no file is opened, the files stay
pub unopened_kept : {T E : Type 0} (name : List ℕ) (old new : DeskView) (e : E) →
    OpensFile {T = T} name old new (Err e) → KeepsFiles old new
unopened_kept name old new e opens = record {
  files = told_files GivesUp (λ a b step. step.files) old.content new.content opens.given_up;
  made = KeepsMade-opening name (Err e) old new opens;
  counts = opens.counts;
  together = λ before. HoldsTogether-opening name old new (Err e) opens;
}

-- no file is told to be opened where none could be
pub unopened_told : (old new : Option Content) → Changes GivesUp old new → (files : List File) →
    option_map (λ c. c.files) old ≡ Some files → option_map (λ c. c.opened) new ≡ Some None
unopened_told None new gives_up files told = absurd (cc)
unopened_told (Some old) None gives_up files told = absurd gives_up
unopened_told (Some old) (Some new) gives_up files told = ap Some gives_up.opened

-- The file can't be opened.
pub ReadsFile-unopened : {T E : Type 0} (name : List ℕ) (cap : ℕ) (old new : DeskView) (e : E) →
    OpensFile {T = T} name old new (Err e) →
    ReadsFile name cap old new (Err ReadFault)
ReadsFile-unopened name cap old new e opens = record {
  file = opening_of name false;
  named = refl;
  heard = ap heard opens.answer;
  told = λ files told opened. absurd opened;
  bytes = tt;
  within = tt;
  ending = tt;
  fault = inr (refl, refl);
  read_fault = λ same. cannot_open name old new opens.cause opens.there;
  opened = λ files told. unopened_told old.content new.content opens.given_up files told;
  absent = λ files told isnt. absurd (isnt refl);
  kept = unopened_kept name old new e opens;
}

-- an opening with its first bytes
begun : (name bytes : List ℕ) →
    with_bytes bytes (opening_of name true) ≡ record { name = name; bytes = bytes; ending = GoesOn }
begun name [] = refl
begun name (b ∷ bs) = refl

-- a file that was opened and read was heard with the bytes that were read
pub heard_file : {T E : Type 0} (change : Heard → Heard) (name bytes : List ℕ) (old mid new : DeskView) (x : T) →
    OpensFile {E = E} name old mid (Ok x) → ReadsOn change bytes mid new →
    heard_of new ≡ change (record { name = name; bytes = bytes; ending = GoesOn }) ∷ heard_of old
heard_file change name bytes old mid new x opens reads =
    reads.heard ∙ ap (λ answers. change_newest (λ file. change (with_bytes bytes file)) (heard answers)) opens.answer
    ∙ ap (λ file. change file ∷ heard old.answers) (begun name bytes)

-- what was read is a part of the told file
pub part_told : (name bytes : List ℕ) (ending : Ending) (old mid new : Option Content) → Changes (Opens name) old mid →
    Changes (Gives bytes) mid new →
    (ending ≡ Ended → (content : Content) → new ≡ Some content → content.left ≡ []) →
    (files : List File) → option_map (λ c. c.files) old ≡ Some files →
    IsPartOf files (record { name = name; bytes = bytes; ending = ending })
part_told name bytes ending None mid new opens gives ended files told = absurd (cc)
part_told name bytes ending (Some old) None new opens gives ended files told = absurd opens
part_told name bytes ending (Some old) (Some mid) None opens gives ended files told = absurd gives
part_told name bytes ending (Some old) (Some mid) (Some new) opens gives ended files told =
    let at : old.files ≡ files = cc in
    record {
      rest = new.left;
      there = rw (← at) (opens.left ∙ ap Some gives.left);
      whole = λ e. ended e new refl;
    }

-- fewer bytes than the cap are all that was left
ended_told : (cap : ℕ) (bytes : List ℕ) (old new : Option Content) → Changes (GivesUpTo cap bytes) old new →
    length bytes < cap →
    (content : Content) → new ≡ Some content → content.left ≡ []
ended_told cap bytes None None gives few content told = absurd (cc)
ended_told cap bytes None (Some new) gives few content told = absurd gives
ended_told cap bytes (Some old) None gives few content told = absurd gives
ended_told cap bytes (Some old) (Some new) gives few content told =
    let at : new ≡ content = cc in
    let short : length old.left ≤ cap = omega (arith, ap length gives.given, length-take cap old.left, few) in
    rw (← at) (gives.left ∙ drop_all cap old.left short)

-- the file that was opened and read is the opened one, if the files are told
pub opened_told : (name bytes : List ℕ) (old mid new : Option Content) → Changes (Opens name) old mid →
    Changes (Gives bytes) mid new →
    (files : List File) → option_map (λ c. c.files) old ≡ Some files → option_map (λ c. c.opened) new
    ≡ Some (Some name)
opened_told name bytes None mid new opens gives files told = absurd (cc)
opened_told name bytes (Some old) None new opens gives files told = absurd opens
opened_told name bytes (Some old) (Some mid) None opens gives files told = absurd gives
opened_told name bytes (Some old) (Some mid) (Some new) opens gives files told = ap Some (gives.opened ∙ opens.opened)

-- an opened file was there
pub opened_absent : (name : List ℕ) (old new : DeskView) (old_content new_content : Option Content) →
    ((content : Content) → old_content ≡ Some content → IsSome (bytes_of content.files name) →
    new.absent ≡ old.absent) →
    Changes (Opens name) old_content new_content → (files : List File) →
    option_map (λ c. c.files) old_content ≡ Some files → new.absent ≡ old.absent
opened_absent name old new None new_content there opens files told = absurd (cc)
opened_absent name old new (Some content) None there opens files told = absurd opens
opened_absent name old new (Some content) (Some after) there opens files told =
    there content refl (rw (opens.left) refl)

-- opening a file and reading it keeps all files
pub kept_files : {T E : Type 0} (name bytes : List ℕ) (old mid new : DeskView) (x : T) →
    OpensFile {E = E} name old mid (Ok x) →
    Changes (Gives bytes) mid.content new.content → KeepsMade mid new → KeepsCounts mid new → HoldsTogether new →
    KeepsFiles old new
kept_files name bytes old mid new x opens gives made counts together = record {
  files =
      told_files (Gives bytes) (λ a b step. step.files) mid.content new.content gives
      ∙ told_files (Opens name) (λ a b step. step.files) old.content mid.content opens.opened;
  made = KeepsMade-join old mid new (KeepsMade-opening name (Ok x) old mid opens) made;
  counts = KeepsCounts-join old mid new opens.counts counts;
  together = λ before. together;
}

-- what was heard and what is left are together the file, once it was opened and read up to a cap
read_together : {T E : Type 0} (name : List ℕ) (cap : ℕ) (old mid new : DeskView) (x : T)
    (result : Result (Vec ℕ Global) ReadAll) →
    OpensFile {E = E} name old mid (Ok x) → ReadsUpTo cap mid new result → HoldsTogether new
read_together name cap old mid new x result opens reads =
    HoldsTogether-reading cap mid new result (HoldsTogether-opening name old mid (Ok x) opens) reads

-- The file is opened, and read to its end or the cap.
pub ReadsFile-read : {T E : Type 0} (name : List ℕ) (cap : ℕ) (old mid new : DeskView) (x : T)
    (bytes : Vec ℕ Global) →
    OpensFile {E = E} name old mid (Ok x) → ReadsUpTo cap mid new (Ok bytes) → ReadsFile name cap old new (Ok bytes)
ReadsFile-read name cap old mid new x bytes opens reads = go reads.heard
  where
    absent_kept : (files : List File) → files_of old ≡ Some files → new.absent ≡ old.absent
    absent_kept files told =
        reads.absent ∙ opened_absent name old mid old.content mid.content
        (λ content at some. (opens.there content at some).0) opens.opened files told

    go : (ReadsOn (with_ending Ended) bytes.items mid new × (length bytes.items < cap))
        ⊎ (ReadsOn and_goes_on bytes.items mid new × (length bytes.items ≡ cap)) →
        ReadsFile name cap old new (Ok bytes)
    go (inl (on, few)) = record {
      file = record { name = name; bytes = bytes.items; ending = Ended };
      named = refl;
      heard = heard_file (with_ending Ended) name bytes.items old mid new x opens on;
      told = λ files told opened.
          part_told name bytes.items Ended old.content mid.content new.content opens.opened on.told
          (λ e. ended_told cap bytes.items mid.content new.content reads.bytes few) files told;
      bytes = refl;
      within = omega (arith, few);
      ending = inl refl;
      fault = tt;
      read_fault = λ e. absurd (cc);
      opened = λ files told. opened_told name bytes.items old.content mid.content new.content opens.opened on.told
          files
          told;
      absent = λ files told isnt. absent_kept files told;
      kept = kept_files name bytes.items old mid new x opens on.told reads.made reads.counts
          (read_together name cap old mid new x (Ok bytes) opens reads);
    }
    go (inr (on, full)) = record {
      file = record { name = name; bytes = bytes.items; ending = GoesOn };
      named = refl;
      heard = heard_file and_goes_on name bytes.items old mid new x opens on;
      told = λ files told opened.
          part_told name bytes.items GoesOn old.content mid.content new.content opens.opened on.told
          (λ e. absurd (cc)) files told;
      bytes = refl;
      within = omega (arith, full);
      ending = inr (refl, full);
      fault = tt;
      read_fault = λ e. absurd (cc);
      opened = λ files told. opened_told name bytes.items old.content mid.content new.content opens.opened on.told
          files
          told;
      absent = λ files told isnt. absent_kept files told;
      kept = kept_files name bytes.items old mid new x opens on.told reads.made reads.counts
          (read_together name cap old mid new x (Ok bytes) opens reads);
    }

-- The file is opened, and a read fails.
pub ReadsFile-broken : {T E : Type 0} (name : List ℕ) (cap : ℕ) (old mid new : DeskView) (x : T) →
    OpensFile {E = E} name old mid (Ok x) → ReadsUpTo cap mid new (Err reading.ReadFault) →
    ReadsFile name cap old new (Err ReadFault)
ReadsFile-broken name cap old mid new x opens reads =
    let (bytes, on) = reads.lost in
    record {
      file = record { name = name; bytes = bytes; ending = BrokenOff };
      named = refl;
      heard = heard_file (with_ending BrokenOff) name bytes old mid new x opens on;
      told = λ files told opened.
          part_told name bytes BrokenOff old.content mid.content new.content opens.opened on.told
          (λ e. absurd (cc)) files told;
      bytes = tt;
      within = tt;
      ending = tt;
      fault = inr (refl, refl);
      read_fault = λ e. inl (omega (arith, opens.counts.read_faults, reads.read_fault refl));
      opened = λ files told.
          opened_told name bytes old.content mid.content new.content opens.opened on.told files told;
      absent = λ files told isnt. absurd (isnt refl);
      kept = kept_files name bytes old mid new x opens on.told reads.made reads.counts
          (read_together name cap old mid new x (Err reading.ReadFault) opens reads);
    }

-- The file is opened, and there is no memory for it.
pub ReadsFile-full : {T E : Type 0} (name : List ℕ) (cap : ℕ) (old mid new : DeskView) (x : T) →
    OpensFile {E = E} name old mid (Ok x) → ReadsUpTo cap mid new (Err reading.OutOfMemory) →
    ReadsFile name cap old new (Err OutOfMemory)
ReadsFile-full name cap old mid new x opens reads =
    let (bytes, on) = reads.lost in
    record {
      file = record { name = name; bytes = bytes; ending = GoesOn };
      named = refl;
      heard = heard_file and_goes_on name bytes old mid new x opens on;
      told = λ files told opened.
          part_told name bytes GoesOn old.content mid.content new.content opens.opened on.told
          (λ e. absurd (cc)) files told;
      bytes = tt;
      within = tt;
      ending = tt;
      fault = inl refl;
      read_fault = λ e. absurd (cc);
      opened = λ files told.
          opened_told name bytes old.content mid.content new.content opens.opened on.told files told;
      absent = λ files told isnt.
          reads.absent ∙ opened_absent name old mid old.content mid.content
          (λ content at some. (opens.there content at some).0) opens.opened files told;
      kept = kept_files name bytes old mid new x opens on.told reads.made reads.counts
          (read_together name cap old mid new x (Err reading.OutOfMemory) opens reads);
    }
