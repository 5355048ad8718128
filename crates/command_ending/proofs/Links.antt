-- The links of a command: a step and then the rest, or an end in either. They serve every command.
use Rattle.std.proofs.Common.{◌≡◌, ◌≢◌, ◌⊎◌, ℕ, List, [], ◌∷◌, ◌++◌, false, Option, Some, None, Result, Ok, Err}
use Rattle.std.proofs.Common.{IfOk}
use Rattle.std.proofs.Common.{IfErr, inl, inr, length, sym, ap, subst, ◌∙◌, refl, arith}
use Rattle.std.specs.Option.{option_map_or}
use Rattle.std.specs.declared.vec.Vec.{Vec}
use Rattle.std.specs.declared.alloc.Global.{Global}
use Rattle.acl_outside.specs.Desk.{File, DeskView}
use Rattle.acl_outside.specs.Heard.{Heard, Ending, NotOpened, GoesOn, Ended, BrokenOff}
use Rattle.acl_outside.specs.Fault.{Rose}
use Rattle.acl_outside.specs.Made.{Made, Finished, KeepsMade}
use Rattle.acl_outside.proofs.Offered.{KeepsMade-join, KeepsCounts-join}
use Rattle.command_ending.specs.declared.status.Status.{Status}
use Rattle.command_ending.specs.declared.status.Status.TheVariants.{ReadFault, WriteFault, OutOfMemory}
use Rattle.command_ending.specs.Plan.{Outcome, Plan, ◌>>=◌, nothing, reading, unless_refused, found, settled}
use Rattle.command_ending.specs.Follow.{Reached, Given, Stopped, Before, Within, IsEnough, Follows, IsCutOff, said}
use Rattle.command_ending.specs.Follow.{said_in, outcome_of}
use Rattle.command_ending.specs.Endings.{is_reported, is_usage}
use Rattle.command_ending.specs.StepEffects.{Outside, files_of, heard_of, KeepsFiles, Keeps, Makes, MakesPart, CannotRead}
use Rattle.command_ending.specs.StepEffects.{CannotWrite, IsOpenIn, ReadsFile, Parses, Takes, EndsMaking}
use Rattle.command_ending.proofs.Gained.{Gains-none, GainsPrefix-none}
use Rattle.command_ending.proofs.Stops.{unwritten, Keeps-any}
use Rattle.command_ending.proofs.Plans.{carried, then_found, Follows-found, Follows-then, Follows-cut, found-then}

-- two steps that each keep all files keep them together
pub KeepsFiles-then : (old mid new : DeskView) → KeepsFiles old mid → KeepsFiles mid new → KeepsFiles old new
KeepsFiles-then old mid new first second = record {
  files = second.files ∙ first.files;
  made = KeepsMade-join old mid new first.made second.made;
  counts = KeepsCounts-join old mid new first.counts second.counts;
  together = λ before. second.together (first.together before);
}

-- all files were kept, and then all that the command doesn't make
Keeps-then : (makes : Option (List ℕ)) (old mid new : DeskView) → KeepsFiles old mid → Keeps makes mid new →
    Keeps makes old new
Keeps-then None old mid new first second = KeepsFiles-then old mid new first second
Keeps-then (Some name) old mid new first second = record {
  files = λ before told. second.files before (first.files ∙ told);
  counts = KeepsCounts-join old mid new first.counts second.counts;
  together = λ before. second.together (first.together before);
}

-- a write failed after a step that wrote nothing
CannotWrite-later : (makes : Option (List ℕ)) (old new : Outside) (mid : DeskView) → KeepsMade old.desk mid →
    CannotWrite makes (record old { desk = mid }) new → CannotWrite makes old new
CannotWrite-later None old new mid kept rose = rose
CannotWrite-later (Some name) old new mid kept rose =
    subst (λ count. Rose count new.desk.write_faults) kept.write_faults rose

-- a file was made after a step that kept all files
Makes-later : (made : Option File) (old mid new : DeskView) → KeepsFiles old mid → Makes made mid new →
    Makes made old new
Makes-later None old mid new kept makes = KeepsFiles-then old mid new kept makes
Makes-later (Some file) old mid new kept makes = record {
  made =
      makes.made
      ∙ ap (λ (files : List Made). record { name = file.name; bytes = file.bytes; standing = Finished } ∷ files)
      kept.made.made;
  finished = makes.finished;
  holds = makes.holds;
}

-- and so where it couldn't be written
MakesPart-later : (made : Option File) (old mid new : DeskView) → KeepsFiles old mid → MakesPart made mid new →
    MakesPart made old new
MakesPart-later None old mid new kept makes = KeepsFiles-then old mid new kept makes
MakesPart-later (Some file) old mid new kept makes = record {
  part = makes.part;
  rest = makes.rest;
  made = makes.made ∙ ap (λ (files : List Made). makes.part ∷ files) kept.made.made;
  named = makes.named;
  parts = makes.parts;
  unfinished = makes.unfinished;
  holds = λ before after told now. makes.holds before after (kept.files ∙ told) now;
}

-- a fault of the desk, for a reason that follows from another
pub CannotRead-because : (P Q : List File → Type 0) (old new : DeskView) →
    ((files : List File) → files_of old ≡ Some files → P files → Q files) → CannotRead old new P →
    CannotRead old new Q
CannotRead-because P Q old new because (inl rose) = inl rose
CannotRead-because P Q old new because (inr (rose, absent)) =
    inr (rose, λ files told. because files told (absent files told))

-- a fault of the desk after a step that had none
CannotRead-later : (P : List File → Type 0) (old mid new : DeskView) → KeepsFiles old mid → CannotRead mid new P →
    CannotRead old new P
CannotRead-later P old mid new kept (inl rose) = inl (omega (arith, kept.counts.read_faults, rose))
CannotRead-later P old mid new kept (inr (rose, absent)) =
    inr (omega (arith, kept.counts.absent, rose), λ files told. absent files (kept.files ∙ told))

-- enough of a file was heard where it ended, or where as much was read as tells all
read_enough : {A : Type 0} (next : List ℕ → Plan A) (name : List ℕ) (cap : ℕ) (old new : DeskView)
    (bytes : Vec ℕ Global)
    (read : ReadsFile name cap old new (Ok bytes)) →
    ((front more : List ℕ) → length front ≡ cap → next (front ++ more) ≡ next front) →
    IsEnough next read.file
read_enough next name cap old new bytes read long =
    elim read.ending [
      | inl ended ↦ inl ended
      | inr on ↦ inr (on.0, λ more. long read.file.bytes more (ap length read.bytes ∙ on.1))
    ]

-- a plan of a value reaches it, and nothing is heard
follows_value : {A : Type 0} (told : Option (List File)) (result : Result A Status) (value : A)
    (old new : List Heard) →
    result ≡ Ok value → new ≡ old → Follows told (unless_refused result) old new (Given value)
follows_value told result value old new is same = rw is (same, refl)

-- a plan of a fault stops with it, and nothing is heard
follows_stop : {A : Type 0} (told : Option (List File)) (result : Result A Status) (status : Status)
    (old new : List Heard) →
    result ≡ Err status → new ≡ old → Follows told (unless_refused result) old new (Stopped status)
follows_stop told result status old new is same = rw is (same, refl)

-- no text is said as no text, however the reading of a file stands
nothing_in : (ending : Ending) → said_in ending [] ≡ []
nothing_in NotOpened = refl
nothing_in GoesOn = refl
nothing_in Ended = refl
nothing_in BrokenOff = refl

-- nothing is printed within a file that is read silently
said-nothing : (file : Heard) → said nothing file ≡ []
said-nothing file = nothing_in file.ending

-- A file was read, and its bytes give a value or are refused.
pub Takes-read : {X Y : Type 0} (name : List ℕ) (cap : ℕ) (parse : List ℕ → Result Y Status) (seen : X → Y)
    (old new : DeskView) (bytes : Vec ℕ Global) (result : Result X Status) →
    ReadsFile name cap old new (Ok bytes) →
    ((front more : List ℕ) → length front ≡ cap → parse (front ++ more) ≡ parse front) →
    Parses parse seen bytes.items result →
    Takes (reading name >>= λ front. unless_refused (parse front)) seen old new result
Takes-read {X = X} {Y = Y} name cap parse seen old new bytes result read long parses =
    go result parses.value parses.fault parses.unread parses.unreported parses.lawful
  where
    enough : IsEnough (λ front. unless_refused (parse front)) read.file
    enough = read_enough (λ front. unless_refused (parse front)) name cap old new bytes read
        (λ front more e. ap unless_refused (long front more e))

    go : (r : Result X Status) → IfOk r (λ x. parse bytes.items ≡ Ok (seen x)) →
        IfErr r (λ status. (parse bytes.items ≡ Err status) ⊎ (status ≡ OutOfMemory)) →
        IfErr r (λ status. status ≢ ReadFault) → IfErr r (λ status. is_reported status ≡ false) →
        IfErr r (λ status. is_usage status ≡ false) →
        Takes (reading name >>= λ front. unless_refused (parse front)) seen old new r
    go (Ok x) value fault unread unreported lawful = record {
      reached = Given (seen x);
      follows = inr (
        read.file,
        read.named,
        read.told,
        inr (
          enough,
          follows_value (files_of old) (parse read.file.bytes) (seen x) (read.file ∷ heard_of old) (heard_of new)
              (ap parse read.bytes ∙ value) read.heard,
        ),
      );
      answer = refl;
      read_fault = λ e. absurd (cc);
      unreported = tt;
      lawful = tt;
      absent = λ files told isnt. read.absent files told (λ e. absurd (cc));
      opened = λ files told. tt;
      kept = read.kept;
    }
    go (Err status) value (inl refused) unread unreported lawful = record {
      reached = Stopped status;
      follows = inr (
        read.file,
        read.named,
        read.told,
        inr (
          enough,
          follows_stop (files_of old) (parse read.file.bytes) status (read.file ∷ heard_of old) (heard_of new)
              (ap parse read.bytes ∙ refused) read.heard,
        ),
      );
      answer = refl;
      read_fault = λ e. absurd (unread (cc));
      unreported = unreported;
      lawful = lawful;
      absent = λ files told isnt. read.absent files told (λ e. absurd (cc));
      opened = λ files told. tt;
      kept = read.kept;
    }
    go (Err status) value (inr full) unread unreported lawful = record {
      reached = Within read.file [];
      follows = inr (
        read.file,
        read.named,
        read.told,
        inl
            (read.heard, ap (Within read.file) (sym (said-nothing read.file))),
      );
      answer = (refl, inl full);
      read_fault = λ e. absurd (unread (cc));
      unreported = unreported;
      lawful = lawful;
      absent = λ files told isnt. read.absent files told (λ e. absurd (cc));
      opened = read.opened;
      kept = read.kept;
    }

-- a file that couldn't be read comes without a report, and the status isn't of the words
unread_reported : (status other : Status) → (status ≡ OutOfMemory) ⊎ ((status ≡ ReadFault) × (status ≡ other)) →
    (is_reported status ≡ false) × (is_usage status ≡ false)
unread_reported status other (inl full) = (rw full refl, rw full refl)
unread_reported status other (inr (fault, is)) = (rw fault refl, rw fault refl)

-- the status of a file that wasn't read is that of its reading, or want of memory
unread_cut : (status other : Status) → (status ≡ OutOfMemory) ⊎ ((status ≡ ReadFault) × (status ≡ other)) →
    (status ≡ OutOfMemory) ⊎ (status ≡ other)
unread_cut status other (inl full) = inl full
unread_cut status other (inr (fault, is)) = inr is

-- A file wasn't read to its end.
pub Takes-unread : {X Y : Type 0} (name : List ℕ) (cap : ℕ) (f : List ℕ → Plan Y) (seen : X → Y) (old new : DeskView)
    (status : Status) →
    ReadsFile name cap old new (Err status) → Takes (reading name >>= f) seen old new (Err status)
Takes-unread name cap f seen old new status read = record {
  reached = Within read.file [];
  follows = inr (
    read.file,
    read.named,
    read.told,
    inl
        (read.heard, ap (Within read.file) (sym (said-nothing read.file))),
  );
  answer = (refl, unread_cut status _ read.fault);
  read_fault = λ e.
      CannotRead-because _ _ old new
      (λ files told none. ap (λ o. option_map_or (λ bytes. found (f bytes) files) o (Err ReadFault)) none)
      (read.read_fault (ap Err (let is : status ≡ ReadFault = cc in is)));
  unreported = (unread_reported status _ read.fault).0;
  lawful = (unread_reported status _ read.fault).1;
  absent = λ files told isnt. read.absent files told (λ e. isnt (ap Err (let is : status ≡ ReadFault = cc in is)));
  opened = read.opened;
  kept = read.kept;
}

-- what is cut off ends with the status of what was heard, at a write fault, or for want of memory
cut_ended : {A : Type 0} (reached : Reached A) (status : Status) → IsCutOff reached status →
    (status ≡ (outcome_of (carried reached)).status) ⊎ ((status ≡ WriteFault) ⊎ (status ≡ OutOfMemory))
cut_ended (Given value) status cut = absurd cut
cut_ended (Stopped refusal) status cut = inl cut
cut_ended (Before name) status cut = inl cut
cut_ended (Within file text) status (silent_text, inl full) = inr (inr full)
cut_ended (Within file text) status (silent_text, inr is) = inl is

-- what is cut off prints nothing
cut_silent : {A : Type 0} (reached : Reached A) (status : Status) → IsCutOff reached status →
    (outcome_of (carried reached)).text ≡ []
cut_silent (Given value) status cut = absurd cut
cut_silent (Stopped refusal) status cut = refl
cut_silent (Before name) status cut = refl
cut_silent (Within file text) status cut = cut.0

-- what is cut off counts no transitions
cut_transitions : {A : Type 0} (reached : Reached A) (status : Status) → IsCutOff reached status →
    (outcome_of (carried reached)).transitions ≡ 0
cut_transitions (Given value) status cut = absurd cut
cut_transitions (Stopped refusal) status cut = refl
cut_transitions (Before name) status cut = refl
cut_transitions (Within file text) status cut = refl

-- what is cut off makes no file
cut_unmade : {A : Type 0} (reached : Reached A) (status : Status) → IsCutOff reached status →
    (outcome_of (carried reached)).made ≡ None
cut_unmade (Given value) status cut = absurd cut
cut_unmade (Stopped refusal) status cut = refl
cut_unmade (Before name) status cut = refl
cut_unmade (Within file text) status cut = refl

-- what is cut off within a file has it opened
cut_open : {A : Type 0} (reached : Reached A) (desk : DeskView) → IsOpenIn reached desk →
    IsOpenIn {A = Outcome} (carried reached) desk
cut_open (Given value) desk opened = tt
cut_open (Stopped refusal) desk opened = tt
cut_open (Before name) desk opened = tt
cut_open (Within file text) desk opened = opened

-- A step ended the command.
pub Ends-cut : {X Y : Type 0} (makes : Option (List ℕ)) (plan : Plan Y) (seen : X → Y) (f : Y → Plan Outcome)
    (old : Outside) (desk : DeskView) (status : Status) →
    Takes plan seen old.desk desk (Err status) →
    EndsMaking makes (plan >>= f) old (record old { desk = desk }) status
Ends-cut makes plan seen f old desk status step = record {
  reached = carried step.reached;
  follows = Follows-cut plan f status (files_of old.desk) (heard_of old.desk)
      (heard_of desk) step.reached step.answer step.follows;
  ended = cut_ended step.reached status step.answer;
  text = λ unwritten full. rw (cut_silent step.reached status step.answer) (Gains-none old.out);
  prefix = λ e. GainsPrefix-none (outcome_of (carried step.reached)).text old.out;
  out_of_memory = λ e. Gains-none old.out;
  steps = λ decided. omega (arith, cut_transitions step.reached status step.answer);
  made = λ decided. rw (cut_unmade step.reached status step.answer) step.kept;
  broken = λ written. rw (cut_unmade step.reached status step.answer) step.kept;
  unmade = λ fault. step.kept;
  read_fault = λ e.
      CannotRead-because _ _ old.desk desk
      (λ files told fault. ap (λ r. (settled r).status) (found-then plan f files ∙ ap (then_found f files) fault))
      (step.read_fault (ap Err e));
  write_fault = λ e. absurd (unwritten status step.unreported e);
  absent = λ files told isnt. step.absent files told (λ e. isnt (let is : status ≡ ReadFault = cc in is));
  opened = λ files told. cut_open step.reached desk (step.opened files told);
  kept = Keeps-any makes old.desk desk step.kept;
  count = omega arith;
}

-- A step gave its value, and the rest ended the command.
pub Ends-then : {X Y : Type 0} (makes : Option (List ℕ)) (plan : Plan Y) (seen : X → Y) (f : Y → Plan Outcome)
    (old new : Outside) (mid : DeskView) (x : X) (status : Status) → Takes plan seen old.desk mid (Ok x) →
    EndsMaking makes (f (seen x)) (record old { desk = mid }) new status →
    EndsMaking makes (plan >>= f) old new status
Ends-then makes plan seen f old new mid x status step rest =
    let first : Follows (files_of old.desk) plan (heard_of old.desk) (heard_of mid) (Given (seen x)) =
    subst (Follows (files_of old.desk) plan (heard_of old.desk) (heard_of mid)) step.answer step.follows in
    let second : Follows (files_of old.desk) (f (seen x)) (heard_of mid) (heard_of new.desk) rest.reached =
    subst (λ told. Follows told (f (seen x)) (heard_of mid) (heard_of new.desk) rest.reached) step.kept.files
    rest.follows in
    let same : (files : List File) → files_of old.desk ≡ Some files →
    found (plan >>= f) files ≡ found (f (seen x)) files =
    λ files told. found-then plan f files
    ∙ ap (then_found f files)
    (Follows-found plan (files_of old.desk) files (heard_of old.desk) (heard_of mid) (Given (seen x)) told first) in
    record {
      reached = rest.reached;
      follows = Follows-then plan f (seen x) (files_of old.desk) (heard_of old.desk) (heard_of mid)
          (heard_of new.desk) rest.reached first second;
      ended = rest.ended;
      text = rest.text;
      prefix = rest.prefix;
      out_of_memory = rest.out_of_memory;
      steps = rest.steps;
      made = λ decided.
          Makes-later (outcome_of rest.reached).made old.desk mid new.desk step.kept (rest.made decided);
      broken = λ written.
          MakesPart-later (outcome_of rest.reached).made old.desk mid new.desk step.kept (rest.broken written);
      unmade = λ fault. KeepsFiles-then old.desk mid new.desk step.kept (rest.unmade fault);
      read_fault = λ e.
          CannotRead-because _ _ old.desk new.desk
          (λ files told fault. ap (λ r. (settled r).status) (same files told) ∙ fault)
          (CannotRead-later _ old.desk mid new.desk step.kept (rest.read_fault e));
      write_fault = λ e. CannotWrite-later makes old new mid step.kept.made (rest.write_fault e);
      absent = λ files told isnt. rest.absent files (step.kept.files ∙ told) isnt
          ∙ step.absent files told (λ e. absurd (cc));
      opened = λ files told. rest.opened files (step.kept.files ∙ told);
      kept = Keeps-then makes old.desk mid new.desk step.kept rest.kept;
      count = rest.count;
    }
