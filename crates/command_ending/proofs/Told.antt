-- What holds of a command against the files, where the desk tells them.
use Rattle.std.proofs.Common.{◌≡◌, ◌⊎◌, ℕ, ◌+◌, List, [], ◌∷◌, ◌++◌, true, false, Option, Some, Result, Ok, Err, inl}
use Rattle.std.proofs.Common.{inr, sym, ap, subst, ◌∙◌, refl, append-nil}
use Rattle.std.proofs.lemmas.Bool.{false≢true}
use Rattle.std.specs.Prelude.{⊤}
use Rattle.acl_outside.specs.Desk.{File, DeskView, bytes_of}
use Rattle.acl_outside.specs.Heard.{Heard, Ending, NotOpened, GoesOn, Ended, BrokenOff}
use Rattle.acl_outside.specs.Sink.{SinkView, Gains, GainsPrefix}
use Rattle.acl_outside.proofs.Offered.{GainsPrefix-more}
use Rattle.command_ending.specs.declared.status.Status.{Status}
use Rattle.command_ending.specs.declared.status.Status.TheVariants.{ReadFault, WriteFault, OutOfMemory}
use Rattle.command_ending.specs.Plan.{Outcome, Plan, Give, Stop, Read, ◌>>=◌, unless_refused, found, settled}
use Rattle.command_ending.specs.Follow.{Reached, Given, Stopped, Before, Within, IsOpened, IsPartOf, Follows, said_in}
use Rattle.command_ending.specs.Follow.{outcome_of, status_within}
use Rattle.command_ending.specs.Endings.{is_decided}
use Rattle.command_ending.specs.StepEffects.{Outside, files_of, heard_of, CannotRead, KeepsFiles, Makes, MakesPart}
use Rattle.command_ending.specs.StepEffects.{EndsMaking, EndsAsTold, HasNoFaultMaking}
use Rattle.command_ending.proofs.Plans.{IsFound, Follows-found, found_next}

-- a text begins with another
pub record BeginsWith (front text : List ℕ) : Type 0 where
  pub rest : List ℕ
  pub parts : text ≡ front ++ rest

-- each text begins with no text
pub BeginsWith-nothing : (text : List ℕ) → BeginsWith [] text
BeginsWith-nothing text = record { rest = text; parts = refl }

-- each text begins with itself
BeginsWith-same : (text : List ℕ) → BeginsWith text text
BeginsWith-same text = record { rest = []; parts = sym (append-nil text) }

-- What a plan prints while it reads a file is the first part of what is printed in all, where these files are there.
abbrev pub IsFaithful : List File → Plan Outcome → Type 0
IsFaithful files (Give value) = ⊤
IsFaithful files (Stop status) = ⊤
IsFaithful files (Read name shown next) =
    ((bytes more : List ℕ) → BeginsWith (shown bytes) (settled (found (next (bytes ++ more)) files)).text)
    × ((bytes : List ℕ) → IsFaithful files (next bytes))

-- a plan after a value or its fault is faithful if it is so after each value
pub faithful_unless : {A : Type 0} (files : List File) (result : Result A Status) (f : A → Plan Outcome) →
    ((value : A) → IsFaithful files (f value)) →
    IsFaithful files (unless_refused result >>= f)
faithful_unless files (Ok value) f each = each value
faithful_unless files (Err status) f each = tt

-- what is printed within a file is the first part of what is printed in all
part_text : (files : List File) (file : Heard) (name : List ℕ) (shown : List ℕ → List ℕ)
    (next : List ℕ → Plan Outcome) →
    file.name ≡ name → IsPartOf files file →
    ((bytes more : List ℕ) → BeginsWith (shown bytes) (settled (found (next (bytes ++ more)) files)).text) →
    BeginsWith (shown file.bytes) (settled (found (Read name shown next) files)).text
part_text files file name shown next is_name part begins =
    let there : bytes_of files name ≡ Some (file.bytes ++ part.rest) = ap (bytes_of files) (sym is_name)
    ∙ part.there in
    rw there (begins file.bytes part.rest)

-- the text within a file, by how its reading stands
within_text : (ending : Ending) (files : List File) (file : Heard) (name : List ℕ) (shown : List ℕ → List ℕ)
    (next : List ℕ → Plan Outcome) →
    file.ending ≡ ending → file.name ≡ name → ((files_there : IsOpened ending) → IsPartOf files file) →
    ((bytes more : List ℕ) → BeginsWith (shown bytes) (settled (found (next (bytes ++ more)) files)).text) →
    BeginsWith (said_in ending (shown file.bytes)) (settled (found (Read name shown next) files)).text
within_text NotOpened files file name shown next is is_name part begins = BeginsWith-nothing _
within_text GoesOn files file name shown next is is_name part begins =
    part_text files file name shown next is_name (part tt) begins
within_text Ended files file name shown next is is_name part begins =
    part_text files file name shown next is_name (part tt) begins
within_text BrokenOff files file name shown next is is_name part begins =
    part_text files file name shown next is_name (part tt) begins

-- What was printed of an outcome of what was heard is the first part of what the files give.
Follows-text : (plan : Plan Outcome) (told : Option (List File)) (files : List File) (old new : List Heard)
    (reached : Reached Outcome) →
    told ≡ Some files → IsFaithful files plan → Follows told plan old new reached →
    BeginsWith (outcome_of reached).text (settled (found plan files)).text
Follows-text (Give value) told files old new reached at_files faithful h = rw (h.1) (BeginsWith-same value.text)
Follows-text (Stop status) told files old new reached at_files faithful h = rw (h.1) (BeginsWith-same [])
Follows-text (Read name shown next) told files old new reached at_files faithful (inl before) =
    rw (before.1) (BeginsWith-nothing _)
Follows-text (Read name shown next) told files old new reached at_files faithful
    (inr (file, is_name, one, inl within)) =
    rw (within.1)
    (within_text file.ending files file name shown next refl is_name (λ opened. one files at_files opened)
    (faithful.0))
Follows-text (Read name shown next) told files old new reached at_files faithful
    (inr (file, is_name, one, inr (enough, rest))) =
    rw (found_next told files name next file at_files is_name one enough)
    (Follows-text (next file.bytes) told files (file ∷ old) new reached at_files ((faithful.1) file.bytes) rest)

-- a status within a file isn't decided, however the file ended
pub undecided_within : (ending : Ending) → is_decided (status_within ending) ≡ false
undecided_within NotOpened = refl
undecided_within GoesOn = refl
undecided_within Ended = refl
undecided_within BrokenOff = refl

-- a decided outcome of what was heard is that of the files
decided_outcome : (files : List File) (reached : Reached Outcome) (result : Result Outcome Status) →
    IsFound files reached result →
    is_decided (outcome_of reached).status ≡ true → outcome_of reached ≡ settled result
decided_outcome files (Given outcome) result is decided = ap settled (sym is)
decided_outcome files (Stopped status) result is decided = ap settled (sym is)
decided_outcome files (Before name) result is decided = absurd (false≢true decided)
decided_outcome files (Within file text) result is decided =
    absurd (false≢true (sym (undecided_within file.ending) ∙ decided))

-- a part of the file of what was heard is one of the file that the files give, or no file was made
broken_told : (files : List File) (reached : Reached Outcome) (result : Result Outcome Status) (old new : DeskView) →
    IsFound files reached result → MakesPart (outcome_of reached).made old new →
    KeepsFiles old new ⊎ MakesPart (settled result).made old new
broken_told files (Given outcome) result old new is part =
    inr (subst (λ (r : Result Outcome Status). MakesPart (settled r).made old new) (sym is) part)
broken_told files (Stopped status) result old new is part = inl part
broken_told files (Before name) result old new is part = inl part
broken_told files (Within file text) result old new is part = inl part

-- a prefix of a first part
prefix_of : (front text : List ℕ) (old new : SinkView) → BeginsWith front text → GainsPrefix front old new →
    GainsPrefix text old new
prefix_of front text old new begins prefix = rw begins.parts (GainsPrefix-more front begins.rest old new prefix)

-- the status of a decided end is that of what was heard
decided_status : (status expected : Status) → (status ≡ expected) ⊎ ((status ≡ WriteFault) ⊎ (status ≡ OutOfMemory)) →
    is_decided status ≡ true → status ≡ expected
decided_status status expected (inl same) decided = same
decided_status status expected (inr (inl write)) decided = absurd (false≢true (ap is_decided (sym write) ∙ decided))
decided_status status expected (inr (inr full)) decided = absurd (false≢true (ap is_decided (sym full) ∙ decided))

-- Where the files are told, a command ends by the outcome of the files.
pub Ends-told : {makes : Option (List ℕ)} (plan : Plan Outcome) (old new : Outside) (status : Status) →
    ((files : List File) → IsFaithful files plan) → EndsMaking makes plan old new status →
    (files : List File) → files_of old.desk ≡ Some files → EndsAsTold (settled (found plan files)) old new status
Ends-told plan old new status faithful ends files told =
    let is = Follows-found plan (files_of old.desk) files (heard_of old.desk)
    (heard_of new.desk) ends.reached told ends.follows in
    let same : is_decided status ≡ true → outcome_of ends.reached ≡ settled (found plan files) =
    λ decided. decided_outcome files ends.reached (found plan files) is
    (ap is_decided (sym (decided_status status (outcome_of ends.reached).status ends.ended decided)) ∙ decided) in
    record {
      decided = λ decided.
          decided_status status (outcome_of ends.reached).status ends.ended decided
          ∙ ap (λ o. o.status) (same decided);
      text = λ decided.
          subst (λ (o : Outcome). Gains o.text old.out new.out) (same decided)
          (ends.text (λ write. false≢true (ap is_decided (sym write) ∙ decided))
          (λ full. false≢true (ap is_decided (sym full) ∙ decided)));
      prefix = λ write.
          prefix_of (outcome_of ends.reached).text (settled (found plan files)).text old.out new.out
          (Follows-text plan (files_of old.desk) files (heard_of old.desk) (heard_of new.desk) ends.reached told
          (faithful files) ends.follows)
          (ends.prefix write);
      steps = λ decided. ends.steps decided ∙ ap (λ (o : Outcome). old.steps + o.transitions) (same decided);
      made = λ decided. subst (λ (o : Outcome). Makes o.made old.desk new.desk) (same decided) (ends.made decided);
      broken = λ write.
          broken_told files ends.reached (found plan files) old.desk new.desk is (ends.broken write);
    }

-- without a fault of the outside each file can be read
no_read_fault : {makes : Option (List ℕ)} (P : List File → Type 0) (old new : Outside) →
    HasNoFaultMaking makes old new → CannotRead old.desk new.desk P → ⊥
no_read_fault P old new none (inl rose) = none.read_faults rose
no_read_fault P old new none (inr (rose, absent)) = none.absent rose

-- a command that ends within a file and at no read fault has no memory
full_within : (status : Status) (ending : Ending) → (status ≡ ReadFault → ⊥) → status ≡ status_within ending →
    status ≡ OutOfMemory
full_within status NotOpened never same = absurd (never same)
full_within status GoesOn never same = same
full_within status Ended never same = same
full_within status BrokenOff never same = absurd (never same)

-- a command that ends at no read fault has the status that the files give, or no memory
complete_reached : (files : List File) (reached : Reached Outcome) (result : Result Outcome Status)
    (status : Status) →
    IsFound files reached result → (status ≡ ReadFault → ⊥) → status ≡ (outcome_of reached).status →
    (status ≡ (settled result).status) ⊎ (status ≡ OutOfMemory)
complete_reached files (Given outcome) result status is never same = inl (rw is same)
complete_reached files (Stopped refusal) result status is never same = inl (rw is same)
complete_reached files (Before name) result status is never same = inr same
complete_reached files (Within file text) result status is never same =
    inr (full_within status file.ending never same)

-- Where the outside has no fault, only memory keeps a command from its outcome.
pub Ends-complete : {makes : Option (List ℕ)} (plan : Plan Outcome) (old new : Outside) (status : Status) →
    EndsMaking makes plan old new status → HasNoFaultMaking makes old new →
    (files : List File) → files_of old.desk ≡ Some files →
    (status ≡ (settled (found plan files)).status) ⊎ (status ≡ OutOfMemory)
Ends-complete plan old new status ends none files told =
    let is = Follows-found plan (files_of old.desk) files (heard_of old.desk)
    (heard_of new.desk) ends.reached told ends.follows in
    elim ends.ended [
      | inl same ↦ complete_reached files ends.reached (found plan files) status is
          (λ e. no_read_fault _ old new none (ends.read_fault e)) same
      | inr other ↦ elim other [ inl write ↦ absurd (none.written (ends.write_fault write)) | inr full ↦ inr full ]
    ]
