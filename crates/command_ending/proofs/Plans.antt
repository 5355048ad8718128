-- Plans that were followed, and what they come to.
use Rattle.std.proofs.Common.{◌≡◌, ℕ, List, [], ◌∷◌, ◌++◌, Bool, true, false, Option, Some, None, Result, Ok, Err}
use Rattle.std.proofs.Common.{inl, inr, sym, ap, subst, ◌∙◌, refl, append-nil}
use Rattle.std.proofs.lemmas.Bool.{false≢true}
use Rattle.std.specs.Prelude.{⊤}
use Rattle.std.specs.Option.{option_map_or}
use Rattle.acl_outside.specs.Desk.{File, bytes_of}
use Rattle.acl_outside.specs.Heard.{Heard}
use Rattle.command_ending.specs.declared.status.Status.{Status}
use Rattle.command_ending.specs.declared.status.Status.TheVariants.{ReadFault}
use Rattle.command_ending.specs.Plan.{Plan, Give, Stop, Read, ◌>>=◌, found}
use Rattle.command_ending.specs.Follow.{Reached, Given, Stopped, Before, Within, IsEnough, IsOpened, IsPartOf, IsOneOf}
use Rattle.command_ending.specs.Follow.{Follows, IsCutOff}

-- what a plan comes to that was followed so far
abbrev pub IsFound : {A : Type 0} → List File → Reached A → Result A Status → Type 0
IsFound files (Given value) result = result ≡ Ok value
IsFound files (Stopped status) result = result ≡ Err status
IsFound files (Before name) result = ⊤
IsFound files (Within file text) result = bytes_of files file.name ≡ None → result ≡ Err ReadFault

-- A file of which enough was heard was opened.
enough_opened : {A : Type 0} (next : List ℕ → Plan A) (file : Heard) → IsEnough next file → IsOpened file.ending
enough_opened next file (inl ended) = rw ended tt
enough_opened next file (inr on) = rw (on.0) tt

-- what was heard of a file gives what the whole file gives
heard_enough : {A : Type 0} (next : List ℕ → Plan A) (files : List File) (file : Heard) (part : IsPartOf files file) →
    IsEnough next file →
    found (next (file.bytes ++ part.rest)) files ≡ found (next file.bytes) files
heard_enough next files file part (inl ended) =
    ap (λ bytes. found (next (file.bytes ++ bytes)) files) (part.whole ended)
    ∙ ap (λ bytes. found (next bytes) files) (append-nil file.bytes)
heard_enough next files file part (inr on) = ap (λ plan. found plan files) ((on.1) part.rest)

-- what the whole of a file comes to, of which enough was heard
pub found_next : {A : Type 0} (told : Option (List File)) (files : List File) (name : List ℕ) (next : List ℕ → Plan A)
    (file : Heard) →
    told ≡ Some files → file.name ≡ name → IsOneOf told file → IsEnough next file →
    option_map_or (λ bytes. found (next bytes) files) (bytes_of files name) (Err ReadFault)
    ≡ found (next file.bytes) files
found_next told files name next file at_files is_name one enough =
    let part = one files at_files (enough_opened next file enough) in
    ap (λ n. option_map_or (λ bytes. found (next bytes) files) (bytes_of files n) (Err ReadFault)) (sym is_name)
    ∙ ap (λ o. option_map_or (λ bytes. found (next bytes) files) o (Err ReadFault)) part.there
    ∙ heard_enough next files file part enough

-- Where the files are told, a plan that was followed comes to what it reached.
pub Follows-found : {A : Type 0} (plan : Plan A) (told : Option (List File)) (files : List File)
    (old new : List Heard)
    (reached : Reached A) →
    told ≡ Some files → Follows told plan old new reached → IsFound files reached (found plan files)
Follows-found (Give value) told files old new reached at_files h = rw (h.1) refl
Follows-found (Stop status) told files old new reached at_files h = rw (h.1) refl
Follows-found (Read name shown next) told files old new reached at_files (inl before) = rw (before.1) tt
Follows-found (Read name shown next) told files old new reached at_files (inr (file, is_name, one, inl within)) =
    rw (within.1) (λ absent. ap (λ o. option_map_or (λ bytes. found (next bytes) files) o (Err ReadFault))
    (ap (bytes_of files) (sym is_name) ∙ absent))
Follows-found (Read name shown next) told files old new reached at_files
    (inr (file, is_name, one, inr (enough, rest))) =
    subst (IsFound files reached) (sym (found_next told files name next file at_files is_name one enough))
    (Follows-found (next file.bytes) told files (file ∷ old) new reached at_files rest)

-- a value that was reached
abbrev value_of : {A : Type 0} → A → Reached A → A
value_of other (Given value) = value
value_of other (Stopped status) = other
value_of other (Before name) = other
value_of other (Within file text) = other

-- whether a value was reached
abbrev is_given : {A : Type 0} → Reached A → Bool
is_given (Given value) = true
is_given (Stopped status) = false
is_given (Before name) = false
is_given (Within file text) = false

-- the same end of a longer plan
abbrev pub carried : {A B : Type 0} → Reached A → Reached B
carried (Given value) = Before []
carried (Stopped status) = Stopped status
carried (Before name) = Before name
carried (Within file text) = Within file text

-- what is enough of a file for a plan is enough for the plan and the next one
enough_then : {A B : Type 0} (next : List ℕ → Plan A) (f : A → Plan B) (file : Heard) → IsEnough next file →
    IsEnough (λ bytes. next bytes >>= f) file
enough_then next f file (inl ended) = inl ended
enough_then next f file (inr on) = inr (on.0, λ more. ap (λ plan. plan >>= f) ((on.1) more))

-- A plan was followed to its value, and then the next.
pub Follows-then : {A B : Type 0} (plan : Plan A) (f : A → Plan B) (value : A) (told : Option (List File))
    (old mid new : List Heard)
    (reached : Reached B) → Follows told plan old mid (Given value) → Follows told (f value) mid new reached →
    Follows told (plan >>= f) old new reached
Follows-then (Give other) f value told old mid new reached first second =
    subst (λ v. Follows told (f v) old new reached) (ap (value_of value) (first.1))
    (subst (λ (l : List Heard). Follows told (f value) l new reached) (first.0) second)
Follows-then (Stop status) f value told old mid new reached first second =
    absurd (false≢true (sym (ap is_given (first.1))))
Follows-then (Read name shown next) f value told old mid new reached (inl before) second =
    absurd (false≢true (sym (ap is_given (before.1))))
Follows-then (Read name shown next) f value told old mid new reached (inr (file, is_name, one, inl within)) second =
    absurd (false≢true (sym (ap is_given (within.1))))
Follows-then (Read name shown next) f value told old mid new reached
    (inr (file, is_name, one, inr (enough, rest))) second =
    inr (
      file,
      is_name,
      one,
      inr (
        enough_then next f file enough,
        Follows-then (next file.bytes) f value told (file ∷ old) mid new reached rest second,
      ),
    )

-- A plan was followed to an end short of its value, and the next never begins.
pub Follows-cut : {A B : Type 0} (plan : Plan A) (f : A → Plan B) (status : Status) (told : Option (List File))
    (old new : List Heard)
    (reached : Reached A) → IsCutOff reached status → Follows told plan old new reached →
    Follows told (plan >>= f) old new (carried reached)
Follows-cut (Give value) f status told old new reached cut h = absurd (subst (λ r. IsCutOff r status) (h.1) cut)
Follows-cut (Stop refusal) f status told old new reached cut h = (h.0, ap carried (h.1))
Follows-cut (Read name shown next) f status told old new reached cut (inl before) =
    inl (before.0, ap carried (before.1))
Follows-cut (Read name shown next) f status told old new reached cut (inr (file, is_name, one, inl within)) =
    inr (file, is_name, one, inl (within.0, ap carried (within.1)))
Follows-cut (Read name shown next) f status told old new reached cut
    (inr (file, is_name, one, inr (enough, rest))) =
    inr (
      file,
      is_name,
      one,
      inr (
        enough_then next f file enough,
        Follows-cut (next file.bytes) f status told (file ∷ old) new reached cut rest,
      ),
    )

-- what a plan and the next come to, once it is known what the first comes to
abbrev pub then_found : {A B : Type 0} → (A → Plan B) → List File → Result A Status → Result B Status
then_found f files (Ok value) = found (f value) files
then_found f files (Err status) = Err status

-- a plan and the next one come to what follows from that to which the plan comes
pub found-then : {A B : Type 0} (plan : Plan A) (f : A → Plan B) (files : List File) →
    found (plan >>= f) files ≡ then_found f files (found plan files)
found-then (Give value) f files = refl
found-then (Stop status) f files = refl
found-then (Read name shown next) f files = go (bytes_of files name) (λ bytes. found-then (next bytes) f files)
  where
    go : (o : Option (List ℕ)) →
        ((bytes : List ℕ) → found (next bytes >>= f) files ≡ then_found f files (found (next bytes) files)) →
        option_map_or (λ bytes. found (next bytes >>= f) files) o (Err ReadFault)
        ≡ then_found f files (option_map_or (λ bytes. found (next bytes) files) o (Err ReadFault))
    go None each = refl
    go (Some bytes) each = each bytes
