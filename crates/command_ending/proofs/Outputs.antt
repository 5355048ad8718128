-- A file that is created, written and finished.
use Rattle.std.proofs.Common.{◌≡◌, ◌≢◌, ℕ, List, [], ◌∷◌, Option, Some, None, Result, Ok, Err, true, false, inl, inr}
use Rattle.std.proofs.Common.{arith, sym, ap, subst, ◌∙◌, refl, append-nil}
use Rattle.std.specs.Option.{option_map}
use Rattle.acl_outside.specs.Told.{Changes}
use Rattle.acl_outside.specs.Desk.{File, Content, DeskView, bytes_of, is_finished, Holds, Creates, Writes, GivesUp}
use Rattle.acl_outside.specs.Desk.{CreatesFile, FinishesFile}
use Rattle.acl_outside.specs.Heard.{change_newest}
use Rattle.acl_outside.specs.Made.{Made, Unfinished, NotCreated, Broken, with_written, with_standing, creation_of}
use Rattle.acl_outside.specs.Made.{after_finish, and_stands}
use Rattle.acl_outside.specs.Writing.{WritesAll, WritesOn}
use Rattle.acl_outside.proofs.Offered.{Changes-join, KeepsCounts-join, KeepsHeard-join, KeepsHeard-creation}
use Rattle.acl_outside.proofs.Offered.{KeepsHeard-finish, made-creation, made-finish, HoldsTogether-creation}
use Rattle.acl_outside.proofs.Offered.{HoldsTogether-writing, HoldsTogether-finish}
use Rattle.command_ending.specs.StepEffects.{made_of, MakesAll}
use Rattle.command_ending.proofs.Inputs.{told_files}

-- The named file has these bytes now, and all others are as before.
abbrev HoldsNow : List ℕ → List ℕ → Content → Content → Type 0
HoldsNow name bytes old new = Holds name bytes old.files new.files

-- a file was created, and these bytes written to it
created_then : (name bytes : List ℕ) (old mid new : Content) → Creates name old mid → Writes bytes mid new →
    HoldsNow name bytes old new
created_then name bytes old mid new creates writes =
    let written = writes.files name [] creates.created creates.files.named in
    record {
      named = written.named;
      others = λ other apart. written.others other apart ∙ creates.files.others other apart;
    }

-- then it was given up, and stays
finished_then : (name bytes : List ℕ) (old mid new : Content) → HoldsNow name bytes old mid → GivesUp mid new →
    HoldsNow name bytes old new
finished_then name bytes old mid new holds gives_up =
    subst (λ (files : List File). Holds name bytes old.files files) (sym gives_up.files) holds

-- what a told file holds
named_told : (name bytes : List ℕ) (old new : Option Content) → Changes (HoldsNow name bytes) old new →
    (files : List File) → option_map (λ c. c.files) new ≡ Some files → bytes_of files name ≡ Some bytes
named_told name bytes None None holds files told = absurd (cc)
named_told name bytes None (Some new) holds files told = absurd holds
named_told name bytes (Some old) None holds files told = absurd holds
named_told name bytes (Some old) (Some new) holds files told =
    let at : new.files ≡ files = cc in rw (← at) holds.named

-- all others are as before
others_told : (name bytes : List ℕ) (old new : Option Content) → Changes (HoldsNow name bytes) old new →
    (before : List File) → option_map (λ c. c.files) old ≡ Some before →
    (after : List File) × (option_map (λ c. c.files) new ≡ Some after)
    × ((other : List ℕ) → other ≢ name → bytes_of after other ≡ bytes_of before other)
others_told name bytes None new holds before told = absurd (cc)
others_told name bytes (Some old) None holds before told = absurd holds
others_told name bytes (Some old) (Some new) holds before told =
    let at : old.files ≡ before = cc in
    (new.files, refl, λ other apart. holds.others other apart ∙ ap (λ (files : List File). bytes_of files other) at)

-- a creation with its bytes
begun : (name bytes : List ℕ) →
    with_written bytes (creation_of name true) ≡ record { name = name; bytes = bytes; standing = Unfinished }
begun name [] = refl
begun name (b ∷ bs) = refl

-- what was made, once bytes were written to a created file
made_after : {T E : Type 0} (change : Made → Made) (name bytes : List ℕ) (old mid new : DeskView) (x : T) →
    CreatesFile {E = E} name old mid (Ok x) → WritesOn change bytes mid new →
    made_of new ≡ change (record { name = name; bytes = bytes; standing = Unfinished }) ∷ made_of old
made_after change name bytes old mid new x creates writes =
    writes.made
    ∙ ap (change_newest (λ file. change (with_written bytes file))) (made-creation name (Ok x) old mid creates)
    ∙ ap (λ file. change file ∷ made_of old) (begun name bytes)

-- a file that was created and written has the bytes that were written
held_after : {T E : Type 0} (name bytes : List ℕ) (old mid new : DeskView) (x : T) →
    CreatesFile {E = E} name old mid (Ok x) → Changes (Writes bytes) mid.content new.content →
    Changes (HoldsNow name bytes) old.content new.content
held_after name bytes old mid new x creates writes =
    Changes-join (Creates name) (Writes bytes) (HoldsNow name bytes) (created_then name bytes) old.content mid.content
    new.content creates.created writes

-- The file couldn't be created.
pub MakesAll-uncreated : {T U E F : Type 0} (name bytes : List ℕ) (old new : DeskView) (e : E) (f : F) →
    CreatesFile {T = T} name old new (Err e) → MakesAll {T = U} name bytes old new (Err f)
MakesAll-uncreated name bytes old new e f creates =
    let files = told_files GivesUp (λ a b step. step.files) old.content new.content creates.given_up in
    record {
      whole = tt;
      part = record {
        part = record { name = name; bytes = []; standing = NotCreated };
        rest = bytes;
        made = made-creation name (Err e) old new creates;
        named = refl;
        unfinished = inl refl;
        parts = refl;
        holds = λ before after told now. inl (refl, let same = sym now ∙ files ∙ told in cc);
      };
      cause = creates.cause;
      heard = KeepsHeard-creation name (Err e) old new creates;
      others = record {
        files = λ before told. (before, files ∙ told, λ other apart. refl);
        counts = creates.counts;
        together = λ before. HoldsTogether-creation name old new (Err e) creates;
      };
    }

-- It was created, and a write failed.
pub MakesAll-unwritten : {T U V E F : Type 0} (name bytes : List ℕ) (old mid new : DeskView) (x : T) (e : E) (f : F) →
    CreatesFile {E = E} name old mid (Ok x) → WritesAll {T = U} bytes mid new (Err e) →
    MakesAll {T = V} name bytes old new (Err f)
MakesAll-unwritten name bytes old mid new x e f creates writes =
    let part = writes.prefix in
    let holds = held_after name part.prefix old mid new x creates part.writes.told in
    record {
      whole = tt;
      part = record {
        part = record { name = name; bytes = part.prefix; standing = Broken };
        rest = part.rest;
        made = made_after (with_standing Broken) name part.prefix old mid new x creates part.writes;
        named = refl;
        unfinished = inr refl;
        parts = part.parts;
        holds = λ before after told now.
            inr (refl, named_told name part.prefix old.content new.content holds after now);
      };
      cause = omega (arith, creates.counts.write_faults, writes.cause);
      heard = KeepsHeard-join old mid new (KeepsHeard-creation name (Ok x) old mid creates) writes.heard;
      others = record {
        files = others_told name part.prefix old.content new.content holds;
        counts = KeepsCounts-join old mid new creates.counts writes.counts;
        together = λ before.
            HoldsTogether-writing part.prefix mid new (HoldsTogether-creation name old mid (Ok x) creates)
            creates.reading writes.reading part.writes.told;
      };
    }

-- what the file holds, once it was given up
held_last : {T E : Type 0} (name bytes : List ℕ) (old mid late new : DeskView) (x : T) →
    CreatesFile {E = E} name old mid (Ok x) → WritesOn and_stands bytes mid late →
    Changes GivesUp late.content new.content → Changes (HoldsNow name bytes) old.content new.content
held_last name bytes old mid late new x creates writes ended =
    Changes-join (HoldsNow name bytes) GivesUp (HoldsNow name bytes) (finished_then name bytes) old.content late.content
    new.content (held_after name bytes old mid late x creates writes.told) ended

-- It was written, and couldn't be finished.
MakesAll-unfinished : {T U V E : Type 0} (name bytes : List ℕ) (old mid late new : DeskView) (x : T) (y : U)
    (e : E) →
    CreatesFile {E = E} name old mid (Ok x) → WritesAll {E = E} bytes mid late (Ok y) →
    FinishesFile {T = V} late new (Err e) → MakesAll {T = V} name bytes old new (Err e)
MakesAll-unfinished name bytes old mid late new x y e creates writes finishes =
    let holds = held_last name bytes old mid late new x creates writes.whole finishes.ended in
    record {
      whole = tt;
      part = record {
        part = record { name = name; bytes = bytes; standing = Broken };
        rest = [];
        made =
            made-finish (Err e) late new finishes
            ∙ ap (change_newest (after_finish false))
            (made_after and_stands name bytes old mid late x creates writes.whole);
        named = refl;
        unfinished = inr refl;
        parts = sym (append-nil bytes);
        holds = λ before after told now. inr (refl, named_told name bytes old.content new.content holds after now);
      };
      cause = omega (arith, creates.counts.write_faults, writes.counts.write_faults, finishes.cause);
      heard = KeepsHeard-join old late new
          (KeepsHeard-join old mid late (KeepsHeard-creation name (Ok x) old mid creates) writes.heard)
          (KeepsHeard-finish (Err e) late new finishes);
      others = record {
        files = others_told name bytes old.content new.content holds;
        counts = KeepsCounts-join old late new (KeepsCounts-join old mid late creates.counts writes.counts)
            finishes.counts;
        together = λ before. HoldsTogether-finish late new (Err e) finishes;
      };
    }

-- It was written and finished.
MakesAll-whole : {T U V E : Type 0} (name bytes : List ℕ) (old mid late new : DeskView) (x : T) (y : U) (z : V) →
    CreatesFile {E = E} name old mid (Ok x) → WritesAll {E = E} bytes mid late (Ok y) →
    FinishesFile {E = E} late new (Ok z) → MakesAll {E = E} name bytes old new (Ok z)
MakesAll-whole name bytes old mid late new x y z creates writes finishes =
    let holds = held_last name bytes old mid late new x creates writes.whole finishes.ended in
    record {
      whole = record {
        made =
            made-finish (Ok z) late new finishes
            ∙ ap (change_newest (after_finish true))
            (made_after and_stands name bytes old mid late x creates writes.whole);
        finished = ap is_finished finishes.answer;
        holds = named_told name bytes old.content new.content holds;
      };
      part = tt;
      cause = tt;
      heard = KeepsHeard-join old late new
          (KeepsHeard-join old mid late (KeepsHeard-creation name (Ok x) old mid creates) writes.heard)
          (KeepsHeard-finish (Ok z) late new finishes);
      others = record {
        files = others_told name bytes old.content new.content holds;
        counts = KeepsCounts-join old late new (KeepsCounts-join old mid late creates.counts writes.counts)
            finishes.counts;
        together = λ before. HoldsTogether-finish late new (Ok z) finishes;
      };
    }

-- It was written, and finished or not.
pub MakesAll-finished : {T U V E : Type 0} (name bytes : List ℕ) (old mid late new : DeskView) (x : T) (y : U)
    (result : Result V E) →
    CreatesFile {E = E} name old mid (Ok x) → WritesAll {E = E} bytes mid late (Ok y) →
    FinishesFile late new result → MakesAll name bytes old new result
MakesAll-finished name bytes old mid late new x y (Ok z) creates writes finishes =
    MakesAll-whole name bytes old mid late new x y z creates writes finishes
MakesAll-finished name bytes old mid late new x y (Err e) creates writes finishes =
    MakesAll-unfinished name bytes old mid late new x y e creates writes finishes
