-- Laws of what was heard of a file, read by read.
use Rattle.std.proofs.Common.{◌≡◌, ℕ, ◌<◌, List, [], ◌∷◌, ◌++◌, length, take, Option, Some, None, Ok, Err, sym, ◌∙◌, ap, refl, subst, append_assoc, append-nil, arith}
use Rattle.std.proofs.lemmas.Bool.{ne_eqb}
use Rattle.acl_outside.specs.Told.{Changes}
use Rattle.acl_outside.specs.Desk.{Content, DeskView, Gives, ReadsInto}
use Rattle.acl_outside.specs.Heard.{Heard, Ended, BrokenOff, heard, change_newest, with_bytes, with_ending, after_read}
use Rattle.acl_outside.specs.DeskReading.{ReadsOn, and_goes_on}
use Rattle.acl_outside.proofs.ToldLaws.{Changes-join}
use Rattle.acl_outside.proofs.ReadingLaws.{Gives-append}

-- some bytes, and then more
with_bytes-append : (first second : List ℕ) (file : Heard) →
    with_bytes second (with_bytes first file) ≡ with_bytes (first ++ second) file
with_bytes-append [] second file = refl
with_bytes-append (b ∷ bs) [] file = ap (λ bytes. with_bytes bytes file) (sym (append-nil (b ∷ bs)))
with_bytes-append (b ∷ bs) (c ∷ cs) file =
    ap (λ bytes. let heard_file : Heard = record {
      name = file.name;
      bytes = bytes;
      ending = (with_bytes (c ∷ cs) file).ending;
    } in heard_file)
    (append_assoc file.bytes (b ∷ bs) (c ∷ cs))

-- a change that changes nothing leaves all openings as they are
change_newest-same : (files : List Heard) → files ≡ change_newest and_goes_on files
change_newest-same [] = refl
change_newest-same (file ∷ files) = refl

-- bytes given in two reads are as the bytes of both given in one
change_newest-then : (change : Heard → Heard) (first second : List ℕ) (files : List Heard) →
    change_newest (λ file. change (with_bytes second file)) (change_newest (λ file. and_goes_on (with_bytes first file))
    files)
    ≡ change_newest (λ file. change (with_bytes (first ++ second) file)) files
change_newest-then change first second [] = refl
change_newest-then change first second (file ∷ files) = ap (λ f. change f ∷ files) (with_bytes-append first second file)

-- a change after no bytes is the change alone
change_newest-alone : (change : Heard → Heard) (files : List Heard) →
    change_newest change files ≡ change_newest (λ file. change (with_bytes [] file)) files
change_newest-alone change [] = refl
change_newest-alone change (file ∷ files) = refl

-- content that stays the same gave no bytes
same_content : (content : Option Content) → Changes (Gives []) content content
same_content None = tt
same_content (Some content) = record { files = refl; opened = refl; left = refl; created = refl }

-- nothing was asked yet
pub ReadsOn-none : (view : DeskView) → ReadsOn and_goes_on [] view view
ReadsOn-none view = record { heard = change_newest-same (heard view.answers); told = same_content view.content }

-- bytes were read, and then more, after which the reading stands so
pub ReadsOn-then : (change : Heard → Heard) (first second : List ℕ) (old mid new : DeskView) →
    ReadsOn and_goes_on first old mid → ReadsOn change second mid new → ReadsOn change (first ++ second) old new
ReadsOn-then change first second old mid new a b = record {
  heard = b.heard ∙ ap (change_newest (λ file. change (with_bytes second file))) a.heard ∙
      change_newest-then change first second (heard old.answers);
  told = Changes-join _ _ _ (Gives-append first second) _ _ _ a.told b.told;
}

-- A read gave bytes, at least one.
given_some : (room : ℕ) (bytes : List ℕ) (files : List Heard) → 0 < length bytes →
    change_newest (after_read room (Some bytes)) files ≡ change_newest (λ file. and_goes_on (with_bytes bytes file))
    files
given_some room [] files some = absurd (omega (arith, some))
given_some room (b ∷ bs) [] some = refl
given_some room (b ∷ bs) (file ∷ files) some = refl

-- a read that gave some bytes: the newest opening has them more
pub ReadsOn-given : {E : Type 0} (into_old into_new : List ℕ) (count : ℕ) (old new : DeskView) →
    ReadsInto {E = E} into_old into_new old new (Ok count) → 0 < length (take count into_new) →
    ReadsOn and_goes_on (take count into_new) old new
ReadsOn-given into_old into_new count old new read some = record {
  heard = ap heard read.answer ∙ given_some (length into_old) (take count into_new) (heard old.answers) some;
  told = read.given;
}

-- A read gave nothing, with room for something.
given_none : (room : ℕ) (files : List Heard) → 0 < room →
    change_newest (after_read room (Some [])) files ≡ change_newest (λ file. with_ending Ended (with_bytes [] file))
    files
given_none room [] some = refl
given_none room (file ∷ files) some = rw (ne_eqb room 0 (λ e. omega (arith, some, e))) refl

-- a read that gave no byte where there was room: the newest opening has ended
pub ReadsOn-ended : {E : Type 0} (into_old into_new : List ℕ) (old new : DeskView) →
    ReadsInto {E = E} into_old into_new old new (Ok 0) → 0 < length into_old → ReadsOn (with_ending Ended) [] old new
ReadsOn-ended into_old into_new old new read some = record {
  heard = ap heard read.answer ∙ given_none (length into_old) (heard old.answers) some;
  told = read.given;
}

-- what isn't lost was given with no bytes
pub unlost : (old new : Option Content) → new ≡ old → Changes (Gives []) old new
unlost old new same = subst (λ content. Changes (Gives []) old content) (sym same) (same_content old)

-- A read failed.
pub ReadsOn-failed : {E : Type 0} (fault : E) (into_old into_new : List ℕ) (old new : DeskView) →
    ReadsInto {E = E} into_old into_new old new (Err fault) → ReadsOn (with_ending BrokenOff) [] old new
ReadsOn-failed fault into_old into_new old new read = record {
  heard = ap heard read.answer ∙ change_newest-alone (with_ending BrokenOff) (heard old.answers);
  told = unlost old.content new.content read.lost_nothing;
}
