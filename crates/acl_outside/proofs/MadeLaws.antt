-- Laws of what was made of a file, write by write.
use Rattle.std.proofs.Common.{◌≡◌, ℕ, ◌+◌, List, [], ◌∷◌, ◌++◌, take, drop, Option, Some, None, Result, Ok, Err, sym, ◌∙◌, ap, refl, subst, append_assoc, append-nil}
use Rattle.std.proofs.Math.Seq.{take-add}
use Rattle.std.proofs.lemmas.List.{take-append-drop}
use Rattle.std.specs.Prelude.{is_ok}
use Rattle.acl_outside.specs.Told.{Changes}
use Rattle.acl_outside.specs.Desk.{Content, DeskView, Writes, CreatesFile, WritesPiece, FinishesFile}
use Rattle.acl_outside.specs.Heard.{change_newest}
use Rattle.acl_outside.specs.Made.{Made, Broken, made, creation_of, after_finish, and_stands, with_written, with_standing}
use Rattle.acl_outside.specs.Writing.{WritesOn, WritesPrefix}
use Rattle.acl_outside.proofs.ToldLaws.{Changes-join}

-- some bytes, and then more
with_written-append : (first second : List ℕ) (file : Made) →
    with_written second (with_written first file) ≡ with_written (first ++ second) file
with_written-append [] second file = refl
with_written-append (b ∷ bs) [] file = ap (λ bytes. with_written bytes file) (sym (append-nil (b ∷ bs)))
with_written-append (b ∷ bs) (c ∷ cs) file =
    ap (λ bytes. let made_file : Made = record {
      name = file.name;
      bytes = bytes;
      standing = (with_written (c ∷ cs) file).standing;
    } in made_file)
    (append_assoc file.bytes (b ∷ bs) (c ∷ cs))

-- a change that changes nothing leaves all creations as they are
change_newest-same : (files : List Made) → files ≡ change_newest and_stands files
change_newest-same [] = refl
change_newest-same (file ∷ files) = refl

-- bytes written in two writes are as the bytes of both written in one
change_newest-then : (change : Made → Made) (first second : List ℕ) (files : List Made) →
    change_newest (λ file. change (with_written second file))
    (change_newest (λ file. and_stands (with_written first file)) files)
    ≡ change_newest (λ file. change (with_written (first ++ second) file)) files
change_newest-then change first second [] = refl
change_newest-then change first second (file ∷ files) =
    ap (λ f. change f ∷ files) (with_written-append first second file)

-- a change after no bytes is the change alone
change_newest-alone : (change : Made → Made) (files : List Made) →
    change_newest change files ≡ change_newest (λ file. change (with_written [] file)) files
change_newest-alone change [] = refl
change_newest-alone change (file ∷ files) = refl

-- nothing is written where no file has changed
Writes-none : (content : Content) → Writes [] content content
Writes-none content = record {
  files = λ name had created held. record {
    named = held ∙ ap (λ bytes. Some bytes) (sym (append-nil had));
    others = λ other apart. refl;
  };
  others = λ other apart. refl;
  opened = refl;
  left = refl;
  created = refl;
}

-- the bytes of two writes, one after the other
pub Writes-append : (first second : List ℕ) (old mid new : Content) → Writes first old mid → Writes second mid new →
    Writes (first ++ second) old new
Writes-append first second old mid new a b = record {
  files = λ name had created held.
      let once = a.files name had created held in
      let twice = b.files name (had ++ first) (a.created ∙ created) once.named in
      record {
        named = twice.named ∙ ap (λ bytes. Some bytes) (append_assoc had first second);
        others = λ other apart. twice.others other apart ∙ once.others other apart;
      };
  others = λ other apart. b.others other (λ same. apart (sym a.created ∙ same)) ∙ a.others other apart;
  opened = b.opened ∙ a.opened;
  left = b.left ∙ a.left;
  created = b.created ∙ a.created;
}

-- content that stays the same got no bytes
same_content : (content : Option Content) → Changes (Writes []) content content
same_content None = tt
same_content (Some content) = Writes-none content

-- nothing was asked yet
pub WritesOn-none : (view : DeskView) → WritesOn and_stands [] view view
WritesOn-none view = record { made = change_newest-same (made view.answers); told = same_content view.content }

-- bytes were written, and then more, after which the file stands so
pub WritesOn-then : (change : Made → Made) (first second : List ℕ) (old mid new : DeskView) →
    WritesOn and_stands first old mid → WritesOn change second mid new → WritesOn change (first ++ second) old new
WritesOn-then change first second old mid new a b = record {
  made = b.made ∙ ap (change_newest (λ file. change (with_written second file))) a.made ∙
      change_newest-then change first second (made old.answers);
  told = Changes-join _ _ _ (Writes-append first second) _ _ _ a.told b.told;
}

-- A write took bytes.
pub WritesOn-taken : {E : Type 0} (piece : List ℕ) (count : ℕ) (old new : DeskView) →
    WritesPiece {E = E} piece old new (Ok count) → WritesOn and_stands (take count piece) old new
WritesOn-taken piece count old new write = record {
  made = ap made write.answer ∙ change_newest-taken (take count piece) (made old.answers);
  told = write.taken;
}
  where
    change_newest-taken : (bytes : List ℕ) (files : List Made) →
        change_newest (with_written bytes) files
        ≡ change_newest (λ file. and_stands (with_written bytes file)) files
    change_newest-taken bytes [] = refl
    change_newest-taken bytes (file ∷ files) = refl

-- A write failed.
pub WritesOn-failed : {E : Type 0} (fault : E) (piece : List ℕ) (old new : DeskView) →
    WritesPiece {E = E} piece old new (Err fault) → WritesOn (with_standing Broken) [] old new
WritesOn-failed fault piece old new write = record {
  made = ap made write.answer ∙ change_newest-alone (with_standing Broken) (made old.answers);
  told = subst (λ content. Changes (Writes []) old.content content) (sym write.took_nothing) (same_content old.content);
}

-- the first n bytes of a piece, and then m bytes more
pub WritesOn-more : (n m : ℕ) (piece : List ℕ) (old mid new : DeskView) →
    WritesOn and_stands (take n piece) old mid → WritesOn and_stands (take m (drop n piece)) mid new →
    WritesOn and_stands (take (n + m) piece) old new
WritesOn-more n m piece old mid new first second =
    rw (take-add n m piece) (WritesOn-then and_stands (take n piece) (take m (drop n piece)) old mid new first second)

-- the first n bytes of a piece, and then a write that failed
pub WritesPrefix-failed : (n : ℕ) (piece : List ℕ) (old mid new : DeskView) →
    WritesOn and_stands (take n piece) old mid → WritesOn (with_standing Broken) [] mid new →
    WritesPrefix piece old new
WritesPrefix-failed n piece old mid new first failed = record {
  prefix = take n piece;
  rest = drop n piece;
  parts = sym (take-append-drop n piece);
  writes = rw (append-nil (take n piece)) at
      (WritesOn-then (with_standing Broken) (take n piece) [] old mid new first failed);
}

-- a creation is the newest of what was made
pub made-creation : {T E : Type 0} (name : List ℕ) (result : Result T E) (old new : DeskView) →
    CreatesFile name old new result → made new.answers ≡ creation_of name (is_ok result) ∷ made old.answers
made-creation name result old new creates = ap made creates.answer

-- and a finish says how it stands
pub made-finish : {T E : Type 0} (result : Result T E) (old new : DeskView) → FinishesFile old new result →
    made new.answers ≡ change_newest (after_finish (is_ok result)) (made old.answers)
made-finish result old new finish = ap made finish.answer
