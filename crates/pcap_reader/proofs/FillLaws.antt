-- How a slice is filled part by part.
use Rattle.std.proofs.Common.{◌≡◌, ℕ, eqb, false, ◌+◌, ◌<◌, ◌≤◌, List, [], ◌++◌, length, take, drop, Option, Some, None, Result, Ok, Err, IfOk, OnErr, inl, inr, refl, sym, subst, ap, ◌∙◌, arith, add-zero, append-nil, length-take, length-drop, length-append}
use Rattle.std.specs.Option.{option_map_or}
use Rattle.std.proofs.Math.Seq.{take-append-add}
use Rattle.std.proofs.lemmas.Bool.{eqb-false, lt-ltb, le-ltb}
use Rattle.std.proofs.lemmas.List.{length-take-le, take-append-le}
use borrow.Rule.Slice.PartMut.{put_mid}
use Rattle.acl_outside.specs.Fault.{Rose}
use Rattle.acl_outside.specs.Told.{Changes}
use Rattle.acl_outside.specs.Desk.{Content, DeskView, Gives, ReadsInto}
use Rattle.acl_outside.specs.Heard.{Ended, with_ending}
use Rattle.acl_outside.proofs.Offered.{KeepsMade-same, KeepsMade-join, KeepsMade-read, KeepsCounts-same, KeepsCounts-join}
use Rattle.acl_outside.proofs.Offered.{ReadsOn-none, ReadsOn-given, ReadsOn-ended, ReadsOn-failed}
use Rattle.acl_outside.specs.DeskReading.{ReadsOn, and_goes_on}
use Rattle.pcap_reader.specs.Fill.{KeepsReading, IsAtEnd, BreaksOff, Fills, FillsOn, after_fill}

-- what was read after the first len bytes stands after them
pub take-put_mid : (len size count : ℕ) (xs part : List ℕ) → len ≤ length xs → count ≤ length part →
    take (len + count) (put_mid len size xs part) ≡ take len xs ++ take count part
take-put_mid len size count xs part within read =
    let rest : List ℕ = drop size (drop len xs) in
    subst (λ k. take (k + count) (take len xs ++ (part ++ rest)) ≡ take len xs ++ take count (part ++ rest))
    (length-take-le len xs within)
    (take-append-add (take len xs) (part ++ rest) count) ∙
    ap (λ ys. take len xs ++ ys) (take-append-le count part rest read)

-- a part put in the middle of a slice leaves it as long as it was
pub length-put_mid : (len size : ℕ) (xs part : List ℕ) → len + size ≤ length xs → length part ≡ size →
    length (put_mid len size xs part) ≡ length xs
length-put_mid len size xs part within fits =
    omega (
      arith,
      fits,
      length-append (take len xs) (part ++ drop size (drop len xs)),
      length-append part (drop size (drop len xs)),
      length-take len xs,
      length-drop size (drop len xs),
      length-drop len xs,
    )

-- nothing was read after the first len bytes
pub take-put_none : (len size : ℕ) (xs part : List ℕ) → len ≤ length xs →
    take len (put_mid len size xs part) ≡ take len xs
take-put_none len size xs part within =
    ap (λ k. take k (put_mid len size xs part)) (sym (add-zero len))
    ∙ take-put_mid len size 0 xs part within (omega arith) ∙ append-nil (take len xs)

-- fewer bytes than there was room for: the end was met
pub after_fill-short : (room count : ℕ) (bytes : List ℕ) (old new : DeskView) → count < room →
    ReadsOn (with_ending Ended) bytes old new → ReadsOn (after_fill room count) bytes old new
after_fill-short room count bytes old new less reads = rw (lt-ltb count room less) reads

-- as many bytes as there was room for
pub after_fill-full : (room count : ℕ) (bytes : List ℕ) (old new : DeskView) → room ≤ count →
    ReadsOn and_goes_on bytes old new → ReadsOn (after_fill room count) bytes old new
after_fill-full room count bytes old new full reads = rw (le-ltb count room full) reads

-- nothing was asked yet
pub KeepsReading-same : (view : DeskView) → KeepsReading view view
KeepsReading-same view = record {
  reading = refl;
  writing = refl;
  absent = refl;
  made = KeepsMade-same view;
  counts = KeepsCounts-same view;
}

-- some was read, and then more
pub KeepsReading-join : (old mid new : DeskView) → KeepsReading old mid → KeepsReading mid new → KeepsReading old new
KeepsReading-join old mid new a b = record {
  reading = b.reading ∙ a.reading;
  writing = b.writing ∙ a.writing;
  absent = b.absent ∙ a.absent;
  made = KeepsMade-join old mid new a.made b.made;
  counts = KeepsCounts-join old mid new a.counts b.counts;
}

-- one read
pub KeepsReading-one : {E : Type 0} (into_old into_new : List ℕ) (result : Result ℕ E) (old new : DeskView) →
    ReadsInto into_old into_new old new result → KeepsReading old new
KeepsReading-one into_old into_new result old new read = record {
  reading = read.reading;
  writing = read.writing;
  absent = read.absent;
  made = KeepsMade-read into_old into_new result old new read;
  counts = read.counts;
}

-- a read more
pub KeepsReading-read : {E : Type 0} (into_old into_new : List ℕ) (result : Result ℕ E) (old mid new : DeskView) →
    KeepsReading old mid → ReadsInto into_old into_new mid new result → KeepsReading old new
KeepsReading-read into_old into_new result old mid new keeps read =
    KeepsReading-join old mid new keeps (KeepsReading-one into_old into_new result mid new read)

-- A fault that is counted in a later call is counted over both.
pub Rose-later : (old mid new : DeskView) → KeepsReading old mid → Rose mid.read_faults new.read_faults →
    Rose old.read_faults new.read_faults
Rose-later old mid new keeps rose = omega (arith, keeps.counts.read_faults, rose)

-- nothing was left, and nothing was given
at_end_after : (mid new : Option Content) → ((content : Content) → mid ≡ Some content → content.left ≡ []) →
    Changes (Gives []) mid new →
    (content : Content) → new ≡ Some content → content.left ≡ []
at_end_after None None ended step content is = absurd (cc)
at_end_after (Some old) (Some now) ended step content is =
    let left : Option Content → List ℕ = λ told. option_map_or (λ (c : Content). c.left) told [] in
    sym (ap left is) ∙ sym step.left ∙ ended old refl
at_end_after None (Some now) ended step content is = absurd step
at_end_after (Some old) None ended step content is = absurd step

-- The end of the file was met, as a read with some room gave nothing.
pub IsAtEnd-read : {E : Type 0} (into_old into_new : List ℕ) (mid new : DeskView) → 0 < length into_old →
    ReadsInto {E = E} into_old into_new mid new (Ok 0) → IsAtEnd new
IsAtEnd-read into_old into_new mid new room read = elim (read.end refl) [
  | inl empty ↦ absurd (omega (arith, room, ap length empty))
  | inr ended ↦ at_end_after mid.content new.content ended read.given
]

-- and back: a slice that is full leaves the reading as it stands
pub reads-full : (room count : ℕ) (bytes : List ℕ) (old new : DeskView) → room ≤ count →
    ReadsOn (after_fill room count) bytes old new → ReadsOn and_goes_on bytes old new
reads-full room count bytes old new full reads = rw (le-ltb count room full) at reads

-- and a slice that isn't full met the end
pub reads-short : (room count : ℕ) (bytes : List ℕ) (old new : DeskView) → count < room →
    ReadsOn (after_fill room count) bytes old new → ReadsOn (with_ending Ended) bytes old new
reads-short room count bytes old new less reads = rw (lt-ltb count room less) at reads

-- nothing was asked for a slice with no room
pub Fills-empty : {E : Type 0} (into : List ℕ) (view : DeskView) → length into ≡ 0 →
    Fills {E = E} into into view view (Ok 0)
Fills-empty into view empty = record {
  within = omega arith;
  reads = after_fill-full (length into) 0 [] view view (omega (arith, empty)) (ReadsOn-none view);
  end = λ less. absurd (omega (arith, less, empty));
  breaks_off = tt;
  cause = tt;
  keeps = KeepsReading-same view;
}

-- a slice that isn't empty has room
pub some_room : (room : ℕ) → eqb room 0 ≡ false → 0 < room
some_room room filled = let other = eqb-false room 0 filled in omega (arith, other)

-- one read filled a slice
pub Fills-full : {E F : Type 0} (into_old into_new : List ℕ) (count : ℕ) (old new : DeskView) → 0 < length into_old →
    length into_new ≡ length into_old → count ≡ length into_new →
    ReadsInto {E = E} into_old into_new old new (Ok count) → Fills {E = F} into_old into_new old new (Ok count)
Fills-full into_old into_new count old new some same full read = record {
  within = read.within;
  reads = after_fill-full (length into_old) count (take count into_new) old new (omega (arith, full, same))
      (ReadsOn-given into_old into_new count old new read
      (omega (arith, length-take count into_new, full, same, some)));
  end = λ less. absurd (omega (arith, less, full, same));
  breaks_off = tt;
  cause = tt;
  keeps = KeepsReading-one into_old into_new (Ok count) old new read;
}

-- one read met the end of the file
pub Fills-ended : {E F : Type 0} (into_old into_new : List ℕ) (count : ℕ) (old new : DeskView) → 0 < length into_old →
    count ≡ 0 → ReadsInto {E = E} into_old into_new old new (Ok count) →
    Fills {E = F} into_old into_new old new (Ok count)
Fills-ended {E = E} {F = F} into_old into_new count old new some none =
    subst (λ n. ReadsInto {E = E} into_old into_new old new (Ok n) → Fills {E = F} into_old into_new old new (Ok n))
    (sym none)
    (λ read. record {
      within = read.within;
      reads = after_fill-short (length into_old) 0 [] old new some
          (ReadsOn-ended into_old into_new old new read some);
      end = λ less. IsAtEnd-read into_old into_new old new some read;
      breaks_off = tt;
      cause = tt;
      keeps = KeepsReading-one into_old into_new (Ok 0) old new read;
    })

-- one read failed
pub Fills-failed : {E F : Type 0} (into_old into_new : List ℕ) (old new : DeskView) (fault : E) (answer : F) →
    0 < length into_old →
    ReadsInto into_old into_new old new (Err fault) → Fills into_old into_new old new (Err answer)
Fills-failed into_old into_new old new fault answer some read = record {
  within = tt;
  reads = tt;
  end = tt;
  breaks_off = record { bytes = []; few = some; reads = ReadsOn-failed fault into_old into_new old new read };
  cause = read.cause;
  keeps = KeepsReading-one into_old into_new (Err fault) old new read;
}

-- a slice of the same room
Fills-room : {E : Type 0} (into_old other into_new : List ℕ) (old new : DeskView) (result : Result ℕ E) →
    length other ≡ length into_old → Fills other into_new old new result → Fills into_old into_new old new result
Fills-room into_old other into_new old new result same fills = record {
  within = subst (λ n. IfOk result (λ count. count ≤ n)) same fills.within;
  reads = subst (λ n. IfOk result (λ count. ReadsOn (after_fill n count) (take count into_new) old new)) same
      fills.reads;
  end = subst (λ n. IfOk result (λ count. count < n → IsAtEnd new)) same fills.end;
  breaks_off = subst (λ n. OnErr result (BreaksOff n old new)) same fills.breaks_off;
  cause = fills.cause;
  keeps = fills.keeps;
}

-- one read gave some bytes, and the rest was filled after it
pub Fills-on : {E F : Type 0} (into_old into_mid into_new : List ℕ) (count : ℕ) (old mid new : DeskView)
    (result : Result ℕ F) → 0 < count → length into_mid ≡ length into_old →
    ReadsInto {E = E} into_old into_mid old mid (Ok count) → FillsOn count into_mid into_new mid new result →
    Fills into_old into_new old new result
Fills-on into_old into_mid into_new count old mid new result some same read on =
    Fills-room into_old into_mid into_new old new result same
    (on old
    (ReadsOn-given into_old into_mid count old mid read
    (omega (arith, length-take count into_mid, same, some, read.within)))
    (KeepsReading-one into_old into_mid (Ok count) old mid read))
