-- Laws of files in memory, by their names.
use Rattle.std.proofs.Common.{◌≡◌, ◌≢◌, ◌⊎◌, ℕ, ◌+◌, ◌<◌, min, nat_le, List, [], ◌∷◌, ◌++◌, length, take, drop, get_or, append-nil, arith, true, false, not, ◌||◌, Option, Some, None, inl, inr, sym, subst, ◌∙◌, ap, refl}
use Rattle.std.proofs.lemmas.Bool.{cases_Bool, and_parts, false_from_ne_true}
use Rattle.std.proofs.lemmas.List.{drop_more, drop-drop, take_all, take-append-drop}
use Rattle.std.proofs.lemmas.Option.{slice_get_read, slice_get_within}
use Rattle.std.proofs.lemmas.Slice.Eq.{bytes_eq-Decides}
use Rattle.std.specs.Prelude.{string_bytes, slice_get}
use Rattle.std.specs.Str.{bytes_eq}
use Rattle.acl_outside.specs.Desk.{File, Gives, Creates, bytes_of}
use Rattle.acl_outside.specs.MemFile.{MadeView, Hand, Opened, Created, max_name, files_of, files_with, without, is_made, takes_name, opened_at, hand_of, IsReadTo, IsFound, StandsAt}
use Rattle.acl_outside.specs.Memory.{content_with, made_anew, opened_in, left_in, created_in}
use Rattle.acl_outside.specs.declared.mem_desk.MemFile.{MemFile}
use Rattle.acl_outside.specs.declared.mem_desk.InHand.{InHand}
use Rattle.acl_outside.specs.declared.mem_desk.InHand.TheVariants as in_hand

-- where no file before a place has the name, and the file there has it
pub StandsAt-found : (files : List MemFile) (place : ℕ) (file : MemFile) (name : List ℕ) → place < length files →
    file ≡ get_or files place file → bytes_eq (string_bytes file.name) name ≡ true →
    bytes_of (files_of files) name ≡ bytes_of (files_of (drop place files)) name → StandsAt files name (Some place)
StandsAt-found files place file name in_list is same none_before =
    let first : drop place files ≡ file ∷ drop (place + 1) files =
    drop_more files place file in_list ∙ ap (λ x. x ∷ drop (place + 1) files) (sym is) in (
      file,
      slice_get_read files (length files) place file refl in_list is,
      (bytes_eq-Decides (string_bytes file.name) name).0 same,
      none_before ∙ ap (λ rest. bytes_of (files_of rest) name) first ∙ rw same refl,
    )

-- without the files of one name, those of another are found as before
bytes_of-without : (hidden name : List ℕ) (files : List File) → bytes_eq hidden name ≡ false →
    bytes_of (without hidden files) name ≡ bytes_of files name
bytes_of-without hidden name [] apart = refl
bytes_of-without hidden name (file ∷ files) apart = elim (cases_Bool (bytes_eq file.name hidden)) [
  | inl same ↦
      let is : file.name ≡ hidden = (bytes_eq-Decides file.name hidden).0 same in
      let skipped : bytes_eq file.name name ≡ false = ap (λ n. bytes_eq n name) is ∙ apart in
      rw (same, skipped) (bytes_of-without hidden name files apart)
  | inr other ↦ elim (cases_Bool (bytes_eq file.name name)) [
    | inl found ↦ rw (other, found) refl
    | inr skipped ↦ rw (other, skipped) (bytes_of-without hidden name files apart)
  ]
]

-- a name that the created file doesn't have names a given file
pub bytes_of-given : (made : MadeView) (given : List File) (name : List ℕ) → is_made made name ≡ false →
    bytes_of (files_with made given) name ≡ bytes_of given name
bytes_of-given made given name isnt = elim (cases_Bool made.there) [
  | inl there ↦
      let apart : bytes_eq made.name name ≡ false = rw there at isnt in
      rw (there, apart) (bytes_of-without made.name name given apart)
  | inr none ↦ rw none refl
]

-- its own name names the created file
pub bytes_of-made : (made : MadeView) (given : List File) (name : List ℕ) → is_made made name ≡ true →
    bytes_of (files_with made given) name ≡ Some made.bytes
bytes_of-made made given name is =
    let both = and_parts made.there (bytes_eq made.name name) is in
    rw (both.0, both.1) refl

-- the created file is found, and is taken in hand
pub IsFound-made : (files : List MemFile) (made : MadeView) (name : List ℕ) → is_made made name ≡ true →
    IsFound files made name (Some in_hand.Made)
IsFound-made files made name is =
    let both = and_parts made.there (bytes_eq made.name name) is in (
      made.bytes,
      bytes_of-made made (files_of files) name is,
      ap (λ n. Opened n made.bytes) ((bytes_eq-Decides made.name name).0 both.1),
      omega arith,
    )

-- a given file is found, or none is
pub IsFound-given : (files : List MemFile) (made : MadeView) (name : List ℕ) (place : ℕ) → is_made made name ≡ false →
    StandsAt files name (Some place) → IsFound files made name (Some (in_hand.Given place))
IsFound-given files made name place isnt stands =
    let at : slice_get files place ≡ Some stands.0 = stands.1 in (
      stands.0.bytes.items,
      bytes_of-given made (files_of files) name isnt ∙ stands.3,
      ap (λ file. opened_at file 0) at ∙ ap (λ n. Opened n stands.0.bytes.items) stands.2,
      (slice_get_within files place stands.0 at, subst (λ file. IsReadTo file 0) (sym at) (omega arith)),
    )

-- another name than that of the created file, if there is one
made_apart : (made : MadeView) (name other : List ℕ) → takes_name made name ≡ true → other ≢ name →
    is_made made other ≡ false
made_apart made name other takes apart = elim (cases_Bool (is_made made other)) [
  | inr isnt ↦ isnt
  | inl is ↦
      let both = and_parts made.there (bytes_eq made.name other) is in
      let free = (and_parts (nat_le (length name) max_name) (not made.there || bytes_eq made.name name) takes).1 in
      let same : bytes_eq made.name name ≡ true = rw (both.0) at free in
      absurd (apart (sym ((bytes_eq-Decides made.name other).0 both.1) ∙ (bytes_eq-Decides made.name name).0 same))
]

-- two names that differ aren't compared as equal
bytes_eq-apart : (name other : List ℕ) → other ≢ name → bytes_eq name other ≡ false
bytes_eq-apart name other apart =
    false_from_ne_true (bytes_eq name other) (λ e. apart (sym ((bytes_eq-Decides name other).0 e)))

-- a name is compared as equal to itself
bytes_eq-same : (name : List ℕ) → bytes_eq name name ≡ true
bytes_eq-same name = (bytes_eq-Decides name name).1 refl

-- The file is created: it is empty, and no other file has changed.
pub Creates-made : (made : MadeView) (given : List File) (name : List ℕ) (hand : Hand) → takes_name made name ≡ true →
    Creates name (content_with (files_with made given) made.name hand)
    (content_with (files_with (made_anew name made) given) name Created)
Creates-made made given name hand takes = record {
  files = record {
    named = rw (bytes_eq-same name) refl;
    others = λ other apart.
        rw (bytes_eq-apart name other apart)
        (bytes_of-without name other given (bytes_eq-apart name other apart)
        ∙ sym (bytes_of-given made given other (made_apart made name other takes apart)));
  };
  opened = refl;
  left = refl;
  created = refl;
}

-- what is left from a place on is some first bytes and what is left after them
dropped : (bytes : List ℕ) (at count : ℕ) → drop at bytes ≡ take count (drop at bytes) ++ drop (at + count) bytes
dropped bytes at count =
    sym (ap (λ rest. take count (drop at bytes) ++ rest) (sym (drop-drop count at bytes))
    ∙ take-append-drop count (drop at bytes))

-- the bytes that are left are the first of them, and those that are left after them
pub left_in-split : (files : List MemFile) (made : MadeView) (hand : InHand) (at count : ℕ) →
    left_in (hand_of files made hand at)
    ≡ take count (left_in (hand_of files made hand at)) ++ left_in (hand_of files made hand (at + count))
left_in-split files made in_hand.Nothing at count = sym (append-nil (take count []) ∙ take_all count [] (omega arith))
left_in-split files made in_hand.Writing at count = sym (append-nil (take count []) ∙ take_all count [] (omega arith))
left_in-split files made in_hand.Made at count = dropped made.bytes at count
left_in-split files made (in_hand.Given place) at count = given (slice_get files place)
  where
    given : (file : Option MemFile) →
        left_in (opened_at file at) ≡ take count (left_in (opened_at file at)) ++ left_in (opened_at file (at + count))
    given None = sym (append-nil (take count []) ∙ take_all count [] (omega arith))
    given (Some file) = dropped file.bytes.items at count

-- a read changes neither which file is read nor which is written
pub opened_in-later : (files : List MemFile) (made : MadeView) (hand : InHand) (at later : ℕ) →
    opened_in (hand_of files made hand later) ≡ opened_in (hand_of files made hand at)
opened_in-later files made in_hand.Nothing at later = refl
opened_in-later files made in_hand.Writing at later = refl
opened_in-later files made in_hand.Made at later = refl
opened_in-later files made (in_hand.Given place) at later = given (slice_get files place)
  where
    given : (file : Option MemFile) → opened_in (opened_at file later) ≡ opened_in (opened_at file at)
    given None = refl
    given (Some file) = refl

-- it doesn't matter for the created file how far the opened one was read
pub created_in-later : (files : List MemFile) (made : MadeView) (hand : InHand) (at later : ℕ) (name : List ℕ) →
    created_in (hand_of files made hand later) name ≡ created_in (hand_of files made hand at) name
created_in-later files made in_hand.Nothing at later name = refl
created_in-later files made in_hand.Writing at later name = refl
created_in-later files made in_hand.Made at later name = refl
created_in-later files made (in_hand.Given place) at later name = given (slice_get files place)
  where
    given : (file : Option MemFile) → created_in (opened_at file later) name ≡ created_in (opened_at file at) name
    given None = refl
    given (Some file) = refl

-- The first bytes of what was left were read.
pub Gives-left : (all : List File) (files : List MemFile) (made : MadeView) (hand : InHand) (at count : ℕ) →
    Gives (take count (left_in (hand_of files made hand at)))
    (content_with all made.name (hand_of files made hand at))
    (content_with all made.name (hand_of files made hand (at + count)))
Gives-left all files made hand at count = record {
  files = refl;
  opened = opened_in-later files made hand at (at + count);
  left = left_in-split files made hand at count;
  created = created_in-later files made hand at (at + count) made.name;
}

-- no byte was read: there was room for none, or none was left
pub read_nothing : (piece : ℕ) (into left : List ℕ) → 0 < piece → min piece (min (length into) (length left)) ≡ 0 →
    (into ≡ []) ⊎ (left ≡ [])
read_nothing piece [] left some none = inl refl
read_nothing piece (b ∷ bs) [] some none = inr refl
read_nothing piece (b ∷ bs) (c ∷ cs) some none = absurd (omega (arith, some, none))
