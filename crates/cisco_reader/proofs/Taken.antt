-- What a reading that ends well says of its steps, and of the words that it took.
use Rattle.std.proofs.Common.{◌≡◌, ℕ, Bool, true, false, List, [], ◌∷◌, ◌++◌, Some, None, Option, Ok, Err, Result}
use Rattle.std.proofs.Common.{refl, sym, ap, ◌∙◌, subst, if◌then◌else◌}
use Rattle.cisco_reader.specs.declared.fault.LineKind.{LineKind}
use Rattle.cisco_reader.specs.Read.{After, ◌>>=◌, ◌>>-◌, alone, done, found, one_word, required}

-- ---- steps

-- a first step gave something, and what followed ended well
pub record Went {A B E : Type 0} (first : Result A E) (following : A → Result B E) (last : B) : Type 0 where
  pub value : A
  pub is : first ≡ Ok value
  pub goes : following value ≡ Ok last

pub went : {A B E : Type 0} (first : Result A E) (following : A → Result B E) (last : B) →
    (first >>= following) ≡ Ok last → Went first following last
went (Ok value) following last is = record { value = value; is = refl; goes = is }
went (Err kind) following last is = absurd cc

-- the same of a step that left words
pub record Left {A B E : Type 0} (first : Result (After A) E) (following : A → List (List ℕ) → Result B E) (last : B) :
    Type 0 where
  pub read : After A
  pub is : first ≡ Ok read
  pub goes : following read.value read.words ≡ Ok last

pub left : {A B E : Type 0} (first : Result (After A) E) (following : A → List (List ℕ) → Result B E) (last : B) →
    (first >>- following) ≡ Ok last → Left first following last
left (Ok read) following last is = record { read = read; is = refl; goes = is }
left (Err kind) following last is = absurd cc

-- what was found is there
pub was_found : {A : Type 0} (kind : LineKind) (option : Option A) (value : A) → found kind option ≡ Ok value →
    option ≡ Some value
was_found kind None value is = absurd cc
was_found kind (Some it) value is = let e : it ≡ value = cc in ap Some e

-- a test that refuses didn't hold
pub not_refused : {A : Type 0} (test : Bool) (kind : LineKind) (read : Result A LineKind) (last : A) →
    (if test then Err kind else read) ≡ Ok last → read ≡ Ok last
not_refused true kind read last is = absurd cc
not_refused false kind read last is = is

-- one of two readings ended well
pub either : {A P : Type 0} (test : Bool) (one other : Result A LineKind) (last : A) →
    (test ≡ true → one ≡ Ok last → P) → (other ≡ Ok last → P) → (if test then one else other) ≡ Ok last → P
either true one other last first second is = first refl is
either false one other last first second is = second is

-- nothing follows what was read
pub record Ended {A : Type 0} (words : List (List ℕ)) (value last : A) : Type 0 where
  pub none : words ≡ []
  pub same : last ≡ value

pub ended_alone : {A : Type 0} (words : List (List ℕ)) (value last : A) → alone words value ≡ Ok last →
    Ended words value last
ended_alone [] value last is = let e : last ≡ value = cc in record { none = refl; same = e }
ended_alone (word ∷ words) value last is = absurd cc

-- ---- words

-- the first word was taken
pub front : (words : List (List ℕ)) (read : After (List ℕ)) → required words ≡ Ok read →
    read.value ∷ read.words ≡ words
front [] read is = absurd cc
front (word ∷ words) read is =
    let e : record { value = word; words = words } ≡ read = cc in
    ap (λ (r : After (List ℕ)). r.value ∷ r.words) (sym e)

-- a part was read off the front of some words
pub record Reads {A : Type 0} (Is : List (List ℕ) → A → Type 0) (words : List (List ℕ)) (read : After A) : Type 0 where
  pub part : List (List ℕ)
  pub is : Is part read.value
  pub joined : part ++ read.words ≡ words

-- it was made of these words, and these were left
pub made : {A : Type 0} (Is : List (List ℕ) → A → Type 0) {read : After A} (part words : List (List ℕ)) (value : A) →
    Is part value → done value words ≡ Ok read → Reads Is (part ++ words) read
made Is {read = read} part words value it is =
    let e : record { value = value; words = words } ≡ read = cc in
    record {
      part = part;
      is = subst (λ (r : After _). Is part r.value) e it;
      joined = ap (λ (r : After _). part ++ r.words) (sym e);
    }

-- a word, and a part after it
pub with_word : {A : Type 0} (Is : List (List ℕ) → A → Type 0) (word : List ℕ) {words : List (List ℕ)}
    {read : After A} → Reads (λ part. Is (word ∷ part)) words read → Reads Is (word ∷ words) read
with_word Is word rest =
    record { part = word ∷ rest.part; is = rest.is; joined = ap (λ ws. word ∷ ws) rest.joined }

-- one word was read off the front of words, which stands for what was read
pub record ReadsWord {A : Type 0} (means : List ℕ → Result A LineKind) (words : List (List ℕ)) (read : After A) :
    Type 0 where
  pub text : List ℕ
  pub is : means text ≡ Ok read.value
  pub joined : text ∷ read.words ≡ words

pub word_read : {A : Type 0} (means : List ℕ → Result A LineKind) (words : List (List ℕ)) (read : After A) →
    one_word means words ≡ Ok read → ReadsWord means words read
word_read means words read is =
    let first = left (required words) _ read is in
    let it = went (means first.read.value) _ read first.goes in
    let e : record { value = it.value; words = first.read.words } ≡ read = let same = it.goes in cc in
    record {
      text = first.read.value;
      is = it.is ∙ ap (λ (r : After _). Ok r.value) e;
      joined = ap (λ (r : After _). first.read.value ∷ r.words) (sym e) ∙ front words first.read first.is;
    }

-- one word, and what is made of what it stands for
pub one_read : {A B : Type 0} (Is : List (List ℕ) → B → Type 0) (means : List ℕ → Result A LineKind) (make : A → B)
    (words : List (List ℕ)) (read : After B) →
    ((text : List ℕ) (it : A) → means text ≡ Ok it → Is (text ∷ []) (make it)) →
    (one_word means words >>- λ it rest. done (make it) rest) ≡ Ok read → Reads Is words read
one_read Is means make words read are is =
    let first = left (one_word means words) _ read is in
    let it = word_read means words first.read first.is in
    subst (λ ws. Reads Is ws read) it.joined
    (made Is (it.text ∷ []) first.read.words (make first.read.value) (are it.text first.read.value it.is) first.goes)
