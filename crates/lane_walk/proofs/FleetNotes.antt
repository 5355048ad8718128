-- What notes of lanes leave, one after the other.
use Rattle.std.proofs.Common.{◌≡◌, ◌≢◌, ℕ, ◌+◌, ◌<◌, List, [], sym, ap, ◌∙◌, refl, arith, length, drop, get_or, set}
use Rattle.std.proofs.Common.{inl, inr}
use Rattle.std.proofs.Common.{length-set, get_or-set_other}
use Rattle.std.specs.Prelude.{slice_index}
use Rattle.std.proofs.lemmas.Bool.{cases_eq}
use Rattle.std.proofs.lemmas.List.{drop-set-lt}
use Rattle.lane_walk.specs.Fleet.{NotesLast, noted_of}

-- what a note leaves
pub record NotesOne (key word jobs : ℕ) (rows new : List (List ℕ)) : Type 0 where
  pub number : noted_of new key ≡ word
  pub apart : (other : ℕ) → other ≢ key → noted_of new other ≡ noted_of rows other
  pub len : length new ≡ length rows
  pub past : drop jobs new ≡ drop jobs rows

-- a word that is written into the row of a key
pub one_noted : {rows new : List (List ℕ)} {key word jobs : ℕ} → new ≡ set rows key (set (get_or rows key []) 0 word) →
    noted_of new key ≡ word → key < jobs → NotesOne key word jobs rows new
one_noted {rows = rows} {key = key} {word = word} {jobs = jobs} is number below = record {
  number = number;
  apart = λ other not.
      ap (λ (them : List (List ℕ)). noted_of them other) is
      ∙ ap (λ (row : List ℕ). slice_index row 0)
      (get_or-set_other rows key other (set (get_or rows key []) 0 word) [] not);
  len = ap (λ (them : List (List ℕ)). length them) is ∙ length-set rows key (set (get_or rows key []) 0 word);
  past = ap (λ (them : List (List ℕ)). drop jobs them) is
      ∙ drop-set-lt jobs rows key (set (get_or rows key []) 0 word) below;
}

-- ---- after the last turn

-- before the first lane nothing is noted
pub last_none : {jobs : ℕ} {words keys_of : List ℕ} {rows : List (List ℕ)} → NotesLast 0 jobs words keys_of rows rows
last_none = record {
  noted = λ lane below. absurd (omega (arith, below));
  others = λ key. inl refl;
  len = refl;
  past = refl;
}

-- one lane more notes its word
pub last_more : {n jobs : ℕ} {words keys_of : List ℕ} {rows new after : List (List ℕ)} →
    NotesLast n jobs words keys_of rows new → NotesOne (slice_index keys_of n) (slice_index words n) jobs new after →
    NotesLast (n + 1) jobs words keys_of rows after
last_more {n = n} {words = words} {keys_of = keys_of} {after = after} s note = record {
  noted = λ lane below. elim (cases_eq (slice_index keys_of n) (slice_index keys_of lane)) [
    | inl same ↦ (n, omega arith, same, ap (λ (key : ℕ). noted_of after key) (sym same) ∙ note.number)
    | inr other ↦ elim (cases_eq lane n) [
      | inl here ↦ absurd (other (ap (λ (k : ℕ). slice_index keys_of k) (sym here)))
      | inr before ↦ (
          let it = s.noted lane (omega (arith, below, before)) in
          (it.0, omega (arith, it.1), it.2, note.apart (slice_index keys_of lane) (λ is. other (sym is)) ∙ it.3)
          )
    ]
  ];
  others = λ key. elim (cases_eq key (slice_index keys_of n)) [
    | inl same ↦ inr (n, omega arith, sym same, ap (λ (k : ℕ). noted_of after k) same ∙ note.number)
    | inr other ↦ elim (s.others key) [
      | inl still ↦ inl (note.apart key other ∙ still)
      | inr (lane, within, key_is, noted) ↦ inr (lane, omega (arith, within), key_is, note.apart key other ∙ noted)
    ]
  ];
  len = note.len ∙ s.len;
  past = note.past ∙ s.past;
}
