-- The links over the runs of a state are those over all bytes.
use Rattle.std.proofs.Common.{◌≡◌, ◌≢◌, ℕ, zero, suc, ◌+◌, ◌%◌, ◌≤◌, ◌==◌, List, [], ◌∷◌, ◌++◌, length, map, fold}
use Rattle.std.proofs.Common.{filter, true, false, cond, not, true≢false, refl, sym, ◌∙◌, ap, inl, inr, arith}
use Rattle.std.proofs.Common.{length-append}
use Rattle.std.specs.List.{range_with_len}
use Rattle.std.proofs.lemmas.Bool.{cases_Bool, eqb-true, eq-eqb, not-false, or_parts}
use Rattle.group_states.specs.declared.run.Run.{Run}
use Rattle.group_states.specs.declared.run.Succ.{Succ}
use Rattle.group_states.specs.declared.run.Succ.TheVariants.{Dead, State, Row}
use Rattle.group_states.specs.Found.{all_bytes}
use Rattle.group_states.specs.Levels.{same_succ, is_end, runs_of}
use Rattle.group_states.proofs.Offered.{same_is}
use Rattle.acl_audit.specs.declared.links.Link.{Link}
use Rattle.acl_audit.specs.Links.{linked_with, runs_linked}

-- the number after so many isn't less than them
not_again : (number : ℕ) (links : List Link) (link : Link) → (number == length links) ≡ true
    → (number == length (links ++ link ∷ [])) ≡ false
not_again number links link is = elim (cases_Bool (number == length (links ++ link ∷ []))) [
  | inr differs ↦ differs
  | inl same ↦ absurd
      (omega (
        arith,
        eqb-true number (length links) is,
        eqb-true number (length (links ++ link ∷ [])) same,
        length-append links (link ∷ []),
      ))
]

-- what has a link gets no second one
linked_twice : (links : List Link) (one other : Link) (to : Succ)
    → linked_with (linked_with links one to) other to ≡ linked_with links one to
linked_twice links one other Dead = refl
linked_twice links one other (State number) = elim (cases_Bool (number == length links)) [
  | inl is ↦ rw is (rw (not_again number links one is) refl)
  | inr differs ↦ rw differs (rw differs refl)
]
linked_twice links one other (Row number) = elim (cases_Bool (number == length links)) [
  | inl is ↦ rw is (rw (not_again number links one is) refl)
  | inr differs ↦ rw differs (rw differs refl)
]

module _ (before : ℕ) (succ : ℕ → Succ) where
  -- the link of a byte
  abbrev pub link_of : ℕ → Link
  link_of byte = record { before = before; byte = byte }

  -- the links after one more byte
  abbrev pub byte_linked : List Link → ℕ → List Link
  byte_linked links byte = linked_with links (link_of byte) (succ byte)

  -- the run that ends with a byte
  abbrev run_at : ℕ → Run
  run_at b = record { last = b; to = succ b }

  -- the runs that end with one of so many bytes from one on
  abbrev runs_on : ℕ → ℕ → List Run
  runs_on first count = map run_at (filter (is_end succ) (range_with_len first count))

  -- the runs from a byte that is the last of one, and from one that isn't
  runs_end : (links : List Link) (start first count : ℕ) → is_end succ first ≡ true
      → runs_linked links before start (runs_on first (suc count))
      ≡ runs_linked (linked_with links (link_of start) (succ first)) before ((first + 1) % 256)
      (runs_on (first + 1) count)
  runs_end links start first count ends =
      ap (λ b. runs_linked links before start
      (map run_at (cond b (first ∷ filter (is_end succ) (range_with_len (first + 1) count))
      (filter (is_end succ) (range_with_len (first + 1) count))))) ends

  -- from a byte that ends no run the runs are those from the next byte
  runs_go : (links : List Link) (start first count : ℕ) → is_end succ first ≡ false
      → runs_linked links before start (runs_on first (suc count))
      ≡ runs_linked links before start (runs_on (first + 1) count)
  runs_go links start first count goes =
      ap (λ b. runs_linked links before start
      (map run_at (cond b (first ∷ filter (is_end succ) (range_with_len (first + 1) count))
      (filter (is_end succ) (range_with_len (first + 1) count))))) goes

  -- a byte that ends no run isn't the last one
  not_last : (first : ℕ) → is_end succ first ≡ false → first ≢ 255
  not_last first goes e =
      true≢false (sym (eq-eqb first 255 e)
      ∙ (or_parts (first == 255) (not (same_succ (succ first) (succ (first + 1)))) goes).0)

  -- a byte that ends no run leads where the next one does
  same_next : (first : ℕ) → is_end succ first ≡ false → succ first ≡ succ (first + 1)
  same_next first goes =
      same_is (succ first) (succ (first + 1))
      (not-false _ (or_parts (first == 255) (not (same_succ (succ first) (succ (first + 1)))) goes).1)

  -- from a byte on, which is in a run that began at another
  linked_on : (links : List Link) (start first count : ℕ) → first + suc count ≡ 256 → start ≤ first
      → runs_linked links before start (runs_on first (suc count))
      ≡ fold byte_linked (linked_with links (link_of start) (succ first)) (range_with_len (first + 1) count)
  linked_on links start first zero whole from = elim (cases_Bool (is_end succ first)) [
    | inl ends ↦ runs_end links start first zero ends
    | inr goes ↦ absurd (not_last first goes (omega (arith, whole)))
  ]
  linked_on links start first (suc count) whole from = elim (cases_Bool (is_end succ first)) [
    | inl ends ↦
        let old : List Link = linked_with links (link_of start) (succ first) in
        let e : (first + 1) % 256 ≡ first + 1 = omega (arith, whole) in
        runs_end links start first (suc count) ends
        ∙ ap (λ b. runs_linked old before b (runs_on (first + 1) (suc count))) e
        ∙ linked_on old (first + 1) (first + 1) count (omega (arith, whole)) (omega arith)
    | inr goes ↦
        let same = same_next first goes in
        runs_go links start first (suc count) goes
        ∙ linked_on links start (first + 1) count (omega (arith, whole)) (omega (arith, from))
        ∙ ap (λ l. fold byte_linked l (range_with_len (first + 1 + 1) count))
        (ap (linked_with links (link_of start)) (sym same)
        ∙ sym (linked_twice links (link_of start) (link_of (first + 1)) (succ first))
        ∙ ap (linked_with (linked_with links (link_of start) (succ first)) (link_of (first + 1))) same)
  ]

  -- the links over all runs are those over all bytes
  pub runs_are_bytes : (links : List Link)
      → runs_linked links before 0 (runs_of succ) ≡ fold byte_linked links all_bytes
  unfolding runs_of all_bytes
  runs_are_bytes links = linked_on links 0 0 255 refl (omega arith)
