-- Where an answer changes from one byte to the next.
use Rattle.std.proofs.Common.{◌≡◌, ℕ, zero, suc, ◌+◌, ◌-◌, ◌<◌, ◌≤◌, Bool, true, false, ◌&&◌, not, cond}
use Rattle.std.proofs.Common.{eqb, Option, Some, None, refl, sym, ◌∙◌, ap, inl, inr, arith, leb, ◌↔◌}
use Rattle.std.specs.Prelude.{bit_and, bit_or}
use mathlib.Core.Bool.{beq}
use Rattle.std.proofs.lemmas.Bool.{cases_eq, le-leb, lt-ltb}
use Rattle.std.proofs.lemmas.Bool.{not-false, not_from_true, eq-eqb, eqb-true, leb-true, and_parts}
use Rattle.std.proofs.lemmas.Bool.Decides.{nat_tests}
use Rattle.node_expand.specs.declared.edge.Edge.{Edge}
use Rattle.node_expand.specs.declared.edge.Edge.TheVariants.{Free, Low, High, Both}
use Rattle.node_expand.specs.declared.allowed.Allowed.TheVariants.{Between, Agreeing}
use Rattle.node_expand.specs.Allowed.{answer_of}
use Rattle.node_expand.specs.Edges.{edge_with, same_edge, same_answer, is_change, is_cut, edge_step, AreEnds}
use Rattle.node_expand.specs.Edges.{AnswersWithin, AnswersAlike}
use Rattle.node_expand.specs.Laws.{CutsAreChanges, UncutBytesAnswerAlike}
use Rattle.list_lemmas.proofs.Tests.{and_false}
use Rattle.std.specs.Int.Bits.{and_zero_r}
use Rattle.std.proofs.lemmas.Nat.{and_mask, le_or_l}
use Rattle.list_lemmas.proofs.Agreeing.{none_from, test_of, last_agrees, agreeing_between, is_marked, MarkedNext}

-- an edge is itself
same_edge-refl : (edge : Edge) → same_edge edge edge ≡ true
same_edge-refl Free = refl
same_edge-refl Low = refl
same_edge-refl High = refl
same_edge-refl Both = refl

-- edges that pass as one are one
pub one_edge : (one other : Edge) → same_edge one other ≡ true → one ≡ other
one_edge Free Free is = refl
one_edge Low Low is = refl
one_edge High High is = refl
one_edge Both Both is = refl
one_edge _ _ is = cc

-- an answer is itself
same_answer-refl : (answer : Option Edge) → same_answer answer answer ≡ true
same_answer-refl None = refl
same_answer-refl (Some edge) = same_edge-refl edge

-- answers that pass as one are one
one_answer : (one other : Option Edge) → same_answer one other ≡ true → one ≡ other
one_answer None None is = refl
one_answer None (Some other) is = cc
one_answer (Some one) None is = cc
one_answer (Some one) (Some other) is = ap Some (one_edge one other is)

-- a bitmask's answer changes where the byte agrees and the byte before it doesn't, or the other way round
pub turns : (value mask byte : ℕ) → 0 < byte →
    not (beq (eqb (bit_and byte mask) value) (eqb (bit_and (byte - 1) mask) value))
    ≡ is_change (answer_of (Agreeing value mask)) byte
unfolding is_change answer_of
turns value mask byte above = grind (arith, nat_tests)

-- two answers that are one at a byte and at the one before it change alike
pub change_alike : (answer other : ℕ → Option Edge) (byte : ℕ) → answer byte ≡ other byte →
    answer (byte - 1) ≡ other (byte - 1) → is_change answer byte ≡ is_change other byte
unfolding is_change
change_alike answer other byte here before = rw (here, before) refl

-- where the bytes of one answer change
module _ (answer : ℕ → Option Edge) where
  -- the first byte is no change
  is_change_first : (byte : ℕ) → byte ≡ 0 → is_change answer byte ≡ false
  unfolding is_change
  is_change_first byte first = rw first refl

  -- after the first byte only the two answers count
  is_change_after : (byte : ℕ) → 0 < byte →
      is_change answer byte ≡ not (same_answer (answer byte) (answer (byte - 1)))
  unfolding is_change
  is_change_after byte later = rw (lt-ltb 0 byte later) refl

  -- a byte from 1 on is no change exactly if its answer is that of the byte before it
  changes : (byte : ℕ) → 0 < byte → (is_change answer byte ≡ false ↔ answer byte ≡ answer (byte - 1))
  changes byte later = rw (is_change_after byte later) (
    λ no. one_answer _ _ (not-false _ no),
    λ same. not_from_true _ (rw same (same_answer-refl _)),
  )

  -- bytes at which nothing changes have the answer of the byte before them
  unchanged_from : (first more : ℕ)
      → ((byte : ℕ) → first < byte → byte ≤ first + more → is_change answer byte ≡ false)
      → answer (first + more) ≡ answer first
  unchanged_from first zero same = let here : first + 0 ≡ first = omega arith in ap answer here
  unchanged_from first (suc more) same =
      let before : first + suc more - 1 ≡ first + more = omega arith in
      (changes (first + suc more) (omega arith)).0 (same (first + suc more) (omega arith) (omega arith))
      ∙ ap answer before ∙ unchanged_from first more (λ byte above below. same byte above (omega arith))

  -- without a change the answer at the last byte is that at the first
  unchanged : (first last : ℕ) → first ≤ last
      → ((byte : ℕ) → first < byte → byte ≤ last → is_change answer byte ≡ false) → answer last ≡ answer first
  unchanged first last ordered same =
      let e : first + (last - first) ≡ last = omega arith in
      sym (ap answer e) ∙ unchanged_from first (last - first) (λ byte above below. same byte above (omega arith))

  -- bytes without a change before the next one have one answer
  pub alike_until : (first last : ℕ) → first ≤ last
      → ((byte : ℕ) → first < byte → byte ≤ last → is_change answer byte ≡ false)
      → (last < 255 → is_change answer (last + 1) ≡ true) → AnswersAlike answer first last
  alike_until first last ordered same change = record {
    ordered = ordered;
    alike = λ byte above below. unchanged first byte above (λ other more less. same other more (omega arith));
    change = change;
  }

  -- nothing changes before the first answer, nor after the byte after the last one
  pub unchanged_outside : (first last byte : ℕ) → AreEnds answer first last → byte < 256
      → (0 < byte → first ≤ byte → byte ≤ last + 1 → ⊥) → is_change answer byte ≡ false
  unchanged_outside first last byte ends below never =
      let none : (other : ℕ) → other ≤ byte → byte ≤ other + 1 → 0 < byte → answer other ≡ None =
      λ other at_most near later. none_from (answer other) (λ some.
      (let within = ends.none_outside other (omega arith) some in
      never later (omega (arith, within.0)) (omega (arith, within.1)))) in
      elim (cases_eq byte 0) [
        | inl start ↦ is_change_first byte start
        | inr later ↦ (changes byte (omega arith)).1 (none byte (omega arith) (omega arith) (omega arith)
            ∙ sym (none (byte - 1) (omega arith) (omega arith) (omega arith)))
      ]

-- a byte from 1 on is no cut exactly if its answer is that of the byte before it
pub cuts_are_changes : CutsAreChanges
unfolding is_cut
cuts_are_changes value size place edge = changes (edge_step value size place edge)

-- bytes with no cut between them have one answer
pub uncut_alike : UncutBytesAnswerAlike
unfolding is_cut
uncut_alike value size place edge first last ordered uncut =
    sym (unchanged (edge_step value size place edge) first last ordered uncut)

-- what answers each byte the same has the same ends
module _ (answer other : ℕ → Option Edge) (first last : ℕ) (same : (byte : ℕ) → byte < 256 → answer byte ≡ other byte)
    (below : last < 256) where
  -- the ends of the one's answers are the ends of the other's
  pub ends_alike : AreEnds answer first last → AreEnds other first last
  ends_alike ends = record {
    first_answers = rw (← same first (omega (arith, ends.ordered))) ends.first_answers;
    last_answers = rw (← same last below) ends.last_answers;
    ordered = ends.ordered;
    none_outside = λ byte within some. ends.none_outside byte within (rw (same byte within) some);
  }

  -- there is an answer at each byte of the other between two ends if there is of the one
  pub within_alike : AnswersWithin answer first last → AnswersWithin other first last
  within_alike within byte above at_most = rw (← same byte (omega arith)) (within byte above at_most)

  -- and answers alike as far
  pub stays_alike : AnswersAlike answer first last → AnswersAlike other first last
  stays_alike alike = record {
    ordered = alike.ordered;
    alike = λ byte above at_most. sym (same byte (omega (arith, at_most, below)))
        ∙ alike.alike byte above at_most ∙ same first (omega (arith, alike.ordered, below));
    change = λ more. (
        let back : last + 1 - 1 ≡ last = omega arith in
        sym (change_alike answer other (last + 1) (same (last + 1) (omega (arith, more)))
        (ap answer back ∙ same last below ∙ sym (ap other back))) ∙ alike.change more);
  }

-- what the bytes between two ends answer
module _ (low high : ℕ) (low_inner high_inner : Bool) where
  -- between them the answer is the edge with what each end keeps
  answer_within : (byte : ℕ) → low ≤ byte → byte ≤ high →
      answer_of (Between low high low_inner high_inner) byte
      ≡ Some (edge_with (eqb byte low && low_inner) (eqb byte high && high_inner))
  unfolding answer_of
  answer_within byte above below = rw (le-leb low byte above, le-leb byte high below) refl

  -- each byte between the ends has an answer
  pub between_within : AnswersWithin (answer_of (Between low high low_inner high_inner)) low high
  between_within byte above below = rw (answer_within byte above below) refl

  -- the ends are the first and the last byte with an answer
  pub between_ends : low ≤ high → AreEnds (answer_of (Between low high low_inner high_inner)) low high
  unfolding answer_of
  between_ends filled = record {
    first_answers = between_within low (omega arith) filled;
    last_answers = between_within high filled (omega arith);
    ordered = filled;
    none_outside = λ byte below some. (let parts = and_parts _ _ (test_of (leb low byte && leb byte high) _ some) in
        (leb-true _ _ parts.0, leb-true _ _ parts.1));
  }

  -- the answer changes at the marks
  pub between_changes : (byte : ℕ) → low ≤ high → byte < 256 →
      is_change (answer_of (Between low high low_inner high_inner)) byte ≡ is_marked low high low_inner high_inner byte
  unfolding is_change answer_of
  between_changes byte filled below = grind (arith, nat_tests)

  -- the answer at a byte stays up to the one before the next mark
  pub alike_marks : (byte last : ℕ) → low ≤ high → last < 256 → MarkedNext low high low_inner high_inner byte last →
      AnswersAlike (answer_of (Between low high low_inner high_inner)) byte last
  alike_marks byte last filled fits next = alike_until _ byte last next.ordered
      (λ other above at_most. between_changes other filled (omega arith) ∙ next.unmarked other above at_most)
      (λ more. between_changes (last + 1) filled (omega arith) ∙ next.marked more)

-- the bytes that agree with a bitmask lie between the value and the value with all other bits set
pub agreeing_ends : (value mask : ℕ) → value < 256 → mask < 256 → bit_and value mask ≡ value →
    AreEnds (answer_of (Agreeing value mask)) value (bit_or value (255 - mask))
unfolding answer_of
agreeing_ends value mask value_fits mask_fits inside = record {
  first_answers = rw (eq-eqb (bit_and value mask) value inside) refl;
  last_answers = rw (eq-eqb (bit_and (bit_or value (255 - mask)) mask) value
      (last_agrees value mask value_fits mask_fits inside)) refl;
  ordered = le_or_l value (255 - mask);
  none_outside = λ byte below some. agreeing_between value mask value_fits mask_fits inside byte below
      (eqb-true (bit_and byte mask) value (test_of _ _ some));
}

-- where the mask has all bits a byte agrees where it is the value
pub whole_mask : (value byte : ℕ) → byte < 256
    → answer_of (Between value value false false) byte ≡ answer_of (Agreeing value 255) byte
unfolding answer_of
whole_mask value byte below =
    let same : bit_and byte 255 ≡ byte = and_mask byte 8 ∙ omega arith in
    let between : (leb value byte && leb byte value) ≡ eqb byte value = grind (arith, nat_tests) in
    rw (and_false (eqb byte value), same, between) refl

-- and where it has none all bytes agree, or none does
pub no_mask : (value byte : ℕ) → byte < 256 → AnswersAlike (answer_of (Agreeing value 0)) byte 255
unfolding answer_of
no_mask value byte below = record {
  ordered = omega (arith, below);
  alike = λ other above at_most.
      ap (λ n. cond (eqb n value) (Some Free) None) (and_zero_r other ∙ sym (and_zero_r byte));
  change = λ more. absurd (omega (arith, more));
}
