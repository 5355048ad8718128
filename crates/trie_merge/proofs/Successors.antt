-- Numbering the successors of one state, byte by byte.
use Rattle.std.proofs.Common.{◌≡◌, ℕ, ◌+◌, ◌<◌, ◌≤◌, List, [], ◌∷◌, ◌++◌, length, map, fold, take, get_or, Bool, true}
use Rattle.std.proofs.Common.{false, cond, not, refl, sym, ◌∙◌, ap, inl, inr, arith}
use Rattle.std.specs.Prelude.{nat_eq}
use Rattle.std.proofs.lemmas.List.{map_push, append_assoc, append-nil, take_all, length-append}
use Rattle.std.proofs.lemmas.List.Sums.{fold-append}
use Rattle.std.proofs.lemmas.Bool.{cases_Bool, ne_eqb, eq-eqb, not-false}
use Rattle.std.specs.Str.{bytes_eq}
use Rattle.state_parts.specs.declared.pieces.Piece.{Piece}
use Rattle.state_parts.specs.Pieces.{number_at, Covers}
use Rattle.state_parts.proofs.Offered.{RestIs, no_piece, piece_from, piece_small, piece_at, rest_on, rest_below}
use Rattle.state_parts.proofs.Offered.{rest_all, rest_some}
use Rattle.group_states.proofs.Offered.{is_new, found_grows, stays_found, goes_after, old_once_found, length-all_bytes}
use Rattle.group_states.proofs.Offered.{one_more_byte, some_runs, no_runs, all_runs, run_ends, run_goes_on}
use Rattle.group_states.specs.Found.{all_bytes}
use Rattle.group_states.specs.Levels.{same_succ, is_end, runs_of}
use Rattle.group_states.specs.declared.run.Run.{Run}
use Rattle.group_states.specs.declared.run.Succ.{Succ}
use Rattle.group_states.specs.declared.run.Succ.TheVariants.{Dead, State, Row}
use Rattle.group_states.specs.Lists.{succ_in}
use Rattle.group_states.specs.State.{is_live}
use Rattle.list_lemmas.proofs.Passing.{place_stays, carried_to}
use Rattle.trie_merge.specs.Numbers.{is_some_number, numbers_with, succ_of}

-- numbers make those that are found longer by as many at most
pub fold_long : (found numbers : List ℕ) → (length found ≤ length (fold numbers_with found numbers))
    × (length (fold numbers_with found numbers) ≤ length found + length numbers)
fold_long found [] = (omega arith, omega arith)
fold_long found (n ∷ numbers) =
    let more = fold_long (numbers_with found n) numbers in
    elim (cases_Bool (is_new nat_eq is_some_number found n)) [
      | inl new ↦
          let one = ap length (goes_after nat_eq is_some_number found n new) ∙ length-append found (n ∷ []) in
          (omega (arith, one, more.0), omega (arith, one, more.1))
      | inr old ↦
          let none = ap length (stays_found nat_eq is_some_number found n old) in
          (omega (arith, none, more.0), omega (arith, none, more.1))
    ]

-- what a list is reached as stays when others are found after
pub succ_stays : (is_last : Bool) (list : List ℕ) (found more : List (List ℕ))
    → is_new bytes_eq is_live found list ≡ false → succ_in is_last (found ++ more) list ≡ succ_in is_last found list
succ_stays is_last [] found more old = refl
succ_stays is_last (x ∷ xs) found more old = rw (place_stays bytes_eq (x ∷ xs) found more (not-false _ old)) refl

-- what a number is reached as stays when others are found after
number_stays : (is_last : Bool) (n : ℕ) (found more : List ℕ) → is_new nat_eq is_some_number found n ≡ false
    → succ_of is_last (found ++ more) n ≡ succ_of is_last found n
number_stays is_last n found more old = elim (cases_Bool (is_some_number n)) [
  | inl some ↦ rw (some, place_stays nat_eq n found more (not-false _ (rw some at old))) refl
  | inr none ↦ rw none refl
]

-- a run more where the next byte has another successor, and else none
one_more_run : (f : ℕ → Succ) (old_runs runs : List Run) (b : ℕ) (succ succ' : Succ) → b < 255
    → runs ≡ old_runs ++ some_runs f b → f b ≡ succ → f (b + 1) ≡ succ'
    → cond (same_succ succ succ') runs (runs ++ record { last = b; to = succ } ∷ []) ≡ old_runs ++ some_runs f (b + 1)
one_more_run f old_runs runs b succ succ' below before last here =
    let ends : is_end f b ≡ not (same_succ succ succ') = rw (ne_eqb b 255 (omega arith), last, here) refl in
    elim (cases_Bool (same_succ succ succ')) [
      | inl same ↦ rw (same, run_goes_on f b (omega arith) (ends ∙ ap not same)) before
      | inr other ↦
          rw (other, run_ends f b (omega arith) (ends ∙ ap not other), before, last)
          (append_assoc old_runs (some_runs f b) (record { last = b; to = succ } ∷ []))
    ]

-- a successor compares as one with itself
same_as_itself : (succ : Succ) → same_succ succ succ ≡ true
same_as_itself Dead = refl
same_as_itself (State number) = eq-eqb number number refl
same_as_itself (Row number) = eq-eqb number number refl

-- ---- joining the runs of a state's pieces

-- what a byte is reached as, among those found
abbrev reached_in : Bool → List Piece → List ℕ → ℕ → Succ
reached_in is_last pieces found byte = succ_of is_last found (number_at pieces byte)

-- The numbers of the bytes up to one are found, and the runs that end before it are there.
pub record Joined (is_last : Bool) (pieces : List Piece) (old : List ℕ) (old_runs : List Run) (keys : List ℕ)
    (runs : List Run) (succ : Succ) (b : ℕ) : Type 0 where
  pub found : keys ≡ fold numbers_with old (map (number_at pieces) (take (b + 1) all_bytes))
  pub known : is_new nat_eq is_some_number keys (number_at pieces b) ≡ false
  pub same : succ ≡ succ_of is_last keys (number_at pieces b)
  pub ended : (more : List ℕ) → runs ≡ old_runs ++ some_runs (reached_in is_last pieces (keys ++ more)) b
  pub room : length keys ≤ length old + b + 1

module _ {is_last : Bool} {pieces : List Piece} {old : List ℕ} {old_runs : List Run} where
  -- the first byte
  first_joined : {keys : List ℕ} {succ : Succ} → keys ≡ numbers_with old (number_at pieces 0)
      → succ ≡ succ_of is_last keys (number_at pieces 0) → Joined is_last pieces old old_runs keys old_runs succ 0
  first_joined is same = record {
    found = rw (one_more_byte 0 (omega arith)) is;
    known = rw is (old_once_found nat_eq is_some_number (λ n. eq-eqb n n refl) old (number_at pieces 0));
    same = same;
    ended = λ more. rw no_runs (sym (append-nil old_runs));
    room = omega (arith, ap length is, (fold_long old (number_at pieces 0 ∷ [])).1);
  }

  module _ {keys : List ℕ} {runs : List Run} {succ : Succ} where
    -- the next byte
    next_joined : {keys' : List ℕ} {runs' : List Run} {succ' : Succ} {b : ℕ} → b < 255
        → Joined is_last pieces old old_runs keys runs succ b → keys' ≡ numbers_with keys (number_at pieces (b + 1))
        → succ' ≡ succ_of is_last keys' (number_at pieces (b + 1))
        → runs' ≡ cond (same_succ succ succ') runs (runs ++ record { last = b; to = succ } ∷ [])
        → Joined is_last pieces old old_runs keys' runs' succ' (b + 1)
    next_joined {keys' = keys'} {succ' = succ'} {b = b} below joined is same ended =
        let n : ℕ = number_at pieces (b + 1) in
        let known : is_new nat_eq is_some_number keys' n ≡ false =
        rw is (old_once_found nat_eq is_some_number (λ m. eq-eqb m m refl) keys n) in
        let grown = found_grows nat_eq is_some_number keys (n ∷ []) in
        record {
          found = rw (
            one_more_byte (b + 1) (omega arith),
            map_push (number_at pieces) (take (b + 1) all_bytes) (b + 1),
            fold-append numbers_with old (map (number_at pieces) (take (b + 1) all_bytes)) (n ∷ []),
            ← joined.found,
          ) is;
          known = known;
          same = same;
          ended = λ more.
              let on : keys' ++ more ≡ keys ++ (grown.0 ++ more) = ap (λ f. f ++ more) (is ∙ grown.1)
              ∙ append_assoc keys grown.0 more in
              ended
              ∙ one_more_run (reached_in is_last pieces (keys' ++ more)) old_runs runs b succ succ' below
              (rw on (joined.ended (grown.0 ++ more)))
              (rw on (number_stays is_last (number_at pieces b) keys (grown.0 ++ more) joined.known ∙ sym joined.same))
              (number_stays is_last n keys' more known ∙ sym same);
          room = omega (arith, joined.room, ap length is, (fold_long keys (n ∷ [])).1);
        }

    -- all bytes of a piece, where its first one is joined, and what is left after them
    piece_joined : {k first : ℕ} → k < length pieces → RestIs pieces k first
        → (number_at pieces first ≡ (get_or pieces k no_piece).to
        → Joined is_last pieces old old_runs keys runs succ first)
        → Joined is_last pieces old old_runs keys runs succ (get_or pieces k no_piece).last
        × RestIs pieces (k + 1) ((get_or pieces k no_piece).last + 1)
    piece_joined {k = k} {first = first} within rest joined =
        let p : Piece = get_or pieces k no_piece in
        let below = rest_below pieces k first within rest in
        let from : first ≤ p.last = piece_from pieces k first below rest p refl in
        let at = piece_at pieces k first below rest p refl in (
          carried_to (Joined is_last pieces old old_runs keys runs succ) first p.last from
              (joined (at first (omega arith) from))
              (λ b above under before.
              let same : number_at pieces (b + 1) ≡ number_at pieces b =
              at (b + 1) (omega arith) (omega arith) ∙ sym (at b above (omega arith)) in
              next_joined (omega (arith, piece_small pieces k first below rest p refl)) before
              (sym (stays_found nat_eq is_some_number keys (number_at pieces (b + 1)) (rw same before.known)))
              (rw same before.same) (rw (same_as_itself succ) refl)),
          rw (eq-eqb p.last p.last refl) at (rest_on pieces k first below rest p refl p.last from (omega arith)),
        )

    -- the last run
    pub all_joined : Joined is_last pieces old old_runs keys runs succ 255
        → (keys ≡ fold numbers_with old (map (number_at pieces) all_bytes))
        × ((more : List ℕ) → runs ++ record { last = 255; to = succ } ∷ []
        ≡ old_runs ++ runs_of (reached_in is_last pieces (keys ++ more)))
    all_joined joined = (
      rw (take_all 256 all_bytes (omega (arith, length-all_bytes))) at joined.found,
      λ more.
          let f : ℕ → Succ = reached_in is_last pieces (keys ++ more) in
          let last : f 255 ≡ succ = number_stays is_last (number_at pieces 255) keys more joined.known
          ∙ sym joined.same in
          rw (joined.ended more, ← all_runs f 256 (omega arith), run_ends f 255 (omega arith) refl, last)
          (append_assoc old_runs (some_runs f 255) (record { last = 255; to = succ } ∷ [])),
    )

  -- the first piece
  pub first_piece : {keys : List ℕ} {succ : Succ} → Covers 0 pieces 256
      → keys ≡ numbers_with old (get_or pieces 0 no_piece).to
      → succ ≡ succ_of is_last keys (get_or pieces 0 no_piece).to
      → Joined is_last pieces old old_runs keys old_runs succ (get_or pieces 0 no_piece).last
      × RestIs pieces 1 ((get_or pieces 0 no_piece).last + 1)
  first_piece covers is same =
      let rest = rest_all pieces covers in
      let some : 0 < length pieces = rest_some pieces 0 0 (omega arith) rest in
      piece_joined some rest (λ at. first_joined (rw at is) (rw at same))

  -- the next one
  pub next_piece : {keys keys' : List ℕ} {runs runs' : List Run} {succ succ' : Succ} {k b : ℕ} → k < length pieces
      → Joined is_last pieces old old_runs keys runs succ b × RestIs pieces k (b + 1)
      → keys' ≡ numbers_with keys (get_or pieces k no_piece).to
      → succ' ≡ succ_of is_last keys' (get_or pieces k no_piece).to
      → runs' ≡ cond (same_succ succ succ') runs (runs ++ record { last = b; to = succ } ∷ [])
      → Joined is_last pieces old old_runs keys' runs' succ' (get_or pieces k no_piece).last
      × RestIs pieces (k + 1) ((get_or pieces k no_piece).last + 1)
  next_piece {k = k} {b = b} within (joined, rest) is same ended =
      piece_joined within rest (λ at.
      next_joined (omega (arith, rest_below pieces k (b + 1) within rest)) joined (rw at is) (rw at same) ended)
