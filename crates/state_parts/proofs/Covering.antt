-- Pieces of bytes, one after the other.
use Rattle.std.proofs.Common.{◌≡◌, ℕ, ◌+◌, ◌-◌, ◌<◌, ◌≤◌, List, [], ◌∷◌, ◌++◌, length, drop, cond, ◌==◌, refl, sym, ◌∙◌}
use Rattle.std.proofs.Common.{ap, subst, inl, inr, arith, Option, get_or, false}
use Rattle.std.proofs.lemmas.Bool.{cases_lt, le-leb, lt-leb, cases_eq, eq-eqb, ne_eqb}
use Rattle.std.proofs.lemmas.List.{drop_more, drop_all, get_or_append_left, length-append}
use Rattle.std.proofs.Math.Seq.{get_or-append_seam}
use Rattle.state_parts.specs.declared.pieces.Piece.{Piece}
use Rattle.state_parts.specs.declared.target.Target.{Target}
use Rattle.state_parts.specs.Keys.{KeyAt, same_pair}
use Rattle.state_parts.specs.Target.{count, Grows, JoinsIn, HasEntry, Leads}
use Rattle.state_parts.specs.Pieces.{number_at, AreApart, Covers, PiecesLead, Pushed, Merges}
pub use Rattle.state_parts.specs.Pieces.{no_piece}
use Rattle.state_parts.proofs.Leading.{count_grows, grows_on, leads_grow, PairLeads, pair_is_led}

-- pieces don't end before they begin
pub covers_rise : (first end : ℕ) (pieces : List Piece) → Covers first pieces end → first ≤ end
covers_rise first end [] is = omega (arith, is)
covers_rise first end (p ∷ ps) is = omega (arith, is.0, covers_rise (p.last + 1) end ps is.1)

-- a byte of the first piece, and one after it
pub at_first : (p : Piece) (ps : List Piece) (byte : ℕ) → byte ≤ p.last → number_at (p ∷ ps) byte ≡ p.to
at_first p ps byte within = ap (λ b. cond b p.to (number_at ps byte)) (le-leb byte p.last within)

-- a byte after the first piece leads where the later pieces say
pub at_later : (p : Piece) (ps : List Piece) (byte : ℕ) → p.last < byte → number_at (p ∷ ps) byte ≡ number_at ps byte
at_later p ps byte after = ap (λ b. cond b p.to (number_at ps byte)) (lt-leb byte p.last after)

-- one more piece covers the bytes up to its last one
pub covers_push : (first end last to : ℕ) (pieces : List Piece) → Covers first pieces end → end ≤ last
    → Covers first (pieces ++ record { last = last; to = to } ∷ []) (last + 1)
covers_push first end last to [] is after = (omega (arith, is, after), refl)
covers_push first end last to (p ∷ ps) is after = (is.0, covers_push (p.last + 1) end last to ps is.1 after)

-- bytes of the pieces are what they were when more pieces come after, and the others are those of the new pieces
pub at_before : (first end byte : ℕ) (pieces more : List Piece) → Covers first pieces end → first ≤ byte → byte < end
    → number_at (pieces ++ more) byte ≡ number_at pieces byte
at_before first end byte [] more is from below = absurd (omega (arith, is, from, below))
at_before first end byte (p ∷ ps) more is from below = elim (cases_lt p.last byte) [
  | inl after ↦
      at_later p (ps ++ more) byte after
      ∙ at_before (p.last + 1) end byte ps more is.1 (omega (arith, after)) below
      ∙ sym (at_later p ps byte after)
  | inr within ↦ at_first p (ps ++ more) byte within ∙ sym (at_first p ps byte within)
]

-- a byte after some pieces leads where the pieces after them say
pub at_after : (first end byte : ℕ) (pieces more : List Piece) → Covers first pieces end → end ≤ byte
    → number_at (pieces ++ more) byte ≡ number_at more byte
at_after first end byte [] more is after = refl
at_after first end byte (p ∷ ps) more is after =
    at_later p (ps ++ more) byte (omega (arith, covers_rise (p.last + 1) end ps is.1, after))
    ∙ at_after (p.last + 1) end byte ps more is.1 after

-- the pieces don't end with one that leads to the number
abbrev pub EndsElsewhere : List Piece → ℕ → Type 0
EndsElsewhere pieces to = 0 < length pieces → ((get_or pieces (length pieces - 1) no_piece).to == to) ≡ false

-- a piece after the others stands apart if the last of them leads elsewhere
apart_after : (pieces : List Piece) (p : Piece) → EndsElsewhere pieces p.to → AreApart pieces →
    AreApart (pieces ++ p ∷ [])
apart_after pieces p elsewhere apart k within = elim (cases_lt (k + 1) (length pieces)) [
  | inl early ↦
      rw (
        get_or_append_left pieces (p ∷ []) no_piece k (omega (arith, early)),
        get_or_append_left pieces (p ∷ []) no_piece (k + 1) early,
      )
      (apart k early)
  | inr late ↦
      let end : k + 1 ≡ length pieces = omega (arith, within, late, length-append pieces (p ∷ [])) in
      let seam : get_or (pieces ++ p ∷ []) (k + 1) no_piece ≡ p =
      ap (λ n. get_or (pieces ++ p ∷ []) n no_piece) end ∙ get_or-append_seam pieces p [] no_piece in
      let before : length pieces - 1 ≡ k = omega (arith, end) in
      rw (get_or_append_left pieces (p ∷ []) no_piece k (omega (arith, end)), seam)
      (subst (λ n. ((get_or pieces n no_piece).to == p.to) ≡ false) before (elsewhere (omega (arith, end))))
]

-- a last piece in the place of one that leads to the same number leaves each place leading where it led
same_number : (rest : List Piece) (one other : Piece) → one.to ≡ other.to → (k : ℕ) →
    k < length (rest ++ one ∷ []) →
    (get_or (rest ++ other ∷ []) k no_piece).to ≡ (get_or (rest ++ one ∷ []) k no_piece).to
same_number rest one other same k within = elim (cases_lt k (length rest)) [
  | inl early ↦
      ap (λ (p : Piece). p.to) (get_or_append_left rest (other ∷ []) no_piece k early)
      ∙ sym (ap (λ (p : Piece). p.to) (get_or_append_left rest (one ∷ []) no_piece k early))
  | inr late ↦
      let end : k ≡ length rest = omega (arith, within, late, length-append rest (one ∷ [])) in
      ap (λ n. (get_or (rest ++ other ∷ []) n no_piece).to) end
      ∙ ap (λ (p : Piece). p.to) (get_or-append_seam rest other [] no_piece)
      ∙ sym same
      ∙ sym (ap (λ (p : Piece). p.to) (get_or-append_seam rest one [] no_piece))
      ∙ sym (ap (λ n. (get_or (rest ++ one ∷ []) n no_piece).to) end)
]

-- so pieces that are apart stay so
apart_within : (rest : List Piece) (one other : Piece) → one.to ≡ other.to → AreApart (rest ++ one ∷ []) →
    AreApart (rest ++ other ∷ [])
apart_within rest one other same apart k within =
    let below : k + 1 < length (rest ++ one ∷ []) =
    omega (arith, within, length-append rest (one ∷ []), length-append rest (other ∷ [])) in
    rw (same_number rest one other same k (omega (arith, below)), same_number rest one other same (k + 1) below)
    (apart k below)

-- one more piece leads further bytes to its number
pub pushed_after : (pieces : List Piece) (last to : ℕ)
    → EndsElsewhere pieces to
    → Pushed pieces (pieces ++ record { last = last; to = to } ∷ []) last to
pushed_after pieces last to elsewhere = record {
  apart = apart_after pieces (record { last = last; to = to }) elsewhere;
  covers = λ first is after. covers_push 0 first last to pieces is after;
  before = λ first byte is after below.
      at_before 0 first byte pieces (record { last = last; to = to } ∷ []) is (omega arith) below;
  here = λ first byte is from within.
      at_after 0 first byte pieces (record { last = last; to = to } ∷ []) is from
      ∙ at_first (record { last = last; to = to }) [] byte within;
}

-- all pieces but the last
covers_all_but : (first end : ℕ) (pieces : List Piece) (p : Piece) → Covers first (pieces ++ p ∷ []) end
    → (start : ℕ) × Covers first pieces start × (start ≤ p.last) × (p.last + 1 ≡ end)
covers_all_but first end [] p is = (first, refl, is.0, is.1)
covers_all_but first end (q ∷ qs) p is =
    let rest = covers_all_but (q.last + 1) end qs p is.1 in (rest.0, (is.0, rest.1), rest.2, rest.3)

-- a last piece with the number leads further bytes to it if it is made longer
pub pushed_within : (pieces : List Piece) (p : Piece) (last to : ℕ) → p.to ≡ to
    → Pushed (pieces ++ p ∷ []) (pieces ++ record { last = last; to = to } ∷ []) last to
pushed_within pieces p last to same = record {
  apart = apart_within pieces p (record { last = last; to = to }) same;
  covers = λ first is after.
      (let all = covers_all_but 0 first pieces p is in
      covers_push 0 all.0 last to pieces all.1 (omega (arith, all.2, all.3, after)));
  before = λ first byte is after below.
      (let all = covers_all_but 0 first pieces p is in
      elim (cases_lt byte all.0) [
        | inl early ↦
            at_before 0 all.0 byte pieces (record { last = last; to = to } ∷ []) all.1 (omega arith) early
            ∙ sym (at_before 0 all.0 byte pieces (p ∷ []) all.1 (omega arith) early)
        | inr late ↦
            at_after 0 all.0 byte pieces (record { last = last; to = to } ∷ []) all.1 late
            ∙ at_first (record { last = last; to = to }) [] byte (omega (arith, all.3, after, below))
            ∙ sym same
            ∙ sym (at_after 0 all.0 byte pieces (p ∷ []) all.1 late
            ∙ at_first p [] byte (omega (arith, all.3, below)))
      ]);
  here = λ first byte is from within.
      (let all = covers_all_but 0 first pieces p is in
      at_after 0 all.0 byte pieces (record { last = last; to = to } ∷ []) all.1 (omega (arith, all.2, all.3, from))
      ∙ at_first (record { last = last; to = to }) [] byte within);
}

-- ---- one side of a merge

-- The pieces from a place on are those of the bytes from one on.
pub record RestIs (pieces : List Piece) (place first : ℕ) : Type 0 where
  pub covers : Covers first (drop place pieces) 256
  pub same : (byte : ℕ) → first ≤ byte → number_at (drop place pieces) byte ≡ number_at pieces byte

-- from the first place on the pieces are those of all bytes
pub rest_all : (pieces : List Piece) → Covers 0 pieces 256 → RestIs pieces 0 0
rest_all pieces is = record { covers = is; same = λ byte from. refl }

-- a piece in the place of one that isn't there

-- there is a piece before the end
pub rest_some : (pieces : List Piece) (place first : ℕ) → first < 256 → RestIs pieces place first →
    place < length pieces
rest_some pieces place first below rest = elim (cases_lt place (length pieces)) [
  | inl within ↦ within
  | inr past ↦
      let none : drop place pieces ≡ [] = drop_all place pieces past in
      let end : first ≡ 256 = subst (λ ps. Covers first ps 256) none rest.covers in
      absurd (omega (arith, below, end))
]

-- a piece begins before the end
pub rest_below : (pieces : List Piece) (place first : ℕ) → place < length pieces → RestIs pieces place first
    → first < 256
rest_below pieces place first within rest =
    let its : Covers first (get_or pieces place no_piece ∷ drop (place + 1) pieces) 256 =
    subst (λ ps. Covers first ps 256) (drop_more pieces place no_piece within) rest.covers in
    omega (arith, its.0, covers_rise ((get_or pieces place no_piece).last + 1) 256 (drop (place + 1) pieces) its.1)

-- and none at the end
pub rest_end : (pieces : List Piece) (place first : ℕ) → length pieces ≤ place → RestIs pieces place first
    → first ≡ 256
rest_end pieces place first past rest = subst (λ ps. Covers first ps 256) (drop_all place pieces past) rest.covers

module _ (pieces : List Piece) (place first : ℕ) (below : first < 256) (rest : RestIs pieces place first) (p : Piece)
    (is : p ≡ get_or pieces place no_piece) where
  -- the pieces from the place on are the one there and those after it
  piece_first : drop place pieces ≡ p ∷ drop (place + 1) pieces
  piece_first = drop_more pieces place no_piece (rest_some pieces place first below rest)
      ∙ ap (λ q. q ∷ drop (place + 1) pieces) (sym is)

  -- these pieces cover the bytes from the first one on
  covers_piece : Covers first (p ∷ drop (place + 1) pieces) 256
  covers_piece = subst (λ ps. Covers first ps 256) piece_first rest.covers

  -- which has the byte
  pub piece_from : first ≤ p.last
  piece_from = covers_piece.0

  -- the piece ends with a byte
  pub piece_small : p.last < 256
  piece_small = omega (arith, covers_rise (p.last + 1) 256 (drop (place + 1) pieces) covers_piece.1)

  -- the bytes up to the piece's last one lead where it says
  pub piece_at : (byte : ℕ) → first ≤ byte → byte ≤ p.last → number_at pieces byte ≡ p.to
  piece_at byte from within =
      sym (rest.same byte from) ∙ ap (λ ps. number_at ps byte) piece_first
      ∙ at_first p (drop (place + 1) pieces) byte within

  -- what is left after some of its bytes
  pub rest_on : (last : ℕ) → first ≤ last → last ≤ p.last
      → RestIs pieces (cond (p.last == last) (place + 1) place) (last + 1)
  rest_on last from within = elim (cases_eq p.last last) [
    | inl e ↦
        subst (λ b. RestIs pieces (cond b (place + 1) place) (last + 1)) (sym (eq-eqb p.last last e))
        (record {
          covers = subst (λ n. Covers (n + 1) (drop (place + 1) pieces) 256) e covers_piece.1;
          same = λ byte after.
              sym (at_later p (drop (place + 1) pieces) byte (omega (arith, e, after)))
              ∙ sym (ap (λ ps. number_at ps byte) piece_first)
              ∙ rest.same byte (omega (arith, from, after));
        })
    | inr other ↦
        subst (λ b. RestIs pieces (cond b (place + 1) place) (last + 1)) (sym (ne_eqb p.last last other))
        (record {
          covers = subst (λ ps. Covers (last + 1) ps 256) (sym piece_first)
              (omega (arith, within, other), covers_piece.1);
          same = λ byte after. rest.same byte (omega (arith, from, after));
        })
  ]

-- ---- the merge

-- The pieces of the bytes before one are those of the pair.
pub record Merged (old now : Target) (one other pieces : List Piece) (i j first : ℕ) : Type 0 where
  pub grows : Grows old now
  pub entries : (entry : ℕ) → HasEntry now entry → HasEntry old entry
  pub left : RestIs one i first
  pub right : RestIs other j first
  pub covers : Covers 0 pieces first
  pub apart : AreApart pieces
  pub leads : (step : ℕ → ℕ → Option ℕ) (pairs : List (ℕ × ℕ)) (a b part : ℕ) → KeyAt same_pair pairs (a, b) part →
      0 < a → 0 < b → PiecesLead step pairs old a one → PiecesLead step pairs old b other →
      (byte : ℕ) → byte < first → Leads (step byte) pairs now part (number_at pieces byte)

-- The target has grown, by no entries, and has the number that stands for two together.
pub record HasJoined (now new : Target) (mine its to : ℕ) : Type 0 where
  pub grows : Grows now new
  pub entries : (entry : ℕ) → HasEntry new entry → HasEntry now entry
  pub joins : JoinsIn new mine its to
  pub within : to ≤ count new

module _ {old now : Target} {one other pieces : List Piece} {i j first : ℕ} (below : first < 256)
    (so_far : Merged old now one other pieces i j first) where
  -- the piece of the one list that has the first byte
  abbrev mine : Piece
  mine = get_or one i no_piece

  -- and that of the other list
  abbrev its : Piece
  its = get_or other j no_piece

  -- neither ends before that byte
  pub left_from : first ≤ mine.last
  left_from = piece_from one i first below so_far.left mine refl

  -- the piece doesn't end before the byte
  pub right_from : first ≤ its.last
  right_from = piece_from other j first below so_far.right its refl

  -- the numbers of both are there
  pub left_within : ((byte : ℕ) → byte < 256 → number_at one byte ≤ count old) → mine.to ≤ count now
  left_within all =
      omega (
        arith,
        all first below,
        piece_at one i first below so_far.left mine refl first (omega arith) left_from,
        count_grows old now so_far.grows,
      )

  -- the number to which the piece leads is there
  pub right_within : ((byte : ℕ) → byte < 256 → number_at other byte ≤ count old) → its.to ≤ count now
  right_within all =
      omega (
        arith,
        all first below,
        piece_at other j first below so_far.right its refl first (omega arith) right_from,
        count_grows old now so_far.grows,
      )

  -- the numbers of both pieces are joined, and those of the bytes up to the last are that of both
  pub one_merged : {new : Target} {pieces' : List Piece} {last to : ℕ} → first ≤ last → last ≤ mine.last →
      last ≤ its.last → HasJoined now new mine.to its.to to → Pushed pieces pieces' last to →
      Merged old new one other pieces' (cond (mine.last == last) (i + 1) i) (cond (its.last == last) (j + 1) j)
      (last + 1)
  one_merged {new} {pieces'} {last} {to} from in_mine in_its joined pushed = record {
    grows = grows_on old now new so_far.grows joined.grows;
    entries = λ entry has. so_far.entries entry (joined.entries entry has);
    left = rest_on one i first below so_far.left mine refl last from in_mine;
    right = rest_on other j first below so_far.right its refl last from in_its;
    covers = pushed.covers first so_far.covers from;
    apart = pushed.apart so_far.apart;
    leads = λ step pairs a b part at some more lead_a lead_b byte under. elim (cases_lt byte first) [
      | inl early ↦
          subst (Leads (step byte) pairs new part) (sym (pushed.before first byte so_far.covers from early))
          (leads_grow (step byte) pairs now new part (number_at pieces byte) joined.grows
          (so_far.leads step pairs a b part at some more lead_a lead_b byte early))
      | inr late ↦
          let all : Grows old new = grows_on old now new so_far.grows joined.grows in
          let small : byte < 256 = omega (arith, under, in_mine, piece_small one i first below so_far.left mine refl) in
          let mine_at = piece_at one i first below so_far.left mine refl byte late (omega (arith, under, in_mine)) in
          let its_at = piece_at other j first below so_far.right its refl byte late (omega (arith, under, in_its)) in
          let leads : PairLeads (step byte) pairs new part to a b mine.to its.to =
          record {
            pair = record { some = some; more = more; at = at };
            left = leads_grow (step byte) pairs old new a mine.to all
                (subst (Leads (step byte) pairs old a) mine_at (lead_a byte small));
            right = leads_grow (step byte) pairs old new b its.to all
                (subst (Leads (step byte) pairs old b) its_at (lead_b byte small));
            joins = joined.joins;
          } in
          subst (Leads (step byte) pairs new part)
          (sym (pushed.here first byte so_far.covers late (omega (arith, under))))
          (pair_is_led (step byte) pairs new part to leads joined.within)
    ];
  }

-- at the end the pieces are those of the pair
pub all_merged : {old now : Target} {one other pieces : List Piece} {i j first : ℕ} → 256 ≤ first
    → Merged old now one other pieces i j first → Merges old now one other pieces
all_merged {one = one} {pieces = pieces} {i = i} {first = first} end so_far =
    let last : first ≡ 256 = omega (arith, end, covers_rise first 256 (drop i one) so_far.left.covers) in
    record {
      grows = so_far.grows;
      entries = so_far.entries;
      covers = subst (Covers 0 pieces) last so_far.covers;
      apart = so_far.apart;
      leads = λ step pairs a b part at some more lead_a lead_b byte below.
          so_far.leads step pairs a b part at some more lead_a lead_b byte (omega (arith, below, last));
    }
