-- The runs of the bytes of one state.
use Rattle.std.proofs.Common.{◌≡◌, ℕ, zero, suc, ◌+◌, ◌<◌, ◌≤◌, ◌==◌, List, [], ◌∷◌, ◌++◌, length, map, take}
use Rattle.std.proofs.Common.{filter, get_or, true, false, cond, not, ◌||◌, refl, sym, ◌∙◌, ap, inl, inr, arith}
use Rattle.std.proofs.lemmas.List.{take_more, append-nil, map-append, take_all}
use Rattle.std.proofs.lemmas.List.FromFn.{length-range_with_len, get_or-range_with_len}
use Rattle.std.proofs.lemmas.List.Elements.{filter-append}
use Rattle.std.proofs.lemmas.Bool.{cases_Bool, cases_eq, eq-eqb}
use Rattle.group_states.specs.Found.{all_bytes}
use Rattle.group_states.specs.Levels.{same_succ, is_end, runs_of}
use Rattle.group_states.specs.declared.run.Run.{Run}
use Rattle.group_states.specs.declared.run.Succ.{Succ}

-- there are 256 bytes
pub length-all_bytes : length all_bytes ≡ 256
unfolding all_bytes
length-all_bytes = length-range_with_len 0 256

-- the byte at a place of all bytes is the place
pub byte_at : (byte d : ℕ) → byte < 256 → get_or all_bytes byte d ≡ byte
unfolding all_bytes
byte_at byte d below = get_or-range_with_len 0 256 byte d below ∙ omega arith

-- the first bytes up to one are those before it, and then it
pub one_more_byte : (byte : ℕ) → byte < 256 → take (byte + 1) all_bytes ≡ take byte all_bytes ++ byte ∷ []
one_more_byte byte below =
    take_more all_bytes byte 0 (rw length-all_bytes below)
    ∙ ap (λ b. take byte all_bytes ++ b ∷ []) (byte_at byte 0 below)

-- the runs so far, and one more byte
run_at : (ℕ → Succ) → ℕ → Run
run_at succ byte = record { last = byte; to = succ byte }

-- the runs that end before a byte
pub some_runs : (ℕ → Succ) → ℕ → List Run
some_runs succ byte = map (run_at succ) (filter (is_end succ) (take byte all_bytes))

-- no run ends before byte 0
pub no_runs : (succ : ℕ → Succ) → some_runs succ 0 ≡ []
unfolding some_runs
no_runs succ = refl

-- each run ends before byte 256
pub all_runs : (succ : ℕ → Succ) (byte : ℕ) → 256 ≤ byte → some_runs succ byte ≡ runs_of succ
unfolding some_runs run_at runs_of
all_runs succ byte enough =
    ap (λ bytes. map (run_at succ) (filter (is_end succ) bytes))
    (take_all byte all_bytes (omega (arith, length-all_bytes)))

module _ (succ : ℕ → Succ) (byte : ℕ) (below : byte < 256) where
  -- one more byte adds the run that ends with it, if one does
  both : some_runs succ (byte + 1) ≡ some_runs succ byte ++ map (run_at succ) (filter (is_end succ) (byte ∷ []))
  unfolding some_runs
  both =
      ap (λ bytes. map (run_at succ) (filter (is_end succ) bytes)) (one_more_byte byte below)
      ∙ ap (map (run_at succ)) (filter-append (is_end succ) (take byte all_bytes) (byte ∷ []))
      ∙ map-append (run_at succ) (filter (is_end succ) (take byte all_bytes)) (filter (is_end succ) (byte ∷ []))

  -- a byte that ends a run adds the run
  pub run_ends : is_end succ byte ≡ true
      → some_runs succ (byte + 1) ≡ some_runs succ byte ++ record { last = byte; to = succ byte } ∷ []
  unfolding run_at
  run_ends is = both ∙ ap (λ b. some_runs succ byte ++ map (run_at succ) (cond b (byte ∷ []) [])) is

  -- a byte that ends no run adds none
  pub run_goes_on : is_end succ byte ≡ false → some_runs succ (byte + 1) ≡ some_runs succ byte
  run_goes_on is = both ∙ ap (λ b. some_runs succ byte ++ map (run_at succ) (cond b (byte ∷ []) [])) is
      ∙ append-nil (some_runs succ byte)

-- successors that agree on bytes have the same runs
module _ (f g : ℕ → Succ) (same : (byte : ℕ) → byte < 256 → f byte ≡ g byte) where
  -- runs end with the same bytes
  same_end : (byte : ℕ) → byte < 256 → is_end f byte ≡ is_end g byte
  same_end byte below = elim (cases_eq byte 255) [
    | inl e ↦ ap (λ b. b || not (same_succ (f byte) (f (byte + 1)))) (eq-eqb byte 255 e)
        ∙ sym (ap (λ b. b || not (same_succ (g byte) (g (byte + 1)))) (eq-eqb byte 255 e))
    | inr other ↦ λ i. byte == 255 || not (same_succ (same byte below i) (same (byte + 1) (omega (arith, other)) i))
  ]

  -- the runs that end before a byte are the same
  same_some : (byte : ℕ) → byte ≤ 256 → some_runs f byte ≡ some_runs g byte
  same_some zero within = no_runs f ∙ sym (no_runs g)
  same_some (suc byte) within =
      let next : suc byte ≡ byte + 1 = omega arith in
      let below : byte < 256 = omega arith in
      let before = same_some byte (omega arith) in
      rw next (elim (cases_Bool (is_end f byte)) [
        | inl ends ↦
            run_ends f byte below ends
            ∙ (λ i. before i ++ record { last = byte; to = same byte below i } ∷ [])
            ∙ sym (run_ends g byte below (sym (same_end byte below) ∙ ends))
        | inr goes ↦ run_goes_on f byte below goes ∙ before
            ∙ sym (run_goes_on g byte below (sym (same_end byte below) ∙ goes))
      ])

  -- all runs are the same
  pub same_runs : runs_of f ≡ runs_of g
  same_runs = sym (all_runs f 256 (omega arith)) ∙ same_some 256 (omega arith) ∙ all_runs g 256 (omega arith)
