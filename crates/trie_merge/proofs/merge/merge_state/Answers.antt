use Rattle.std.proofs.Common.{◌≡◌, ℕ, Bool, List, ◌+◌, ◌-◌, ◌++◌, ◌∷◌, [], length, refl, ap, arith, length-append}
use Rattle.std.proofs.lemmas.List.{append-nil}
use Rattle.state_parts.specs.declared.pieces.Piece.{Piece}
use Rattle.state_parts.specs.Pieces.{number_at}
use Rattle.state_parts.specs.Slices.{pieces_of, IsPieces}
use Rattle.state_parts.proofs.Offered.{pieces-push, IsPieces-push}
use Rattle.group_states.specs.Levels.{runs_of}
use Rattle.group_states.specs.declared.run.Run.{Run}
use Rattle.trie_merge.proofs.merge.merge_state.Goals as goal
use Rattle.trie_merge.proofs.Leads.{step_at}
use Rattle.trie_merge.specs.Numbers.{succ_of}
use Rattle.trie_merge.specs.declared.cuts.Cuts.{Cuts}

-- the runs of the pieces
abbrev runs_by : Bool → List ℕ → List Piece → List Run
runs_by is_last found pieces = runs_of (λ byte. succ_of is_last found (number_at pieces byte))

-- they stand after the others, and end where it is said
module _ (is_last : Bool) (found : List ℕ) (pieces : List Piece) (old new : List Run)
    (is : (more : List ℕ) → new ≡ old ++ runs_of (λ byte. succ_of is_last (found ++ more) (number_at pieces byte)))
  where
    runs_stand : new ≡ old ++ runs_by is_last found pieces
    runs_stand = rw append-nil at (is [])

    runs_long : length new ≡ length old + length (runs_by is_last found pieces)
    runs_long = omega (arith, ap length runs_stand, length-append old (runs_by is_last found pieces))

    runs_apart : (ends ends' : List ℕ) (start end : ℕ) → start ≡ length old → end ≡ length new
        → ends' ≡ ends ++ end ∷ [] → IsPieces 0 ends (length old)
        → (pieces_of new 0 ends' ≡ pieces_of old 0 ends ++ runs_by is_last found pieces ∷ [])
        × IsPieces 0 ends' (length new) × (end - start ≡ length (runs_by is_last found pieces))
    runs_apart ends ends' start end from at ended were =
        let its : List Run = runs_by is_last found pieces in
        let long : end - start ≡ length its = omega (arith, from, at, runs_long) in
        rw (ended, long, at, runs_long, runs_stand)
        (pieces-push old its 0 ends were, rw length-append at (IsPieces-push old its 0 ends were), refl)

pub overflow_sub-end : goal.overflow_sub-end
overflow_sub-end c =
    omega (
      arith,
      c.len-start.ensures,
      c.len-end.ensures,
      c.args.progress.now.merged.pieces.runs.ok,
      c.join_runs.new.runs.ok,
      runs_long _ _ _ _ _ c.in_ok-join_runs.ensures.runs,
    )

pub join_runs-requires-clause-room : goal.join_runs-requires-clause-room
join_runs-requires-clause-room c = omega (arith, c.requires.ready.few, c.requires.within)

pub returns : goal.returns
returns c =
    let old = c.args.progress.now.merged.pieces in
    let led = c.in_ok-lead_parts.ensures in
    let apart = runs_apart _ _ _ _ _ c.in_ok-join_runs.ensures.runs old.ends.items _ c.len-start.result
    c.len-end.result (omega (arith, c.len-start.ensures, old.runs.ok))
    (omega (arith, c.len-end.ensures, c.join_runs.new.runs.ok)) c.in_ok-push.ensures.items c.requires.ready.pieces in
    record {
      led = led.led;
      merged = record {
        pieces = c.pieces-its.result.now;
        leads = rw c.pieces-its.ensures (step_at led.led.led c.args.state c.requires.number.0 led.far);
        finds = c.in_ok-join_runs.ensures.found;
        its_runs = apart.0;
        its_words = rw (← apart.2, ← c.cost_of.ensures.cost) refl;
        are_pieces = apart.1;
      };
      cuts = refl {A = List Cuts};
      least = refl;
    }
