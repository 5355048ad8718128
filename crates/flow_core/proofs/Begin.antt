-- A machine that begins: the rows of the keys were made zero, no job is given out, and all slots are empty.
use Rattle.std.proofs.Common.{◌≡◌, ℕ, ◌*◌, List, ap, ◌∙◌, arith, length, take, replicate}
use Rattle.std.specs.Prelude.{None, IfSome}
use Rattle.std.proofs.lemmas.List.{take_at, length-replicate}
use Rattle.std.proofs.lemmas.List.Elements.{All-replicate}
use Rattle.flat_table.specs.Table.{TableView}
use Rattle.flat_table.specs.Batch.{keys_in}
use Rattle.flow_core.specs.Rows.{zero_row, cleared}
use Rattle.flow_core.specs.Machine.{Machine, state_of, first_state}
use Rattle.flow_core.specs.Standing.{BatchFits, IsOnWay, StandsOver}
use Rattle.flow_core.proofs.Clear.{cleared_len}

-- the numbers of keys and tries that the code works out, and the rows that it made zero
pub record Begins (table : TableView) (keys : List ℕ) (n tries : ℕ) (old rows : List (List ℕ)) : Type 0 where
  pub keys_are : n ≡ keys_in table keys
  pub tries_are : tries ≡ length table.roots
  pub rows_are : rows ≡ cleared n old

-- the machine that is made of these
abbrev made : ℕ → ℕ → ℕ → Machine
made n tries width = record { jobs = n * tries; given = 0; slots = replicate width None }

module _ (table : TableView) (keys : List ℕ) {n tries : ℕ} {old rows : List (List ℕ)}
    (b : Begins table keys n tries old rows) where
  -- the rows are the old ones with those of the keys made zero
  pub begun_rows : rows ≡ cleared (keys_in table keys) old
  begun_rows = b.rows_are ∙ ap (λ (k : ℕ). cleared k old) b.keys_are

  -- the rows of the keys are zero
  rows_zero : take (keys_in table keys) rows ≡ replicate (keys_in table keys) zero_row
  rows_zero =
      ap (λ (them : List (List ℕ)). take (keys_in table keys) them) begun_rows
      ∙ take_at (replicate (keys_in table keys) zero_row) _ (keys_in table keys)
      (length-replicate (keys_in table keys) zero_row)

  -- the machine is in its first state
  pub begun_state : (width : ℕ) → state_of table keys (made n tries width) rows ≡ first_state table keys width
  begun_state width = λ i. record {
    machine = record { jobs = b.keys_are i * b.tries_are i; given = 0; slots = replicate width None };
    rows = rows_zero i;
  }

  -- the machine stands over the batch
  pub begun_stands : (width : ℕ) → BatchFits table keys (length old) →
      StandsOver table keys (made n tries width) (length rows)
  begun_stands width fits = record {
    jobs = λ i. b.keys_are i * b.tries_are i;
    fits = record {
      whole = fits.whole;
      few = fits.few;
      room = omega (
        arith,
        fits.room,
        ap (λ (them : List (List ℕ)). length them) b.rows_are,
        cleared_len n old (omega (arith, fits.room, b.keys_are)),
        b.keys_are,
      );
    };
    flights = All-replicate (λ held. IfSome held (IsOnWay table keys 0)) width None tt;
  }
