use Rattle.std.proofs.Common.{ℕ, ◌/◌, ap, length}
use Rattle.flow_core.proofs.Begin.{begun_state, begun_rows, begun_stands}
use Rattle.flow_core.proofs.flows.Flows.begin.Goals as goal

pub returns-clause-state : goal.returns-clause-state
returns-clause-state g c = begun_state c.args.table.now c.args.keys.now record {
  keys_are = ap (λ (k : ℕ). length c.args.keys.now / k) c.key_len.ensures.value;
  tries_are = c.tries.ensures.value;
  rows_are = c.clear.ensures;
} g.row.W

pub returns-clause-rows : goal.returns-clause-rows
returns-clause-rows g c = begun_rows c.args.table.now c.args.keys.now record {
  keys_are = ap (λ (k : ℕ). length c.args.keys.now / k) c.key_len.ensures.value;
  tries_are = c.tries.ensures.value;
  rows_are = c.clear.ensures;
}

pub returns-clause-stands : goal.returns-clause-stands
returns-clause-stands g c = begun_stands c.args.table.now c.args.keys.now record {
  keys_are = ap (λ (k : ℕ). length c.args.keys.now / k) c.key_len.ensures.value;
  tries_are = c.tries.ensures.value;
  rows_are = c.clear.ensures;
} g.row.W c.requires.fits
