use Rattle.std.proofs.Common.{◌≡◌, ℕ, ◌/◌, ap, ◌∙◌, arith, length, take}
use Rattle.std.specs.Prelude.{flat_map}
use Rattle.flat_table.specs.Batch.{keys_in}
use Rattle.flow_core.specs.Rows.{row_verdicts}
use Rattle.flow_core.proofs.Offered.{verdicts_of_rows}
use Rattle.lane_walk.proofs.classify.classify_lanes.Goals as goal

pub fly-flown-requires-clause-fits : goal.fly-flown-requires-clause-fits
fly-flown-requires-clause-fits g c = record {
  whole = c.requires.fits.whole;
  few = c.requires.fits.few;
  room = c.requires.room;
}

pub write_verdicts-requires-clause-keys : goal.write_verdicts-requires-clause-keys
write_verdicts-requires-clause-keys g c = omega (
  arith,
  c.requires.room,
  c.fly-flown.ensures.len,
  ap (λ (k : ℕ). length c.args.keys.now / k) c.key_len.ensures.value,
)

pub returns-clause-verdicts : goal.returns-clause-verdicts
returns-clause-verdicts g c =
    let table = c.args.table.now in
    let keys = c.args.keys.now in
    let n : length keys / c.key_len.result ≡ keys_in table keys =
    ap (λ (k : ℕ). length keys / k) c.key_len.ensures.value in
    c.write_verdicts.ensures
    ∙ (λ i. flat_map (row_verdicts (c.count.ensures.value i)) (take (n i) c.fly-flown.new.scratch))
    ∙ verdicts_of_rows table keys c.args.cats.count (omega (arith, c.count.ensures.bound, c.count.ensures.value))
    (take (keys_in table keys) c.fly-flown.new.scratch) c.fly-flown.ensures.joined
