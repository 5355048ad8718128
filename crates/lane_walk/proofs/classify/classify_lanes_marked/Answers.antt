use Rattle.std.proofs.Common.{◌≤◌, ◌*◌, ◌/◌, ◌==◌, ℕ, [], List, ap, sym, ◌∙◌, arith, length, not}
use Rattle.std.proofs.lemmas.List.{get_or-take}
use Rattle.std.specs.Prelude.{slice_index, slice_index_or}
use Rattle.flat_table.specs.Batch.{key_at, keys_in}
use Rattle.flat_table.specs.Walk.{joined}
use Rattle.list_lemmas.proofs.Maps.{map_on_range}
use Rattle.scalar_walk.specs.Lanes.{pieces_below}
use Rattle.scalar_walk.specs.Rows.{row_winners, key_winners}
use Rattle.scalar_walk.proofs.Offered.{pieces_are, pieces_agree}
use Rattle.lane_walk.proofs.classify.classify_lanes_marked.Goals as goal

pub mark_rows-requires-clause-keys : goal.mark_rows-requires-clause-keys
mark_rows-requires-clause-keys g c = omega (
  arith,
  c.requires.room,
  c.classify_lanes-flown.ensures.len,
  ap (λ (k : ℕ). length c.args.keys.now / k) c.key_len.ensures.value,
)

pub mark_rows-requires-clause-room : goal.mark_rows-requires-clause-room
mark_rows-requires-clause-room g c =
    c.requires.marks ∙ c.requires.fits.room_fits
    ∙ (λ i. length c.args.keys.now / sym c.key_len.ensures.value i * sym c.count.ensures.value i)

pub returns-clause-won : goal.returns-clause-won
returns-clause-won g c =
    let table = c.args.table.now in
    let keys = c.args.keys.now in
    let rows = c.classify_lanes-flown.new.scratch in
    let n : ℕ = keys_in table keys in
    let count : ℕ = c.args.cats.count in
    let few : count ≤ 16 = omega (arith, c.count.ensures.bound, c.count.ensures.value) in
    let all = c.classify_lanes-flown.ensures.joined in
    c.mark_rows.ensures
    ∙ (λ i. pieces_below (λ k. row_winners rows (c.count.ensures.value i) k) (length keys / c.key_len.ensures.value i))
    ∙ pieces_agree (λ k. row_winners rows count k) (λ k. key_winners table count (key_at table keys k)) n
    (λ k below. map_on_range (λ category. not (slice_index (slice_index_or rows k []) category == 0))
    (λ category. not (joined table (key_at table keys k) category == 0)) 0 count
    (λ category first within. ap (λ (word : ℕ). not (word == 0))
    (ap (λ (row : List ℕ). slice_index row category) (sym (get_or-take n rows k [] below))
    ∙ all.joined_is k category below (omega (arith, within, few)))))
    ∙ pieces_are (λ k. key_winners table count (key_at table keys k)) n
