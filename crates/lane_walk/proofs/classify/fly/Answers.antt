use Rattle.std.proofs.Common.{◌≡◌, ◌≤◌, ◌<◌, ℕ, ◌/◌, ap, subst, ◌∙◌, arith, length, drop}
use Rattle.std.proofs.lemmas.List.Elements.{All-from_get_or}
use Rattle.flat_table.specs.Batch.{keys_in}
use Rattle.flow_core.specs.Machine.{turns}
use Rattle.flow_core.specs.Laws.{AreBytes}
use Rattle.flow_core.proofs.Offered.{turns_are_slots}
use Rattle.lane_walk.specs.Turn.{AreRowsOf}
use Rattle.lane_walk.proofs.Joining.{rows_joined, rows_wide, same_rows, wide_from_first}
use Rattle.lane_walk.proofs.classify.fly.Goals as goal

pub join_noted-requires-clause-keys : goal.join_noted-requires-clause-keys
join_noted-requires-clause-keys g c = omega (
  arith,
  c.requires.fits.room,
  c.note_walks-flown.ensures.len,
  ap (λ (k : ℕ). length c.args.keys.now / k) c.key_len.ensures.value,
)

pub join_noted-requires-clause-there : goal.join_noted-requires-clause-there
join_noted-requires-clause-there g c key trie below within =
    let n : length c.args.keys.now / c.key_len.result ≡ keys_in c.args.table.now c.args.keys.now =
    ap (λ (k : ℕ). length c.args.keys.now / k) c.key_len.ensures.value in
    c.note_walks-flown.ensures.notes.there key trie (omega (arith, below, n)) within

pub returns-clause-rows : goal.returns-clause-rows
returns-clause-rows g c =
    let table = c.args.table.now in
    let keys = c.args.keys.now in
    let n : length keys / c.key_len.result ≡ keys_in table keys =
    ap (λ (k : ℕ). length keys / k) c.key_len.ensures.value in
    let rows : AreRowsOf table c.note_walks-flown.new.scratch (keys_in table keys) c.join_noted.new.scratch =
    subst (λ (m : ℕ). AreRowsOf table c.note_walks-flown.new.scratch m c.join_noted.new.scratch) n
    c.join_noted.ensures.rows in
    let room : keys_in table keys ≤ length c.join_noted.new.scratch =
    omega (arith, c.requires.fits.room, c.note_walks-flown.ensures.len, c.join_noted.ensures.len) in
    let notes = c.note_walks-flown.ensures.notes in
    let flown = c.note_walks-flown.result.turns in
    let bytes : AreBytes keys = All-from_get_or (λ byte. byte < 256) keys 0
    (λ i below. omega (arith, c.type_inv.keys i)) in
    same_rows table keys (rows_joined c.join_noted.new.scratch notes rows room)
    (c.every_schedule.ensures.rows table keys g.row.W (turns g.row.W flown) c.stay_in.ensures.sound bytes
    (turns_are_slots g.row.W flown) c.note_walks-flown.ensures.turns.ends)
    (rows_wide c.join_noted.new.scratch notes rows room) (wide_from_first table keys g.row.W (turns g.row.W flown))

pub returns-clause-joined : goal.returns-clause-joined
returns-clause-joined g c =
    let table = c.args.table.now in
    let keys = c.args.keys.now in
    let n : length keys / c.key_len.result ≡ keys_in table keys =
    ap (λ (k : ℕ). length keys / k) c.key_len.ensures.value in
    rows_joined c.join_noted.new.scratch c.note_walks-flown.ensures.notes
    (subst (λ (m : ℕ). AreRowsOf table c.note_walks-flown.new.scratch m c.join_noted.new.scratch) n
    c.join_noted.ensures.rows)
    (omega (arith, c.requires.fits.room, c.note_walks-flown.ensures.len, c.join_noted.ensures.len))

pub returns-clause-others : goal.returns-clause-others
returns-clause-others g c =
    let n : length c.args.keys.now / c.key_len.result ≡ keys_in c.args.table.now c.args.keys.now =
    ap (λ (k : ℕ). length c.args.keys.now / k) c.key_len.ensures.value in
    subst (λ (m : ℕ). drop m c.join_noted.new.scratch ≡ drop m c.note_walks-flown.new.scratch) n
    c.join_noted.ensures.others
    ∙ c.note_walks-flown.ensures.others

pub returns-clause-len : goal.returns-clause-len
returns-clause-len g c = c.join_noted.ensures.len ∙ c.note_walks-flown.ensures.len
