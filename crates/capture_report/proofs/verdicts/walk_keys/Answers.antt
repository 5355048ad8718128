-- The keys are a batch of the table, and the verdicts, dashes and steps of the batch are those of the packets.
use Rattle.std.proofs.Common.{◌≡◌, ℕ, ◌+◌, ◌*◌, ◌≤◌, List, map, not, length, take, subst, sym, ap, ◌∙◌, arith}
use Rattle.std.proofs.lemmas.List.{length-take-le}
use Rattle.std.proofs.Math.Nat.{mul-le-mul}
use Rattle.flat_table.specs.Table.{TableView}
use Rattle.flat_table.specs.Batch.{LengthsFit, keys_in, batch_verdicts, batch_transitions}
use Rattle.scalar_walk.specs.Rows.{batch_winners}
use Rattle.capture_report.specs.Batch.{keys_of, number_of, verdicts_of, transitions_of_family, dashes_of_family}
use Rattle.capture_report.proofs.Keys.{keys_fit, batch_verdicts_are, batch_transitions_are, family_transitions_bound, some_bytes}
use Rattle.capture_report.proofs.Keys.{few_bytes, keys_number, verdicts_len, front-is}
use Rattle.capture_report.proofs.Marks.{batch_dashes_are}
use Rattle.capture_report.proofs.verdicts.walk_keys.Goals as goal

pub classify-requires-clause-fits : goal.classify-requires-clause-fits
classify-requires-clause-fits g c =
    let table = c.table-table.result.now in
    let count = c.args.form.now.categories in
    let own = c.gather_keys-own in
    let room = length (take (own.result.packets * c.count.result) c.args.verdicts.now) in
    let within = mul-le-mul {n₁ = own.result.packets} {m₁ = c.count.result} {n₂ = 64} {m₂ = 16}
    (omega (arith, own.ensures.few, c.requires.few)) c.count.ensures.bound in
    let is : room ≡ number_of c.args.family c.args.packets.now * count =
    length-take-le (own.result.packets * c.count.result) c.args.verdicts.now
    (omega (arith, within, c.requires.verdicts))
    ∙ ap (λ (n : ℕ). n * c.count.result) own.ensures.count
    ∙ ap (λ (k : ℕ). number_of c.args.family c.args.packets.now * k)
    (c.count.ensures.value ∙ c.categories-categories.ensures.count) in
    subst (λ (keys : List ℕ). LengthsFit table keys count room) (sym own.ensures.keys)
    (keys_fit c.args.family table c.table-table.ensures.key_len count room
    c.args.packets.now c.requires.packets (some_bytes c.args.family table.key_len c.table-table.ensures.key_len)
    (omega (arith, own.ensures.count, own.ensures.few, c.requires.few)) is)

-- there is a row for each key
pub classify-requires-clause-rows : goal.classify-requires-clause-rows
classify-requires-clause-rows g c =
    let table = c.table-table.result.now in
    let few : keys_in table (keys_of c.args.family c.args.packets.now) ≤ length c.args.scratch.now =
    omega (
      arith,
      keys_number c.args.family table c.table-table.ensures.key_len c.args.packets.now c.requires.packets
          (some_bytes c.args.family table.key_len c.table-table.ensures.key_len),
      c.gather_keys-own.ensures.count,
      c.gather_keys-own.ensures.few,
      c.requires.few,
      c.requires.rows,
    ) in
    subst (λ (keys : List ℕ). keys_in table keys ≤ length c.args.scratch.now)
    (sym c.gather_keys-own.ensures.keys) few

pub returns-clause-verdicts : goal.returns-clause-verdicts
returns-clause-verdicts g c =
    let table = c.table-table.result.now in
    let own = c.gather_keys-own in
    let count = c.args.form.now.categories in
    let out = c.classify.new.out in
    let is_out = c.classify.ensures.verdicts
    ∙ ap (batch_verdicts table count) own.ensures.keys
    ∙ batch_verdicts_are c.args.family table c.table-table.ensures.key_len count c.args.packets.now
    c.requires.packets (some_bytes c.args.family table.key_len c.table-table.ensures.key_len) in
    let len : length out ≡ own.result.packets * c.count.result =
    ap length is_out ∙ verdicts_len c.args.family table count c.args.packets.now
    ∙ ap (λ (n : ℕ). n * count) (sym own.ensures.count)
    ∙ ap (λ (k : ℕ). own.result.packets * k)
    (sym (c.count.ensures.value ∙ c.categories-categories.ensures.count)) in
    front-is (own.result.packets * c.count.result) out _ len ∙ is_out
    ∙ ap (λ (t : TableView). verdicts_of c.args.family t count c.args.packets.now) c.table-table.ensures.table

pub returns-clause-dashes : goal.returns-clause-dashes
returns-clause-dashes g c =
    let table = c.table-table.result.now in
    let own = c.gather_keys-own in
    let form = c.args.form.now in
    let packets = c.args.packets.now in
    let marks = c.classify.new.marks in
    let within = mul-le-mul {n₁ = own.result.packets} {m₁ = c.count.result} {n₂ = 64} {m₂ = 16}
    (omega (arith, own.ensures.few, c.requires.few)) c.count.ensures.bound in
    let len : length marks ≡ own.result.packets * c.count.result =
    c.classify.ensures.len
    ∙ length-take-le (own.result.packets * c.count.result) c.args.dashes.now
    (omega (arith, within, c.requires.dashes)) in
    let number : own.result.packets * c.count.result ≡ number_of c.args.family packets * form.categories =
    ap (λ (n : ℕ). n * c.count.result) own.ensures.count
    ∙ ap (λ (k : ℕ). number_of c.args.family packets * k)
    (c.count.ensures.value ∙ c.categories-categories.ensures.count) in
    let is = front-is (own.result.packets * c.count.result) marks _ len in
    record {
      len = ap length is ∙ len ∙ number;
      are = λ asked.
          is ∙ c.classify.ensures.marks asked
          ∙ ap (λ (keys : List ℕ). map not (batch_winners table form.categories keys)) own.ensures.keys
          ∙ batch_dashes_are c.args.family table c.table-table.ensures.key_len form asked packets
          c.requires.packets (some_bytes c.args.family table.key_len c.table-table.ensures.key_len)
          ∙ ap (λ (t : TableView). dashes_of_family c.args.family t form packets) c.table-table.ensures.table;
    }

pub returns-clause-transitions : goal.returns-clause-transitions
returns-clause-transitions g c =
    let table = c.table-table.result.now in
    c.classify.ensures.taken ∙ ap (batch_transitions table) c.gather_keys-own.ensures.keys
    ∙ batch_transitions_are c.args.family table c.table-table.ensures.key_len c.args.packets.now c.requires.packets
    (some_bytes c.args.family table.key_len c.table-table.ensures.key_len)
    ∙ ap (λ (t : TableView). transitions_of_family c.args.family t c.args.packets.now) c.table-table.ensures.table

pub returns-clause-bound : goal.returns-clause-bound
returns-clause-bound g c =
    let table = c.table-table.result.now in
    let transitions = c.classify.ensures.taken
    ∙ ap (batch_transitions table) c.gather_keys-own.ensures.keys
    ∙ batch_transitions_are c.args.family table c.table-table.ensures.key_len c.args.packets.now c.requires.packets
    (some_bytes c.args.family table.key_len c.table-table.ensures.key_len) in
    omega (
      arith,
      transitions,
      family_transitions_bound c.args.family table c.args.packets.now c.table-table.ensures.tries
          (few_bytes c.args.family table.key_len c.table-table.ensures.key_len),
    )

pub returns-clause-steps : goal.returns-clause-steps
returns-clause-steps g c =
    c.classify.ensures.steps
    ∙ ap (λ (n : ℕ). c.args.steps.now + n) (sym c.classify.ensures.taken)
