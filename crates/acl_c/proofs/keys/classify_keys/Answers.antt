use Rattle.std.proofs.Common.{◌≡◌, ◌<◌, ◌≤◌, ℕ, ◌*◌, true, length, refl, sym, ap, ◌∙◌, arith}
use Rattle.std.proofs.lemmas.Bool.Decides.{nat_tests}
use Rattle.table_sizes.specs.Sizes.{row_len, max_keys}
use Rattle.acl_c.specs.Batch.{batch_code}
use Rattle.acl_c.specs.Keys.{packed, are_of_len, each_verdicts}
use Rattle.acl_c.proofs.Serving.{batch_by_rules}
use Rattle.acl_c.proofs.Apart.{room_for, answers, packed_verdicts, packed_transitions, packed_fit}
use Rattle.acl_c.proofs.keys.classify_keys.Goals as goal

pub walk_fitting-requires-clause-room : goal.walk_fitting-requires-clause-room
walk_fitting-requires-clause-room c =
    let len : ℕ = c.key_len-key_len.result in
    let lens : are_of_len len c.args.keys.now ≡ true = sym c.are_of_len.ensures ∙ c.if-not-are_of_len.false in
    room_for len c.args.categories (length c.args.verdicts.now) c.args.keys.now c.key_len-key_len.ensures.some lens
    c.in-Ok.ensures.lengths
    ∙ ap (λ (n : ℕ). length c.args.keys.now * n) (sym c.in-Ok.ensures.count)

pub returns-clause-is : goal.returns-clause-is
returns-clause-is c =
    let table = c.args.table.now in
    let keys = c.args.keys.now in
    let categories : ℕ = c.args.categories in
    let lanes : ℕ = length c.args.lanes.now in
    let room : ℕ = length c.args.verdicts.now in
    let asked = c.in-Ok.ensures in
    let w = c.walk_fitting.ensures in
    let len = c.key_len-key_len.ensures.value in
    let lens : are_of_len table.key_len keys ≡ true =
    ap (λ (n : ℕ). are_of_len n keys) (sym len) ∙ sym c.are_of_len.ensures ∙ c.if-not-are_of_len.false in
    let some : 0 < table.key_len = omega (arith, len, c.key_len-key_len.ensures.some) in
    let few : length keys ≤ max_keys = omega (arith, c.if-keys-gt-MAX_KEYS.false) in
    let held : c.in-Ok.asked.cats.count ≤ row_len = grind (arith, nat_tests, c.in-Ok.asked.cats.lawful) in
    let none : batch_code table.key_len lanes (length keys * table.key_len) categories c.args.walk room ≡ 0 =
    (λ i. batch_code (sym len i) (sym c.room.ensures i) (length keys * sym len i) categories c.args.walk room)
    ∙ asked.fine in
    let each = w.verdicts ∙ ap (λ (n : ℕ). each_verdicts table n keys) asked.count in
    let packed_are = each ∙ sym (packed_verdicts table keys some lens categories) in
    record {
      answer = answers table lanes keys categories c.args.walk room few lens none;
      verdicts = λ _. packed_are;
      each = λ _. each;
      served = λ set _ serves.
          packed_are
          ∙ batch_by_rules set table categories (packed keys) serves (omega (arith, asked.count, held)) w.bytes
          (packed_fit table keys some lens categories (length keys * categories) few refl).whole;
      transitions = λ _. w.taken ∙ sym (packed_transitions table keys some lens);
      kept = λ wrong. absurd (cc);
    }
