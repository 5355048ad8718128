use Rattle.std.proofs.Common.{◌≡◌, ℕ, ◌≤◌, List, length, sym, ap, ◌∙◌, arith}
use Rattle.std.proofs.lemmas.Bool.Decides.{nat_tests}
use Rattle.table_sizes.specs.Sizes.{row_len}
use Rattle.acl_c.specs.Batch.{lengths_code, batch_code}
use Rattle.acl_c.specs.Marks.{batch_marks}
use Rattle.acl_c.proofs.Lengths.{fits}
use Rattle.acl_c.proofs.Serving.{marks_by_rules}
use Rattle.acl_context.proofs.Offered.{are_bytes_from_fits}
use Rattle.acl_c.proofs.marks.mark.Goals as goal

pub returns : goal.returns
returns c =
    let table = c.args.table.now in
    let keys : List ℕ = c.args.keys.now in
    let categories : ℕ = c.args.categories in
    let room : ℕ = length c.args.marks.now in
    let asked = c.in-Ok.ensures in
    let len : c.key_len.result ≡ table.key_len = c.key_len.ensures.value in
    let count : c.count.result ≡ categories = c.count.ensures.value ∙ asked.count in
    let marked : c.mark_keys.new.marks ≡ batch_marks table categories keys =
    c.mark_keys.ensures ∙ ap (λ (n : ℕ). batch_marks table n keys) count in
    let held : c.in-Ok.asked.cats.count ≤ row_len = grind (arith, nat_tests, c.in-Ok.asked.cats.lawful) in
    let few : categories ≤ row_len = omega (arith, asked.count, held) in
    let lengths = ap (λ (n : ℕ). lengths_code n (length keys) categories room) (sym len) ∙ asked.lengths in
    record {
      answer = sym (ap (λ (n : ℕ). batch_code n 0 (length keys) categories 0 room) (sym len) ∙ asked.fine);
      marks = λ _. marked;
      served = λ set _ serves.
          marked
          ∙ marks_by_rules set table categories keys serves few
          (are_bytes_from_fits keys (λ k. omega (arith, c.type_inv.keys k)))
          (fits table.key_len keys categories room lengths).whole;
      kept = λ wrong. absurd (cc);
    }
