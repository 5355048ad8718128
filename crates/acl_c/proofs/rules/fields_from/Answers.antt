use Rattle.std.proofs.Common.{◌≡◌, ◌<◌, ◌+◌, ◌++◌, ◌∷◌, [], ℕ, sym, ap, ◌∙◌, length, arith}
use Rattle.std.proofs.lemmas.List.{length_push}
use Rattle.std.proofs.lemmas.List.FromFn.{map-range_with_len_more}
use Rattle.field_defs.specs.LayoutFault.{def_at}
use Rattle.acl_c.specs.Rules.{value_of, value_at}
use Rattle.acl_c.proofs.Rows.{one_value}
use Rattle.acl_c.proofs.rules.fields_from.Goals as goal

pub loop-place-preserved : goal.loop-place-preserved
loop-place-preserved c =
    let l = c.loop-place in
    let defs = c.args.defs.now in
    let values = c.args.values.now in
    let here = c.loop-place-test.true in
    let from_0 : 0 + l.place ≡ l.place = omega arith in
    let there : l.place < length values = omega (arith, here, c.requires.enough) in
    let one = c.value_of.ensures ∙ one_value defs values l.place _ _ here there in
    record {
      fields = c.push.ensures.items ∙ (λ i. l.invariant.fields i ++ one i ∷ [])
          ∙ sym (map-range_with_len_more (λ (k : ℕ). value_of (def_at defs k).kind (value_at values k)) 0 l.place
          l.place from_0);
      len = ap length c.push.ensures.items ∙ length_push l.fields.items c.value_of.result
          ∙ ap (λ (n : ℕ). n + 1) l.invariant.len;
    }
