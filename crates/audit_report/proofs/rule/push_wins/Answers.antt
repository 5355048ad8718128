use Rattle.std.proofs.Common.{ℕ, ◌<◌, ◌≡◌, List, [], Option, None, Bor, length, get_or, sym, ap, ◌∙◌, arith}
use Rattle.std.specs.Prelude.{◌||◌}
use Rattle.std.specs.Option.{option_map}
use Rattle.table_sizes.specs.Sizes.{row_len}
use Rattle.acl_audit.specs.Least.{least_key}
use Rattle.audit_report.specs.Audit.{is_some}
use Rattle.audit_report.proofs.Lines.{any_more, key_at, keys_long, wins_more}
use Rattle.audit_report.proofs.rule.push_wins.Goals as goal

pub key_of-key-requires-clause-rule : goal.key_of-key-requires-clause-rule
key_of-key-requires-clause-rule c =
    omega (arith, c.requires.rule, ap length c.requires.audit, keys_long c.args.rules.now)

pub loop-category-preserved : goal.loop-category-preserved
loop-category-preserved c =
    let rule = c.args.rule in
    let key : ℕ → Option (List ℕ) = least_key c.args.rules.now rule.place in
    let n : ℕ = c.loop-category.category in
    let told : Option (List ℕ) = option_map (λ (found : Bor (List ℕ)). found.now) c.key_of-key.result in
    let below : n < row_len = omega (arith, c.loop-category-test.true, c.requires.categories) in
    let found : told ≡ key n =
    c.key_of-key.ensures
    ∙ ap (λ (keys : List (List (Option (List ℕ)))). get_or (get_or keys rule.place []) n None) c.requires.audit
    ∙ key_at c.args.rules.now rule.place n c.requires.rule below in
    record {
      text = wins_more rule.family rule.place rule.userdata n key told c.args.text.now.items
          c.loop-category.text.items c.push_category.new.text.items c.loop-category.invariant.text found
          c.in_ok-wins.ensures.text;
      live =
          (λ i. c.loop-category.invariant.live i || (c.in_ok-wins.ensures.wins ∙ ap is_some found) i)
          ∙ sym (any_more (λ category. is_some (key category)) n);
    }
