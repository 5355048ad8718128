use Rattle.std.proofs.Common.{◌≡◌, ℕ, ◌+◌, ◌-◌, get_or, List, sym, ◌∙◌, subst, ap, length, true, arith}
use Rattle.indexmap.specs.IndexSet.{insert_key}
use Rattle.state_parts.specs.Keys.{KeyAt, AreLower, AreDistinct, same_pair, has_entry}
use Rattle.state_parts.proofs.Keys.{insert_grows}
use Rattle.state_parts.proofs.Pairs.{well_made, entry_from}
use Rattle.state_parts.proofs.parts.Parts.number.Goals as goal

-- the pairs are lower and distinct
made : (c : goal.In_ok-number) → AreLower c.insert.new.self.keys × AreDistinct c.insert.new.self.keys
made c =
    let long = ap length c.self.view_is in
    subst (λ (ps : List (ℕ × ℕ)). AreLower ps × AreDistinct ps) (sym c.in_ok-number.ensures.keys)
    (well_made c.self.inside.pairs.keys c.args.pair
    (λ some. let low = c.requires some in (
      omega (arith, low.0, long),
      omega (arith, low.1),
      omega (arith, low.2, long),
    )) c.self.invariant)

pub invariant_of-self-2 : goal.invariant_of-self-2
invariant_of-self-2 c = made c

pub returns-clause-grows : goal.returns-clause-grows
returns-clause-grows c =
    let grown = insert_grows same_pair c.args.self.now c.args.pair in (
      grown.0,
      c.in_ok-number.ensures.keys
          ∙ ap (λ (ps : List (ℕ × ℕ)). insert_key same_pair ps c.args.pair) c.self.view_is ∙ grown.1,
    )

pub returns-clause-entries : goal.returns-clause-entries
returns-clause-entries c = λ entry there. entry_from c.args.self.now c.args.pair entry
    (subst (λ (ps : List (ℕ × ℕ)). has_entry ps entry ≡ true) (c.in_ok-number.ensures.keys
    ∙ ap (λ (ps : List (ℕ × ℕ)). insert_key same_pair ps c.args.pair) c.self.view_is) there)

pub returns-clause-number : goal.returns-clause-number
returns-clause-number c =
    let keys = c.insert.new.self.keys in
    let within = c.in_ok-number.ensures.within in
    let e : c.in_ok-number.number - 1 + 1 ≡ c.in_ok-number.number = omega (arith, within.0) in
    subst (λ (pair : ℕ × ℕ). KeyAt same_pair keys pair c.in_ok-number.number) c.in_ok-number.ensures.at
    (subst (λ n. KeyAt same_pair keys (get_or keys (c.in_ok-number.number - 1) (0, 0)) n) e
    ((made c).1 (c.in_ok-number.number - 1) (omega (arith, within.0, within.1))))
