use Rattle.std.proofs.Common.{◌≡◌, ℕ, ◌-◌, ◌%◌, ◌<◌, ◌==◌, true, false, not, ltb, Some, refl, sym, ◌∙◌, ap, inl, inr}
use Rattle.std.proofs.Common.{arith, rules}
use Rattle.std.specs.Option.{option_map}
use Rattle.std.proofs.Math.Bool.{or-false}
use Rattle.std.proofs.lemmas.Bool.{and_parts, and_right, cases_Bool, cond_both, eqb-true}
use Rattle.field_defs.specs.FieldBounds.{is_wild}
use Rattle.node_expand.specs.declared.edge.Edge.TheVariants.{Free}
use Rattle.node_expand.specs.Edges.{edge_step, is_change, is_cut, is_bitmask}
use Rattle.node_expand.proofs.Offered.{wild_stays_free, all_left_step}
use Rattle.trie_merge.proofs.column.Column.keeps.Goals as goal
use Rattle.group_states.specs.Entry.{ColumnView, number_in, entry_of, edge_before, value_in, entry_step, is_entry_cut}
use Rattle.group_states.specs.Entry.{CanStep}
use Rattle.trie_merge.specs.Asked.{stays_free}

-- the rest of the entry is free, and stays so
module _ (column : ColumnView) (entry : ℕ) (can : CanStep column entry) (free : entry % 4 ≡ 0)
    (stays : stays_free column.size column.place (value_in column entry) ≡ true) where
  -- no end is inner before the place
  free_before : edge_before column entry ≡ Free
  free_before =
      cond_both (column.place == 0) _ _ (λ edge. edge ≡ Free)
      (λ start. (let wild = rw or-false at (rw (eqb-true column.place 0 start) at stays) in
      rw (wild_stays_free.edge (value_in column entry) column.size 0 0 can.value wild (omega arith) (omega arith))
      refl))
      (λ later. rw free refl)

  -- and so it is after each byte
  each_step : (byte : ℕ) → byte < 256 →
      edge_step (value_in column entry) column.size column.place (edge_before column entry) byte ≡ Some Free
  each_step byte below = rw free_before (elim (cases_Bool (is_wild (value_in column entry) column.size)) [
    | inl wild ↦
        wild_stays_free.step (value_in column entry) column.size column.place byte can.value wild can.place below
    | inr bounded ↦
        all_left_step (value_in column entry) column.size column.place byte Free
        (and_parts (ltb 0 column.place) (not (is_bitmask (value_in column entry))) (rw bounded at stays)).1 can.place
        below
  ])

  kept : (byte : ℕ) → byte < 256 → entry_step column entry byte ≡ Some entry
  unfolding entry_step
  kept byte below =
      let same : entry_of (number_in entry) Free ≡ entry = omega (arith, free) in
      ap (option_map (entry_of (number_in entry))) (each_step byte below) ∙ ap Some same

  uncut : (byte : ℕ) → byte < 256 → is_entry_cut column entry byte ≡ false
  unfolding is_entry_cut is_cut is_change
  uncut byte below =
      rw (each_step byte below, each_step (byte - 1) (omega arith)) (and_right (ltb 0 byte) false refl)

pub returns-then-is_free : goal.returns-then-is_free
returns-then-is_free c =
    let column = c.args.self.now in
    let free = eqb-true (c.args.entry % 4) 0 (sym c.is_free.ensures ∙ c.if-is_free.true) in
    let size : c.self.inside.size ≡ column.size = search rules in
    let place : c.self.inside.place ≡ column.place = search rules in
    let told : c.stays_free.result ≡ stays_free column.size column.place (value_in column c.args.entry) =
    c.stays_free.ensures ∙ (λ i. stays_free (size i) (place i) (c.value.ensures i)) in
    record {
      step = λ is. kept column c.args.entry c.requires free (sym told ∙ is);
      uncut = λ is. uncut column c.args.entry c.requires free (sym told ∙ is);
    }
