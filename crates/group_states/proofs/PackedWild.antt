-- A byte at a place at which the rule is wild leaves the edge that is kept as it is.
use Rattle.std.proofs.Common.{◌≡◌, ℕ, ◌+◌, ◌-◌, ◌*◌, ◌^◌, ◌<◌, List, [], ◌∷◌, ◌++◌, length, take, drop}
use Rattle.std.proofs.Common.{true, false, cond, eqb, Some, None, sym}
use Rattle.std.proofs.Common.{◌∙◌, ap, inl, inr, arith, add-one}
use Rattle.std.specs.List.{AllZip}
use Rattle.std.proofs.lemmas.List.{length-drop, drop-append-le, take-append-le}
use Rattle.std.proofs.lemmas.List.Sums.{sum_by-cons}
use Rattle.std.proofs.lemmas.Bool.{cases_lt, cond-true, cond-false, lt-ltb, le-ltb, ne_eqb}
use Rattle.std.proofs.Math.Nat.{pow-suc}
use Rattle.byte_numbers.specs.Number.{number_of}
use Rattle.field_defs.specs.declared.field.FieldDef.{FieldDef}
use Rattle.field_defs.specs.declared.field.FieldValue.{FieldValue}
use Rattle.field_defs.specs.FieldMatch.{field_match}
use Rattle.field_defs.specs.FieldBounds.{is_wild}
use Rattle.field_defs.specs.Layout.{key_len_of}
use Rattle.rule_set.specs.Lawful.{IsLawfulValue}
use Rattle.node_expand.specs.declared.edge.Edge.TheVariants.{Free}
use Rattle.node_expand.specs.Edges.{edge_after}
use Rattle.node_expand.proofs.Offered.{wild_stays_free}
use Rattle.group_states.specs.Kept.{is_wild_at}
use Rattle.group_states.proofs.Packed.{packed_edge, kept_in, packed_goes_on, packed_in, packed_after, AreBytes, number_small}
use Rattle.group_states.proofs.Packed.{bytes_after, length_one_more}

-- a byte of a field that lets every number through
wild_in : (def : FieldDef) (defs : List FieldDef) (value : FieldValue) (values : List FieldValue) (key : List ℕ)
    (byte : ℕ) → IsLawfulValue def value → AllZip IsLawfulValue defs values → AreBytes key →
    byte < 256 → length key < def.size → is_wild value def.size ≡ true
    → packed_edge (def ∷ defs) (value ∷ values) (key ++ byte ∷ []) ≡ kept_in value def.size key
wild_in def defs value values [] byte lawful others small below begun wild =
    packed_goes_on def defs value values lawful others [] byte below begun
    ∙ wild_stays_free.edge value def.size (length {A = ℕ} [] + 1) (0 * 256 + byte) lawful.can_match wild (omega arith)
    (omega arith)
wild_in def defs value values (k ∷ ks) byte lawful others small below begun wild =
    let place : ℕ = length (k ∷ ks) in
    let some : eqb place 0 ≡ false = ne_eqb place 0 (λ e. omega arith) in
    let prefix : number_of (k ∷ ks) < 256 ^ place = number_small (k ∷ ks) small in
    let next : 256 ^ (place + 1) ≡ 256 ^ place * 256 = rw add-one (pow-suc 256 place) in
    packed_goes_on def defs value values lawful others (k ∷ ks) byte below begun
    ∙ wild_stays_free.edge value def.size (place + 1) (number_of (k ∷ ks) * 256 + byte) lawful.can_match wild
    (omega arith) (omega (arith, prefix, next))
    ∙ sym (wild_stays_free.edge value def.size place (number_of (k ∷ ks)) lawful.can_match wild (omega arith) prefix)
    ∙ sym (ap (λ b. cond b (Some Free) (edge_after value def.size place (number_of (k ∷ ks)))) some)

-- a byte at a place at which the rule is wild leaves the edge as it is
pub packed_wild : (defs : List FieldDef) (values : List FieldValue) (key : List ℕ) (byte : ℕ)
    → AllZip IsLawfulValue defs values → AreBytes key → byte < 256 → length key < key_len_of defs →
    is_wild_at defs values (length key) ≡ true
    → packed_edge defs values (key ++ byte ∷ []) ≡ packed_edge defs values key
packed_wild [] values key byte lawful small below within wild = absurd (omega arith)
packed_wild (def ∷ defs) [] key byte lawful small below within wild = absurd lawful
packed_wild (def ∷ defs) (value ∷ values) key byte lawful small below within wild =
    elim (cases_lt (length key) def.size) [
      | inl begun ↦
          wild_in def defs value values key byte lawful.0 lawful.1 small below begun
          (sym (cond-true _ _ _ (lt-ltb (length key) def.size begun)) ∙ wild)
          ∙ sym (packed_in def defs value values key begun)
      | inr after ↦
          let rest : List ℕ = drop def.size key in
          let long : length rest ≡ length key - def.size = length-drop def.size key in
          packed_after def defs value values (key ++ byte ∷ []) (omega (arith, length_one_more key byte))
          ∙ (λ i. cond (field_match value def.size (number_of (take-append-le def.size key (byte ∷ []) after i)))
          (packed_edge defs values (drop-append-le def.size key (byte ∷ []) after i)) None)
          ∙ ap (λ found. cond (field_match value def.size (number_of (take def.size key))) found None)
          (packed_wild defs values rest byte lawful.1 (bytes_after def.size key small) below
          (omega (arith, long, within, sum_by-cons (λ (d : FieldDef). d.size) def defs))
          (ap (is_wild_at defs values) long ∙ sym (cond-false _ _ _ (le-ltb (length key) def.size after)) ∙ wild))
          ∙ sym (packed_after def defs value values key after)
    ]
