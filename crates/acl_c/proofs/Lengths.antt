-- Lengths that have no fault fit.
use Rattle.std.proofs.Common.{◌≡◌, ℕ, ◌*◌, ◌/◌, ◌%◌, ◌==◌, ◌&&◌, nat_lt, Bool, true, false, not, List, length, refl}
use Rattle.std.proofs.Common.{subst, arith}
use Rattle.std.specs.Prelude.{if◌then◌else◌}
use Rattle.std.proofs.lemmas.Bool.{and_parts}
use Rattle.std.proofs.lemmas.Bool.Decides.{nat_tests}
use Rattle.std.proofs.lemmas.Nat.{div-add-mod'}
use Rattle.flat_table.specs.Batch.{KeysFit}
use Rattle.field_defs.specs.declared.field.FieldDef.{FieldDef}
use Rattle.acl_c.specs.declared.rules.Tag.{Tag}
use Rattle.acl_c.specs.declared.rules.Value.{Value}
use Rattle.acl_c.specs.Rules.{are_whole}
use Rattle.acl_c.specs.Codes.{ok, bad_length, too_many_keys}
use Rattle.acl_c.specs.Batch.{lengths_code}

-- a number that the remainder of a division by another says to be a multiple
pub product : (n times whole : ℕ) → (whole % n == 0) ≡ true → (whole / n == times) ≡ true → whole ≡ times * n
product n times whole none same =
    let parts = div-add-mod' whole n in
    let zero : whole % n ≡ 0 = grind (arith, nat_tests, none) in
    let is : whole / n ≡ times = grind (arith, nat_tests, same) in
    subst (λ (k : ℕ). whole ≡ k * n) is (omega (arith, parts, zero))

-- none of three tests fails
opened : (whole many room : Bool) →
    (if not whole then bad_length else (if many then too_many_keys else (if room then ok else bad_length))) ≡ ok →
    (whole ≡ true) × (many ≡ false) × (room ≡ true)
opened true false true none = (refl, refl, refl)
opened false many room none = let wrong : bad_length ≡ ok = none in absurd (omega (arith, wrong))
opened true true room none = let wrong : too_many_keys ≡ ok = none in absurd (omega (arith, wrong))
opened true false false none = let wrong : bad_length ≡ ok = none in absurd (omega (arith, wrong))

-- the lengths of a batch without a fault are those of whole keys and of the room for their verdicts
pub fits : (key_len : ℕ) (keys : List ℕ) (count room : ℕ) →
    lengths_code key_len (length keys) count room ≡ 0 → KeysFit key_len keys count room
fits key_len keys count room none =
    let (whole, many, rest) = opened (length keys % key_len == 0) (nat_lt 65536 (length keys / key_len))
    (room % count == 0 && room / count == length keys / key_len) none in
    let (even, same) = and_parts (room % count == 0) (room / count == length keys / key_len) rest in
    record {
      whole = product key_len (length keys / key_len) (length keys) whole (grind (arith, nat_tests));
      few = grind (arith, nat_tests, many);
      room_fits = product count (length keys / key_len) room even same;
    }

-- values that are whole have the length of all rules' values
pub whole_product : (defs : List FieldDef) (tags : List Tag) (values : List Value) →
    are_whole defs tags values ≡ true → length values ≡ length tags * length defs
whole_product defs tags values whole =
    let (some, same) = and_parts (not (length defs == 0) && length values % length defs == 0)
    (length values / length defs == length tags) whole in
    let (few, even) = and_parts (not (length defs == 0)) (length values % length defs == 0) some in
    product (length defs) (length tags) (length values) even same
