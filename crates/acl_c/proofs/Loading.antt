-- What a load makes of two empty handles, by what was read of the image.
use Rattle.std.proofs.Common.{◌≡◌, ℕ, List, Option, Some, None, Ok, Err, refl, inl, inr, sym, ap, ◌∙◌}
use Rattle.table_image.specs.declared.load_fault.ImageFault.{ImageFault}
use Rattle.table_image.specs.Spelling.{PairView}
use Rattle.table_image.specs.ImageReading.{image_of}
use Rattle.table_image.proofs.Offered.{image_spelled}
use Rattle.acl_c.specs.Codes.{ok, no_memory}
use Rattle.acl_c.specs.Shared.{SharedView, without_lanes}
use Rattle.acl_c.specs.Images.{IsToldFault, Loads}

-- the tables of a pair were put into the handles
pub loads_pair : (bytes : List ℕ) (pair : PairView) (place : ℕ) → image_of bytes ≡ Ok pair →
    Loads bytes (Some (without_lanes pair.ip4)) (Some (without_lanes pair.ip6)) place place ok
loads_pair bytes pair place read = record {
  pair = λ other is.
      let same : pair ≡ other = cc (sym read ∙ is) in (
        inl (
          refl,
          ap (λ (one : PairView). Some (without_lanes one.ip4)) same,
          ap (λ (one : PairView). Some (without_lanes one.ip6)) same,
        ),
        refl,
      );
  fault = λ fault is. absurd (cc (sym read ∙ is));
  image = λ version other is. image_spelled version bytes other is;
}

-- nothing was put into them
pub loads_none : (bytes : List ℕ) (ip4 ip6 : Option SharedView) (before after code : ℕ) →
    ((fault : ImageFault) → image_of bytes ≡ Err fault → IsToldFault fault before after code) →
    ((pair : PairView) → image_of bytes ≡ Ok pair → (code ≡ no_memory) × (after ≡ before)) →
    ip4 ≡ None → ip6 ≡ None → Loads bytes ip4 ip6 before after code
loads_none bytes ip4 ip6 before after code told memory none4 none6 = record {
  pair = λ pair is. let (wanted, kept) = memory pair is in (inr (wanted, none4, none6), kept);
  fault = λ fault is. (none4, none6, told fault is);
  image = λ version pair is. image_spelled version bytes pair is;
}
