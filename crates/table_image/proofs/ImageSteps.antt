-- An image is read step by step: its version, its two tables and its end.
use Rattle.std.proofs.Common.{◌≡◌, ℕ, List, length, refl, ◌∙◌, Bool, true, false, Ok, Err}
use Rattle.std.specs.Prelude.{◌==◌}
use Rattle.table_image.specs.declared.load_fault.ImageFault.{ImageFault}
use Rattle.table_image.specs.declared.load_fault.LoadFault.{LoadFault}
use Rattle.table_image.specs.declared.load_fault.ImageKind.{ImageKind}
use Rattle.table_image.specs.declared.load_fault.ImageKind.TheVariants.{Trailing}
use Rattle.table_image.specs.declared.version.Version.{Version}
use Rattle.table_image.specs.ImageReading.{◌>>=◌, checked, TableRead, table_read, version_read, pair_read, image_of}
use Rattle.table_image.specs.Loading.{IsFaultOf}
use Rattle.table_image.proofs.Readings.{of_check, check_passed}
use Rattle.table_image.proofs.Loops.{fault_of_both, fault_of_same}

-- a check that fails for one value fails for another
check_failed : {A B : Type 0} (passes : Bool) (kind : ImageKind) (at : ℕ) (one : A) (other : B) (fault : ImageFault) →
    checked passes kind at one ≡ Err fault → checked passes kind at other ≡ Err fault
check_failed true kind at one other fault e = absurd cc
check_failed false kind at one other fault e = cc

module _ (bytes : List ℕ) where
  -- a fault of the version is that of the image
  pub version_fault : (fault : ImageFault) → version_read bytes ≡ Err fault → image_of bytes ≡ Err fault
  unfolding image_of
  version_fault fault e = rw e refl

  module _ (version : Version) (v : version_read bytes ≡ Ok version) where
    -- after its version an image is read as a pair of tables
    after_version : image_of bytes ≡ pair_read version bytes
    unfolding image_of
    after_version = rw v refl

    -- a fault of the IPv4 table is that of the image
    pub ip4_fault : (fault : LoadFault) → IsFaultOf (table_read version 4 13 bytes 8) fault →
        IsFaultOf (image_of bytes) fault
    ip4_fault fault f = fault_of_same _ _ fault after_version (fault_of_both (table_read version 4 13 bytes 8)
        (λ ip4. table_read version 6 37 bytes ip4.end >>= λ ip6.
        checked (length bytes == ip6.end) Trailing ip6.end (record { ip4 = ip4.table; ip6 = ip6.table })) fault f)

    module _ (ip4 : TableRead) (a : table_read version 4 13 bytes 8 ≡ Ok ip4) where
      -- after the IPv4 table the IPv6 table and the end are read
      after_ip4 : image_of bytes ≡ (table_read version 6 37 bytes ip4.end >>= λ ip6.
          checked (length bytes == ip6.end) Trailing ip6.end (record { ip4 = ip4.table; ip6 = ip6.table }))
      after_ip4 = after_version ∙ (rw a refl)

      -- a fault of the IPv6 table is that of the image
      pub ip6_fault : (fault : LoadFault) → IsFaultOf (table_read version 6 37 bytes ip4.end) fault →
          IsFaultOf (image_of bytes) fault
      ip6_fault fault f = fault_of_same _ _ fault after_ip4 (fault_of_both (table_read version 6 37 bytes ip4.end)
          (λ ip6. checked (length bytes == ip6.end) Trailing ip6.end (record { ip4 = ip4.table; ip6 = ip6.table }))
          fault f)

      module _ (ip6 : TableRead) (b : table_read version 6 37 bytes ip4.end ≡ Ok ip6) where
        -- after the IPv6 table only the end is tested
        after_ip6 : image_of bytes
            ≡ checked (length bytes == ip6.end) Trailing ip6.end (record { ip4 = ip4.table; ip6 = ip6.table })
        after_ip6 = after_ip4 ∙ (rw b refl)

        -- a fault of the end is that of the image
        pub end_fault : {A : Type 0} (value : A) (fault : ImageFault) →
            checked (length bytes == ip6.end) Trailing ip6.end value ≡ Err fault → image_of bytes ≡ Err fault
        end_fault value fault e = after_ip6 ∙ check_failed (length bytes == ip6.end) Trailing ip6.end value _ fault e

        -- an image that ends where its tables do is read as the pair of them
        pub pair_is : {A : Type 0} (value : A) → checked (length bytes == ip6.end) Trailing ip6.end value ≡ Ok value →
            image_of bytes ≡ Ok (record { ip4 = ip4.table; ip6 = ip6.table })
        pair_is value e = after_ip6 ∙ check_passed (length bytes == ip6.end) Trailing ip6.end _
            (of_check (length bytes == ip6.end) Trailing ip6.end value value e).0
