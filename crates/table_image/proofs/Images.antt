-- Bytes are read exactly where they are the image of a pair of tables.
use Rattle.std.proofs.Common.{◌≡◌, ℕ, List, [], ◌++◌, length, drop}
use Rattle.std.proofs.Common.{refl, sym, ap, ◌∙◌, arith, Bool, true, Ok, ◌⊎◌, inl, inr, length-drop}
use Rattle.std.specs.Prelude.{◌||◌, ◌==◌}
use Rattle.std.proofs.lemmas.List.{append-nil, drop_all}
use Rattle.std.proofs.lemmas.Bool.{cases_Bool, eq-eqb, eqb-true}
use Rattle.std.proofs.Math.Path.{subst}
use Rattle.flat_table.specs.Table.{TableView}
use Rattle.table_image.specs.declared.version.Version.{Version}
use Rattle.table_image.specs.declared.version.Version.TheVariants.{One, Two}
use Rattle.table_image.specs.declared.load_fault.ImageKind.TheVariants.{Magic, Trailing}
use Rattle.table_image.specs.declared.load_fault.ImageKind.TheVariants as kind
use Rattle.table_image.specs.Spelling.{PairView, magic, short, spelled, spelled_table, spelled_pair}
use Rattle.table_image.specs.Spelling.{number_of_version, IsSaved, IsImage}
use Rattle.table_image.specs.ImageReading.{◌>>=◌, checked, tested, TableRead, table_read, version_of, version_read}
use Rattle.table_image.specs.ImageReading.{pair_read, image_of}
use Rattle.table_image.proofs.Fields.{AreBytes}
use Rattle.table_image.proofs.Readings.{of_both, both, of_check, check_passed}
use Rattle.table_image.proofs.NumbersRead.{fits, tested_read, tested_spelled, after_field}
use Rattle.table_image.proofs.TablesRead.{table_at}
use Rattle.table_image.proofs.TablesSpelled.{table_spelled}

-- the version of an image, and where its tables begin
record VersionAt (bytes : List ℕ) (version : Version) : Type 0 where
  pub text : bytes ≡ spelled short magic ++ (spelled short (number_of_version version) ++ drop 8 bytes)

-- a number of a version is that of the version that it names
named : (number : ℕ) → (number == 1 || number == 2) ≡ true → number_of_version (version_of number) ≡ number
named number known = elim (cases_Bool (number == 1)) [
  | inl one ↦ rw one (sym (eqb-true number 1 one))
  | inr other ↦ rw other (sym (eqb-true number 2 (rw other at known)))
]

-- a version that was read stands in front, after the number that marks an image
version_at : (bytes : List ℕ) (version : Version) → AreBytes bytes → version_read bytes ≡ Ok version →
    VersionAt bytes version
version_at bytes version are e =
    let magical : ℕ → Bool = λ number. number == magic in
    let known : ℕ → Bool = λ number. number == 1 || number == 2 in
    let one = of_both (tested Magic short magical bytes 0)
    (λ _. tested kind.Version short known bytes 4 >>= λ number. Ok (version_of number)) version e in
    let two = of_both (tested kind.Version short known bytes 4) (λ number. Ok (version_of number)) version one.2 in
    let m = tested_read Magic short magical bytes 0 one.0 are one.1 in
    let v = tested_read kind.Version short known bytes 4 two.0 are two.1 in
    let is : version_of two.0 ≡ version = cc in
    let number : two.0 ≡ number_of_version version = sym (named two.0 v.1) ∙ ap number_of_version is in
    let magic_is : one.0 ≡ magic = eqb-true one.0 magic m.1 in
    record {
      text = m.0.text ∙ ap (λ n. spelled short n ++ drop 4 bytes) magic_is
          ∙ ap (λ xs. spelled short magic ++ xs) (v.0.text ∙ ap (λ n. spelled short n ++ drop 8 bytes) number);
    }

-- the pair that was read, with the version of its image
pub record ImageAt (bytes : List ℕ) (pair : PairView) : Type 0 where
  pub version : Version
  pub is : IsImage version bytes pair

-- bytes that were read as a pair are its image in some version
pub image_read : (bytes : List ℕ) (pair : PairView) → AreBytes bytes → image_of bytes ≡ Ok pair → ImageAt bytes pair
unfolding image_of spelled_pair
image_read bytes pair are e =
    let one = of_both (version_read bytes) (λ version. pair_read version bytes) pair e in
    let version : Version = one.0 in
    let v = version_at bytes version are one.1 in
    let made : TableRead → TableRead → PairView = λ ip4 ip6. record { ip4 = ip4.table; ip6 = ip6.table } in
    let two = of_both (table_read version 4 13 bytes 8)
    (λ ip4. table_read version 6 37 bytes ip4.end >>= λ ip6. checked (length bytes == ip6.end) Trailing ip6.end
    (made ip4 ip6)) pair one.2 in
    let ip4 : TableRead = two.0 in
    let three = of_both (table_read version 6 37 bytes ip4.end)
    (λ ip6. checked (length bytes == ip6.end) Trailing ip6.end (made ip4 ip6)) pair two.2 in
    let ip6 : TableRead = three.0 in
    let last = of_check (length bytes == ip6.end) Trailing ip6.end (made ip4 ip6) pair three.2 in
    let first = table_at version 4 13 bytes 8 ip4 are refl two.1 in
    let second = table_at version 6 37 bytes ip4.end ip6 are refl three.1 in
    let ends : drop ip6.end bytes ≡ [] = drop_all ip6.end bytes (omega (arith, eqb-true (length bytes) ip6.end last.0))
    in
    let ip4_is : ip4.table ≡ pair.ip4 = ap (λ (p : PairView). p.ip4) last.1 in
    let ip6_is : ip6.table ≡ pair.ip6 = ap (λ (p : PairView). p.ip6) last.1 in
    let tables : drop 8 bytes ≡ spelled_table version 4 pair.ip4 ++ spelled_table version 6 pair.ip6 =
    first.text ∙ ap (λ xs. spelled_table version 4 ip4.table ++ xs)
    (second.text ∙ ap (λ xs. spelled_table version 6 ip6.table ++ xs) ends
    ∙ append-nil (spelled_table version 6 ip6.table))
    ∙ ap (λ t. spelled_table version 4 t ++ spelled_table version 6 ip6.table) ip4_is
    ∙ ap (λ t. spelled_table version 4 pair.ip4 ++ spelled_table version 6 t) ip6_is in
    record {
      version = version;
      is = record {
        spelling = v.text ∙ ap (λ xs. spelled short magic ++ (spelled short (number_of_version version) ++ xs)) tables;
        ip4 = subst (λ t. IsSaved version 13 t) ip4_is first.is;
        ip6 = subst (λ t. IsSaved version 37 t) ip6_is second.is;
      };
    }

-- a table whose keys have so many bytes, said with its own number of them
own_keys : (version : Version) (key_len : ℕ) (table : TableView) → IsSaved version key_len table →
    IsSaved version table.key_len table
own_keys version key_len table is = record {
  sound = is.sound;
  saved = record { keys = refl; few = is.saved.few; ranked = is.saved.ranked };
  typed = is.typed;
  groups = is.groups;
}

-- the number of a version
version_small : (version : Version) → fits short (number_of_version version) ≡ true
version_small One = refl
version_small Two = refl

-- the number of a version is 1 or 2
version_known : (version : Version) → (number_of_version version == 1 || number_of_version version == 2) ≡ true
version_known One = refl
version_known Two = refl

-- a version is found again by its number
version_again : (version : Version) → version_of (number_of_version version) ≡ version
version_again One = refl
version_again Two = refl

-- the image of a pair is read as the pair
pub image_spelled : (version : Version) (bytes : List ℕ) (pair : PairView) → IsImage version bytes pair →
    image_of bytes ≡ Ok pair
unfolding image_of spelled_pair
image_spelled version bytes pair is =
    let first_rest : List ℕ = spelled_table version 6 pair.ip6 in
    let tables : List ℕ = spelled_table version 4 pair.ip4 ++ first_rest in
    let number : ℕ = number_of_version version in
    let magical : ℕ → Bool = λ n. n == magic in
    let known : ℕ → Bool = λ n. n == 1 || n == 2 in
    let text : drop 0 bytes ≡ spelled short magic ++ (spelled short number ++ tables) = is.spelling in
    let version_text : drop 4 bytes ≡ spelled short number ++ tables = after_field short bytes 0 magic
    (spelled short number ++ tables) text in
    let ip4_text : drop 8 bytes ≡ tables = after_field short bytes 4 number tables version_text in
    let m = tested_spelled Magic short magical bytes 0 magic (spelled short number ++ tables) (omega arith) text refl
    refl in
    let v = tested_spelled kind.Version short known bytes 4 number tables (omega arith) version_text
    (version_small version)
    (version_known version) in
    let keys4 : pair.ip4.key_len ≡ 13 = is.ip4.saved.keys in
    let keys6 : pair.ip6.key_len ≡ 37 = is.ip6.saved.keys in
    let ip4 = table_spelled version 4 bytes 8 pair.ip4 first_rest refl (rw keys4 (omega arith))
    (own_keys version 13 pair.ip4 is.ip4) ip4_text in
    let ip6 = table_spelled version 6 bytes ip4.end pair.ip6 [] refl (rw keys6 (omega arith))
    (own_keys version 37 pair.ip6 is.ip6)
    (ip4.next ∙ sym (append-nil first_rest)) in
    let made : TableRead → TableRead → PairView = λ a b. record { ip4 = a.table; ip6 = b.table } in
    let ends : length bytes ≡ ip6.end = omega (arith, ap length ip6.next, length-drop ip6.end bytes, ip6.within) in
    both (version_read bytes) (λ version. pair_read version bytes) version _
    (both (tested Magic short magical bytes 0)
    (λ _. tested kind.Version short known bytes 4 >>= λ n. Ok (version_of n)) magic _ m
    (both (tested kind.Version short known bytes 4) (λ n. Ok (version_of n)) number _ v
    (ap Ok (version_again version))))
    (both (table_read version 4 13 bytes 8)
    (λ a. table_read version 6 37 bytes a.end >>= λ b. checked (length bytes == b.end) Trailing b.end (made a b)) _ _
    (ap (λ k. table_read version 4 k bytes 8) (sym keys4) ∙ ip4.read)
    (both (table_read version 6 37 bytes ip4.end)
    (λ b. checked (length bytes == b.end) Trailing b.end (record { ip4 = pair.ip4; ip6 = b.table })) _ _
    (ap (λ k. table_read version 6 k bytes ip4.end) (sym keys6) ∙ ip6.read)
    (check_passed (length bytes == ip6.end) Trailing ip6.end pair (eq-eqb (length bytes) ip6.end ends))))

-- an image is of one version or the other
pub either : (bytes : List ℕ) (pair : PairView) → ImageAt bytes pair → IsImage One bytes pair ⊎ IsImage Two bytes pair
either bytes pair at = by_version at.version at.is
  where
    by_version : (version : Version) → IsImage version bytes pair → IsImage One bytes pair ⊎ IsImage Two bytes pair
    by_version One is = inl is
    by_version Two is = inr is
