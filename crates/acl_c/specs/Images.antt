-- Tables that are saved to bytes and loaded from them.
use Rattle.std.specs.Prelude.{◌≡◌, ℕ, ◌<◌, ◌≤◌, ◌==◌, ◌&&◌, ◌++◌, nat_le, List, drop, length}
use Rattle.std.specs.Prelude.{Bool, true, false}
use Rattle.std.specs.Prelude.{Option, Some, None, Ok, Err, ◌⊎◌}
use Rattle.std.specs.List.{list_all}
use Rattle.table_sizes.specs.Groups.{ip4_key_len, ip6_key_len}
use Rattle.table_sizes.specs.Sizes.{max_rules}
use Rattle.flat_table.specs.Table.{TableView}
use Rattle.table_image.specs.declared.version.Version.{Version}
use Rattle.table_image.specs.declared.version.Version.TheVariants.{Two}
use Rattle.table_image.specs.declared.load_fault.ImageFault.{ImageFault}
use Rattle.table_image.specs.declared.load_fault.ImageKind.{ImageKind}
use Rattle.table_image.specs.declared.load_fault.ImageKind.TheVariants as kinds
use Rattle.table_image.specs.Spelling.{PairView, is_row_word, spelled_pair, IsImage}
use Rattle.table_image.specs.ImageReading.{image_of}
use Rattle.table_image.specs.Loading.{pair_of_tables}
use Rattle.acl_c.specs.Codes.{ok, no_memory, no_image, no_room}
use Rattle.acl_c.specs.Shared.{SharedView, without_lanes}

-- the code of what a check of an image found
abbrev pub image_code : ImageKind → ℕ
image_code kinds.Magic = 64
image_code kinds.Version = 65
image_code kinds.Family = 66
image_code kinds.Length = 67
image_code kinds.TooMany = 68
image_code kinds.Unsound = 69
image_code kinds.RowForm = 70
image_code kinds.Trailing = 71
image_code kinds.KeptGroups = 72

-- the words of a row are those of so many rules
unfoldable pub is_ranked_row : ℕ → List ℕ → Bool
is_ranked_row rules row = list_all (is_row_word rules) row

-- an image may have the table as that of keys of so many bytes: each table that answers as rules do
-- has no more than a context may hold, and rows of their ranks
abbrev pub can_be_saved : ℕ → TableView → Bool
can_be_saved key_len table = table.key_len == key_len && nat_le table.rules max_rules
    && list_all (is_ranked_row table.rules) (drop 1 table.rows)

-- both may be those of an image: keys have 13 bytes in the first and 37 in the second
abbrev pub are_saved : TableView → TableView → Bool
are_saved ip4 ip6 = can_be_saved ip4_key_len ip4 && can_be_saved ip6_key_len ip6

-- the bytes of their image
abbrev pub image_bytes : TableView → TableView → List ℕ
image_bytes ip4 ip6 = spelled_pair Two (pair_of_tables ip4 ip6)

-- What saving makes of the room for an image and of the length before it, and what it answers.
pub record Saves (ip4 ip6 : TableView) (before after : List ℕ) (len_before len code : ℕ) :
    Type 0 where
  pub unfit : are_saved ip4 ip6 ≡ false → (code ≡ no_image) × (len ≡ len_before)
  pub short : are_saved ip4 ip6 ≡ true → length before < length (image_bytes ip4 ip6) →
      ((code ≡ no_room) × (len ≡ length (image_bytes ip4 ip6)))
      ⊎ ((code ≡ no_memory) × (len ≡ len_before))
  pub fits : are_saved ip4 ip6 ≡ true → length (image_bytes ip4 ip6) ≤ length before →
      ((code ≡ ok) × (len ≡ length (image_bytes ip4 ip6)))
      ⊎ ((code ≡ no_memory) × (len ≡ len_before))
  pub saved : code ≡ ok →
      after ≡ image_bytes ip4 ip6 ++ drop (length (image_bytes ip4 ip6)) before
  pub image : code ≡ ok → IsImage Two (image_bytes ip4 ip6) (pair_of_tables ip4 ip6)
  pub kept : (code == ok) ≡ false → after ≡ before

-- the handles lead to the tables of a pair, or to nothing
abbrev pub AreLoaded : PairView → Option SharedView → Option SharedView → ℕ → Type 0
AreLoaded pair ip4 ip6 code =
    ((code ≡ ok) × (ip4 ≡ Some (without_lanes pair.ip4)) × (ip6 ≡ Some (without_lanes pair.ip6)))
    ⊎ ((code ≡ no_memory) × (ip4 ≡ None) × (ip6 ≡ None))

-- the fault is told, unless memory ran out before
abbrev pub IsToldFault : ImageFault → ℕ → ℕ → ℕ → Type 0
IsToldFault fault before after code =
    ((code ≡ image_code fault.kind) × (after ≡ fault.place))
    ⊎ ((code ≡ no_memory) × (after ≡ before))

-- What loading makes of two empty handles and of the place before it, and what it answers. Of an
-- image, as `aclc_save` writes it, the pair is read that it was saved from.
pub record Loads (bytes : List ℕ) (ip4 ip6 : Option SharedView) (before after code : ℕ) :
    Type 0 where
  pub pair : (pair : PairView) → image_of bytes ≡ Ok pair →
      AreLoaded pair ip4 ip6 code × (after ≡ before)
  pub fault : (fault : ImageFault) → image_of bytes ≡ Err fault →
      (ip4 ≡ None) × (ip6 ≡ None) × IsToldFault fault before after code
  pub image : (version : Version) (pair : PairView) → IsImage version bytes pair →
      image_of bytes ≡ Ok pair
