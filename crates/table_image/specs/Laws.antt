-- Laws of images, over their definitions alone.
use Rattle.std.specs.Prelude.{◌≡◌, ℕ, ◌+◌, ◌-◌, ◌*◌, ◌<◌, ◌≤◌, ◌⊎◌, List, ◌++◌, length, All, Ok}
use Rattle.table_sizes.specs.Groups.{ip4_key_len, ip6_key_len}
use Rattle.table_sizes.specs.Sizes.{max_tries, max_words, row_len}
use Rattle.table_image.specs.declared.version.Version.{Version}
use Rattle.table_image.specs.declared.version.Version.TheVariants.{One, Two}
use Rattle.table_image.specs.Spelling.{PairView, spelled_pair, IsSaved, IsImage, long}
use Rattle.table_image.specs.ImageReading.{image_of}

-- In each version a pair has at most one image. No two pairs share one, whatever their versions.
pub record OneSpelling : Type 0 where
  pub one : (version : Version) (pair : PairView) (bytes other : List ℕ) →
      IsImage version bytes pair → IsImage version other pair → bytes ≡ other
  pub shared : (version second : Version) (pair other : PairView) (bytes : List ℕ) →
      IsImage version bytes pair → IsImage second bytes other → pair ≡ other

-- What is read of bytes is the pair of which they are the image, and of every image its pair is
-- read. So bytes have a first failing check exactly where they are the image of no pair. What is
-- saved of a pair is read as that pair.
pub record ReadsImages : Type 0 where
  pub read : (bytes : List ℕ) (pair : PairView) → All (λ byte. byte < 256) bytes →
      image_of bytes ≡ Ok pair → IsImage One bytes pair ⊎ IsImage Two bytes pair
  pub image : (version : Version) (bytes : List ℕ) (pair : PairView) →
      IsImage version bytes pair → image_of bytes ≡ Ok pair
  pub saved : (version : Version) (pair : PairView) → IsSaved version ip4_key_len pair.ip4 →
      IsSaved version ip6_key_len pair.ip6 → image_of (spelled_pair version pair) ≡ Ok pair

-- how many bytes a trie takes at most before the words: its kept groups, a length for each byte of
-- a key, and its root
abbrev pub longest_trie : ℕ → ℕ
longest_trie key_len = 12 + 4 * key_len

-- how many bytes a table takes at most: four numbers, its tries, and its words and rows, but row 0
abbrev pub longest_table : ℕ → ℕ
longest_table key_len = 16 + longest_trie key_len * max_tries + long * (max_words - row_len)

-- how many bytes an image has at most
abbrev pub longest_image : ℕ
longest_image = 8 + longest_table ip4_key_len + longest_table ip6_key_len

-- No image is longer than the longest, and bytes that come after more than so many change no
-- answer: all such bytes are refused by the same check.
pub record ReadsFirstBytes : Type 0 where
  pub longest : (bytes : List ℕ) (pair : PairView) → image_of bytes ≡ Ok pair →
      length bytes ≤ longest_image
  pub first : (bytes more : List ℕ) → longest_image < length bytes →
      image_of (bytes ++ more) ≡ image_of bytes
