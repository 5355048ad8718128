-- Laws of the relations between a desk's contents.
use Rattle.std.proofs.Common.{◌≡◌, ℕ, ◌+◌, ◌≤◌, List, [], ◌++◌, length, take, drop, Option, Some, None, sym, ◌∙◌, ap, refl, subst, append_assoc, add-zero, append-nil, arith, length-append}
use Rattle.std.proofs.Math.Seq.{take-append-add}
use Rattle.std.proofs.lemmas.List.{length-take-le, take-append-le, take-take, take_at, drop_at, take_all, drop_all}
use Rattle.acl_outside.specs.Told.{Changes}
use Rattle.acl_outside.specs.Desk.{Content, Gives}
use Rattle.acl_outside.specs.DeskReading.{GivesUpTo}

-- the bytes of two reads, one after the other
pub Gives-append : (first second : List ℕ) (old mid new : Content) → Gives first old mid → Gives second mid new →
    Gives (first ++ second) old new
Gives-append first second old mid new a b = record {
  files = b.files ∙ a.files;
  opened = b.opened ∙ a.opened;
  created = b.created ∙ a.created;
  left = a.left ∙ ap (λ xs. first ++ xs) b.left ∙ sym (append_assoc first second new.left);
}

-- as many bytes as the cap allows
pub Gives-capped : (cap : ℕ) (bytes : List ℕ) → length bytes ≡ cap → (old new : Content) → Gives bytes old new →
    GivesUpTo cap bytes old new
Gives-capped cap bytes full old new given = record {
  files = given.files;
  opened = given.opened;
  given = sym (ap (take cap) given.left ∙ take_at bytes new.left cap full);
  left = sym (ap (drop cap) given.left ∙ drop_at bytes new.left cap full);
  created = given.created;
}

-- all bytes that were left, of which the cap allows as many
pub Gives-whole : (cap : ℕ) (bytes : List ℕ) → length bytes ≤ cap → (old new : Content) → new.left ≡ [] →
    Gives bytes old new → GivesUpTo cap bytes old new
Gives-whole cap bytes few old new ended given =
    let whole : old.left ≡ bytes = given.left ∙ ap (λ xs. bytes ++ xs) ended ∙ append-nil bytes in
    record {
      files = given.files;
      opened = given.opened;
      given = sym (ap (take cap) whole ∙ take_all cap bytes few);
      left = ended ∙ sym (ap (drop cap) whole ∙ drop_all cap bytes few);
      created = given.created;
    }

-- Bytes were given, and then no more: nothing was left.
pub Changes-to_end : (cap : ℕ) (bytes : List ℕ) → length bytes ≤ cap → (old mid new : Option Content) →
    Changes (Gives bytes) old mid → ((content : Content) → mid ≡ Some content → content.left ≡ []) →
    Changes (Gives []) mid new →
    Changes (GivesUpTo cap bytes) old new
Changes-to_end cap bytes few None None None given ended last = tt
Changes-to_end cap bytes few (Some old) (Some mid) (Some new) given ended last =
    Gives-whole cap bytes few old new (sym last.left ∙ ended mid refl)
    record {
      files = last.files ∙ given.files;
      opened = last.opened ∙ given.opened;
      left = given.left ∙ ap (λ xs. bytes ++ xs) last.left;
      created = last.created ∙ given.created;
    }
Changes-to_end cap bytes few None (Some mid) new given ended last = absurd given
Changes-to_end cap bytes few (Some old) None new given ended last = absurd given
Changes-to_end cap bytes few None None (Some new) given ended last = absurd last
Changes-to_end cap bytes few (Some old) (Some mid) None given ended last = absurd last

-- what was read after the first len bytes of a list stands after them
pub take-read_after : (n len count : ℕ) (xs read rest later : List ℕ) → len ≤ length xs → count ≤ length read →
    len + count ≤ n →
    take (len + count) (take n ((take len xs ++ (read ++ rest)) ++ later)) ≡ take len xs ++ take count read
take-read_after n len count xs read rest later in_list in_read in_all =
    let all : List ℕ = take len xs ++ (read ++ rest) in
    let front : length (take len xs) ≡ len = length-take-le len xs in_list in
    let long : len + count ≤ length all = omega (
      arith,
      length-append (take len xs) (read ++ rest),
      length-append read rest,
    ) in
    take-take (len + count) n (all ++ later) in_all ∙ take-append-le (len + count) all later long ∙
    subst (λ k. take (k + count) all ≡ take len xs ++ take count (read ++ rest)) front
    (take-append-add (take len xs) (read ++ rest) count) ∙
    ap (λ ys. take len xs ++ ys) (take-append-le count read rest in_read)

-- and where nothing was read after them, the first len bytes are what they were
pub take-read_end : (n len : ℕ) (xs read rest later before : List ℕ) → len ≤ length xs → len ≤ n →
    take len xs ≡ take len before →
    take len (take n ((take len xs ++ (read ++ rest)) ++ later)) ≡ take len before
take-read_end n len xs read rest later before in_list in_all kept =
    ap (λ k. take k (take n ((take len xs ++ (read ++ rest)) ++ later))) (sym (add-zero len)) ∙
    take-read_after n len 0 xs read rest later in_list (omega arith) (omega arith) ∙ append-nil (take len xs) ∙ kept
