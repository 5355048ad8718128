-- The texts of IPv4 and IPv6 addresses: read part by part, cut at `::` anywhere, and read as they were printed.
use Rattle.std.proofs.lemmas.Bool.Decides.{nat_tests}
use Rattle.std.proofs.Common.{◌≡◌, ℕ, eqb, false, List, [], ◌∷◌, length, None, refl, ap, ◌∙◌, zero, suc, ◌+◌, ◌-◌, ◌*◌}
use Rattle.std.proofs.Common.{◌^◌, ◌<◌, ◌≤◌, true, ◌&&◌, cond, nat_le, ◌++◌, take, get_or, Some, sym, arith, inl, inr}
use Rattle.std.proofs.Common.{zero-add, length-append, drop, nat_eq, codes, ◌≢◌, append_assoc, ◌/◌, map, ◌%◌}
use Rattle.std.proofs.Common.{append-nil, Bool, ◌||◌}
use Rattle.std.proofs.lemmas.Bool.{and_left, and_right, cond-false, and_from, and_parts, cond-true, cases_Bool}
use Rattle.std.proofs.lemmas.Bool.{cond_both, or_left, and_cases, lt-leb, leb-false, le-leb, ne_eqb, eqb-false, lt-ltb}
use Rattle.std.proofs.lemmas.Bool.{leb-true, le-ltb, eq-eqb, or_right}
use Rattle.std.specs.List.{list_all, starts_with, join_with_byte, AllByRecursion, fold, list_any}
use Rattle.text_scan.specs.Parts.{dot, parts_of, colon}
use Rattle.text_scan.specs.Ip4.{is_ip4_group, ip4_of, address_of, is_ip4}
use Rattle.text_scan.specs.Ip4Text.{ip4_bytes, ip4_spelling}
use Rattle.std.proofs.lemmas.Grind.{flat_map-append}
use Rattle.std.proofs.lemmas.List.{take_more, length_push, take_at, append-nil, drop_at}
use Rattle.std.proofs.lemmas.List.Folds.{list_all-append, list_all-map, list_all_at}
use Rattle.std.proofs.lemmas.List.Sums.{fold-append}
use Rattle.text_scan.specs.declared.pieces.Pieces.{Pieces}
use Rattle.text_scan.specs.Digits.{place_value, are_digits}
use Rattle.text_scan.specs.Ip6.{is_ip6_group, is_ip6_end, pieces_of, are_groups, are_last_groups, pieces_of_all, joined}
use Rattle.text_scan.specs.Ip6.{has_gap, groups_before, groups_after, is_shortened, filled_pieces, ip6_of, gap_place}
use Rattle.text_scan.specs.Ip6.{groups_of, is_full}
use Rattle.text_scan.specs.Ip6Text.{ip6_pieces, ip6_spelling}
use Rattle.text_scan.specs.Pieces.{with_pieces, pieces_from}
use Rattle.list_lemmas.proofs.Tests.{and_true}
use Rattle.list_lemmas.proofs.Texts.{joined-filled, Lacks-digits, parts_of_one, Lacks, some_part, first_of_join}
use Rattle.list_lemmas.proofs.Texts.{AllBelow, eight_fit, parts_of_join, joined_digits_fit}
use Rattle.std.proofs.lemmas.List.Splits.{join_with_byte-slice_split}
use Rattle.std.proofs.lemmas.Nat.{mod_below}
use Rattle.std.specs.Fmt.{digits, decimal}
use Rattle.list_lemmas.proofs.Joins.{length-join_with_byte-take, all-join}
use Rattle.std.proofs.Math.Nat.{div-eq_of_lt, div-one}
use Rattle.std.specs.Char.{is_digit}
use Rattle.byte_numbers.specs.Number.{number_of}
use Rattle.list_lemmas.proofs.Powers.{descending, spell_down}
use Rattle.list_lemmas.proofs.Elements.{list_all-take, list_all_from, all_map, map_back, any-append, list_all_weaker}
use Rattle.text_scan.proofs.Numerals.{digits_spelled, decimal_spelled, group_spelled}

-- four parts are the address that they spell as groups
pub ip4_of-four : (text first second third fourth : List ℕ)
    → parts_of dot text ≡ first ∷ second ∷ third ∷ fourth ∷ []
    → ip4_of text ≡ address_of (first ∷ second ∷ third ∷ fourth ∷ [])
ip4_of-four text first second third fourth parts = rw parts refl

-- and another number of parts is no address
pub ip4_of-other : (text : List ℕ) (parts : List (List ℕ)) → parts_of dot text ≡ parts → eqb (length parts) 4 ≡ false
    → ip4_of text ≡ None
ip4_of-other text parts is other =
    let count : eqb (length (parts_of dot text)) 4 ≡ false =
    ap (λ (ps : List (List ℕ)). eqb (length ps) 4) is ∙ other in
    cond-false _ _ _ (and_left (eqb (length (parts_of dot text)) 4) (list_all is_ip4_group (parts_of dot text)) count)

-- groups of which one is none are no address
pub address_of-none : (groups : List (List ℕ)) (k : ℕ) → k < length groups → is_ip4_group (get_or groups k []) ≡ false
    → address_of groups ≡ None
address_of-none groups k inside none = cond-false _ _ _ (list_all_at is_ip4_group groups k [] inside none)

-- a group is no IPv4 address: it has no dot
pub group_no_ip4 : (part : List ℕ) → is_ip6_group part ≡ true → is_ip4 part ≡ false
group_no_ip4 part group =
    let lacks = Lacks-digits 16 dot part refl
    (and_parts (nat_le 1 (length part) && nat_le (length part) 4) _ group).1 in
    and_left (eqb (length (parts_of dot part)) 4) _ (ap (λ ps. eqb (length ps) 4) (parts_of_one dot part lacks))

-- so it stands for one number
pub pieces_of_group : (part : List ℕ) → is_ip6_group part ≡ true → pieces_of part ≡ place_value 16 part ∷ []
pieces_of_group part group = cond-false _ _ _ (group_no_ip4 part group)

-- each part stands for a number at least
some_piece : (part : List ℕ) → 0 < length (pieces_of part)
some_piece part = cond_both (is_ip4 part) _ _ (λ ns. 0 < length ns) (λ e. omega arith) (λ e. omega arith)

-- the pieces of one part more
pub pieces_of_all_next : (parts : List (List ℕ)) (n : ℕ) (part : List ℕ)
    → (n < length parts) × (part ≡ get_or parts n part)
    → pieces_of_all (take (n + 1) parts) ≡ pieces_of_all (take n parts) ++ pieces_of part
pieces_of_all_next parts n part at =
    ap pieces_of_all (take_more parts n part at.0)
    ∙ flat_map-append pieces_of (take n parts) (get_or parts n part ∷ [])
    ∙ ap (λ ns. pieces_of_all (take n parts) ++ ns)
    (append-nil (pieces_of (get_or parts n part)) ∙ ap pieces_of (sym at.1))

-- parts that are left have pieces that are left
pub more_pieces : (parts : List (List ℕ)) (n : ℕ) → n < length parts
    → length (pieces_of_all (take n parts)) < length (pieces_of_all parts)
more_pieces [] n inside = absurd (omega arith)
more_pieces (part ∷ parts) zero inside =
    omega (arith, some_piece part, length-append (pieces_of part) (pieces_of_all parts))
more_pieces (part ∷ parts) (suc n) inside =
    let more = length-append (pieces_of part) (pieces_of_all (take n parts)) in
    omega (arith, more_pieces parts n (omega arith), length-append (pieces_of part) (pieces_of_all parts))

-- pieces after pieces
pub with_pieces-append : (before : Pieces) (xs ys : List ℕ)
    → with_pieces (with_pieces before xs) ys ≡ with_pieces before (xs ++ ys)
with_pieces-append before xs ys =
    let count : before.count + length xs + length ys ≡ before.count + length (xs ++ ys) =
    omega (arith, length-append xs ys) in
    let value = sym (fold-append (λ n x. n * 65536 + x) before.value xs ys) in
    λ i. record { count = count i; value = value i }

-- the number of a group after those of the groups before it
pub pieces_next : (parts : List (List ℕ)) (n number : ℕ) (part : List ℕ) (pieces : Pieces)
    → (n < length parts) × (part ≡ get_or parts n part) → is_ip6_group part ≡ true → number ≡ place_value 16 part
    → pieces ≡ pieces_from (pieces_of_all (take n parts))
    → with_pieces pieces (number ∷ []) ≡ pieces_from (pieces_of_all (take (n + 1) parts))
pieces_next parts n number part pieces at group is before =
    ap (λ m. with_pieces pieces (m ∷ [])) is
    ∙ ap (λ ms. with_pieces pieces ms) (sym (pieces_of_group part group))
    ∙ ap (λ start. with_pieces start (pieces_of part)) before
    ∙ with_pieces-append (record { count = 0; value = 0 }) (pieces_of_all (take n parts)) (pieces_of part)
    ∙ ap pieces_from (sym (pieces_of_all_next parts n part at))

-- groups may stand last
pub groups_are_ends : (groups : List (List ℕ)) → are_groups groups ≡ true → list_all is_ip6_end groups ≡ true
groups_are_ends [] all = refl
groups_are_ends (group ∷ groups) all =
    let parts = and_parts (is_ip6_group group) (are_groups groups) all in
    and_from (is_ip6_end group) _ (or_left (is_ip6_group group) (is_ip4 group) parts.0) (groups_are_ends groups parts.1)

-- groups and a last part that may be an IPv4 address
pub are_last_groups_push : (front : List (List ℕ)) (last : List ℕ)
    → are_last_groups (front ++ last ∷ []) ≡ (are_groups front && is_ip6_end last)
are_last_groups_push front last =
    let before : take (length (front ++ last ∷ []) - 1) (front ++ last ∷ []) ≡ front =
    take_at front (last ∷ []) (length (front ++ last ∷ []) - 1) (omega (arith, length_push front last)) in
    ap (λ groups. are_groups groups && list_all is_ip6_end (front ++ last ∷ [])) before
    ∙ elim (cases_Bool (are_groups front)) [
      | inl all ↦ rw (all, list_all-append is_ip6_end front (last ∷ []), groups_are_ends front all)
          (and_true (is_ip6_end last))
      | inr other ↦ rw other refl
    ]

-- the pieces of groups and of a last part
pieces_of_all_push : (front : List (List ℕ)) (last : List ℕ)
    → pieces_of_all (front ++ last ∷ []) ≡ pieces_of_all front ++ pieces_of last
pieces_of_all_push front last =
    flat_map-append pieces_of front (last ∷ []) ∙ ap (λ ns. pieces_of_all front ++ ns) (append-nil (pieces_of last))

-- reading the last part after groups reads them all
pub read_last : (front : List (List ℕ)) (last : List ℕ) (pieces : Pieces) → are_groups front ≡ true
    → pieces ≡ pieces_from (pieces_of_all front)
    → cond (is_ip6_end last && nat_le (pieces.count + length (pieces_of last)) 8)
    (Some (with_pieces pieces (pieces_of last))) None ≡ cond
    (are_last_groups (front ++ last ∷ []) && nat_le (length (pieces_of_all (front ++ last ∷ []))) 8)
    (Some (pieces_from (pieces_of_all (front ++ last ∷ [])))) None
read_last front last pieces all is =
    let whole = pieces_of_all_push front last in
    let tests : is_ip6_end last ≡ are_last_groups (front ++ last ∷ []) =
    sym (are_last_groups_push front last ∙ ap (λ t. t && is_ip6_end last) all) in
    let counts : pieces.count + length (pieces_of last) ≡ length (pieces_of_all (front ++ last ∷ [])) =
    omega (arith, ap (λ ns. ns.count) is, ap length whole, length-append (pieces_of_all front) (pieces_of last)) in
    let values : with_pieces pieces (pieces_of last) ≡ pieces_from (pieces_of_all (front ++ last ∷ [])) =
    ap (λ start. with_pieces start (pieces_of last)) is
    ∙ with_pieces-append (record { count = 0; value = 0 }) (pieces_of_all front) (pieces_of last)
    ∙ ap pieces_from (sym whole) in
    λ i. cond (tests i && nat_le (counts i) 8) (Some (values i)) None

-- groups that are refused refuse a text with a last part after them too
pub refused_before_last : (front : List (List ℕ)) (last : List ℕ)
    → (are_groups front && nat_le (length (pieces_of_all front)) 8) ≡ false
    → (are_last_groups (front ++ last ∷ []) && nat_le (length (pieces_of_all (front ++ last ∷ []))) 8) ≡ false
refused_before_last front last refused =
    elim (and_cases (are_groups front) _ refused) [
      | inl other ↦
          and_left (are_last_groups (front ++ last ∷ [])) _
          (are_last_groups_push front last ∙ and_left (are_groups front) _ other)
      | inr many ↦ and_right (are_last_groups (front ++ last ∷ [])) _
          (let long = ap length (pieces_of_all_push front last)
          ∙ length-append (pieces_of_all front) (pieces_of last) in
          lt-leb _ 8 (omega (arith, leb-false (length (pieces_of_all front)) 8 many)))
    ]

-- an address with `::`
pub ip6_of_shortened : (text : List ℕ) (before after : Pieces) (value : ℕ) → has_gap text ≡ true
    → are_groups (groups_before text) ≡ true → before ≡ pieces_from (pieces_of_all (groups_before text))
    → are_last_groups (groups_after text) ≡ true → after ≡ pieces_from (pieces_of_all (groups_after text))
    → before.count + after.count ≤ 7 → value ≡ before.value * 65536 ^ (8 - before.count) + after.value
    → Some value ≡ ip6_of text
ip6_of_shortened text before after value gap first before_is last after_is few is =
    let xs = pieces_of_all (groups_before text) in
    let ys = pieces_of_all (groups_after text) in
    let counts : length xs + length ys ≤ 7 =
    omega (arith, ap (λ ns. ns.count) before_is, ap (λ ns. ns.count) after_is) in
    let shortened : is_shortened text ≡ true =
    and_from (are_groups (groups_before text) && are_last_groups (groups_after text)) _
    (and_from (are_groups (groups_before text)) _ first last) (le-leb (length xs + length ys) 7 counts) in
    let power : before.value * 65536 ^ (8 - before.count) ≡ joined xs * 65536 ^ (8 - length xs) =
    ap (λ ns. ns.value * 65536 ^ (8 - ns.count)) before_is
    ∙ ap (λ n. joined xs * 65536 ^ (8 - n)) (zero-add (length xs)) in
    let sum : value ≡ joined (filled_pieces xs ys) =
    omega (arith, is, power, ap (λ ns. ns.value) after_is, joined-filled xs ys counts) in
    ap (λ n. Some n) sum ∙ sym (cond-true (has_gap text) _ _ gap ∙ cond-true (is_shortened text) _ _ shortened)

-- where the rest of a text begins with `::`, that is the first one of the rest
pub gap_place-at : (text : List ℕ) (place : ℕ) → starts_with nat_eq (drop place text) (codes "::") ≡ true
    → gap_place (drop place text) ≡ 0
gap_place-at [] zero here = refl
gap_place-at [] (suc place) here = refl
gap_place-at (c ∷ cs) zero here = cond-true _ _ _ here
gap_place-at (c ∷ cs) (suc place) here = gap_place-at cs place here

-- where it doesn't, the first one stands one byte on
pub gap_place-past : (text : List ℕ) (place : ℕ) → place < length text
    → starts_with nat_eq (drop place text) (codes "::") ≡ false
    → gap_place (drop place text) ≡ suc (gap_place (drop (suc place) text))
gap_place-past [] place inside other = absurd (omega arith)
gap_place-past (c ∷ cs) zero inside other = cond-false _ _ _ other
gap_place-past (c ∷ cs) (suc place) inside other = gap_place-past cs place (omega arith) other

-- a text without `:` moves the first `::` of what is after it
gap_place-append : (xs ys : List ℕ) → Lacks colon xs → gap_place (xs ++ ys) ≡ length xs + gap_place ys
gap_place-append [] ys lacks = omega arith
gap_place-append (x ∷ xs) ys lacks =
    let other : nat_eq colon x ≡ false =
    ne_eqb colon x (λ same. eqb-false x colon (lacks 0 0 (omega arith)) (sym same)) in
    cond-false _ _ _ (and_left (nat_eq colon x) _ other)
    ∙ omega (arith, gap_place-append xs ys (λ k d inside. lacks (suc k) d (omega arith)))

-- a `:` is no `::` where another byte is after it
gap_place-colon : (text : List ℕ) → get_or text 0 0 ≢ colon → gap_place (colon ∷ text) ≡ suc (gap_place text)
gap_place-colon [] other = refl
gap_place-colon (c ∷ cs) other =
    cond-false _ _ _ (and_left (nat_eq colon c) _ (ne_eqb colon c (λ same. other (sym same))))

-- parts that aren't empty and have no `:` in them
abbrev pub ArePlain : List (List ℕ) → Type 0
ArePlain parts = AllByRecursion (λ part. (0 < length part) × Lacks colon part) parts

-- such parts, joined by `:`, have no `::`, nor a beginning of one
pub gap_place-join : (parts : List (List ℕ)) (after : List ℕ) → 0 < length parts → ArePlain parts
    → gap_place (join_with_byte colon parts ++ after) ≡ length (join_with_byte colon parts) + gap_place after
gap_place-join [] after some plain = absurd (omega arith)
gap_place-join (part ∷ []) after some plain = gap_place-append part after plain.0.1
gap_place-join (part ∷ [] ∷ parts) after some plain = absurd (omega (arith, plain.1.0.0))
gap_place-join (part ∷ (c ∷ next) ∷ parts) after some plain =
    let rest = join_with_byte colon ((c ∷ next) ∷ parts) in
    let other : get_or (rest ++ after) 0 0 ≢ colon =
    λ same. eqb-false c colon (plain.1.0.1 0 0 (omega arith)) (sym (first_of_join colon c next parts after) ∙ same) in
    let moved = ap gap_place (append_assoc part (colon ∷ rest) after) in
    let first = gap_place-append part (colon ∷ (rest ++ after)) plain.0.1 in
    let further = gap_place-join ((c ∷ next) ∷ parts) after (omega arith) plain.1 in
    omega (arith, moved, first, gap_place-colon (rest ++ after) other, further, length-append part (colon ∷ rest))

-- groups aren't empty and have no `:` in them
plain_groups : (groups : List (List ℕ)) → are_groups groups ≡ true → ArePlain groups
plain_groups [] all = tt
plain_groups (group ∷ groups) all =
    let parts = and_parts (is_ip6_group group) (are_groups groups) all in
    let group_parts = and_parts (nat_le 1 (length group) && nat_le (length group) 4) (are_digits 16 group) parts.0 in
    let some = leb-true 1 (length group)
    (and_parts (nat_le 1 (length group)) (nat_le (length group) 4) group_parts.0).0 in
    ((some, Lacks-digits 16 colon group refl group_parts.1), plain_groups groups parts.1)

-- the first `::` after groups is the one that stands there
gap_place-groups : (before after : List ℕ) → are_groups (groups_of before) ≡ true
    → gap_place (before ++ colon ∷ colon ∷ after) ≡ length before
gap_place-groups [] after all = refl
gap_place-groups (c ∷ cs) after all =
    let text : List ℕ = c ∷ cs in
    let parts : groups_of text ≡ parts_of colon text =
    cond-false _ _ _ (ne_eqb (length text) 0 (λ empty. omega arith)) in
    let whole : join_with_byte colon (parts_of colon text) ≡ text = join_with_byte-slice_split colon text in
    ap (λ t. gap_place (t ++ colon ∷ colon ∷ after)) (sym whole)
    ∙ gap_place-join (parts_of colon text) (colon ∷ colon ∷ after) (some_part colon text)
    (plain_groups (parts_of colon text) (ap are_groups (sym parts) ∙ all))
    ∙ omega (arith, ap length whole)

-- groups, `::` and groups are an address
pub ip6_of-gap : (before after : List ℕ) → are_groups (groups_of before) ≡ true
    → are_last_groups (groups_of after) ≡ true
    → length (pieces_of_all (groups_of before)) + length (pieces_of_all (groups_of after)) ≤ 7
    → ip6_of (before ++ codes "::" ++ after) ≡ Some
    (joined (filled_pieces (pieces_of_all (groups_of before)) (pieces_of_all (groups_of after))))
ip6_of-gap before after first last few =
    let text = before ++ colon ∷ colon ∷ after in
    let place = gap_place-groups before after first in
    let gap : has_gap text ≡ true =
    lt-ltb (gap_place text) (length text) (omega (arith, place, length-append before (colon ∷ colon ∷ after))) in
    let left : groups_before text ≡ groups_of before = ap (λ n. groups_of (take n text)) place
    ∙ ap groups_of (take_at before (colon ∷ colon ∷ after) (length before) refl) in
    let whole : before ++ colon ∷ colon ∷ [] ++ after ≡ text = append_assoc before (colon ∷ colon ∷ []) after in
    let rest : drop (length before + 2) text ≡ after = ap (drop (length before + 2)) (sym whole)
    ∙ drop_at (before ++ colon ∷ colon ∷ []) after (length before + 2)
    (length-append before (colon ∷ colon ∷ [])) in
    let right : groups_after text ≡ groups_of after = ap (λ n. groups_of (drop (n + 2) text)) place
    ∙ ap groups_of rest in
    let tests : (are_groups (groups_of before) && are_last_groups (groups_of after) && nat_le
    (length (pieces_of_all (groups_of before)) + length (pieces_of_all (groups_of after))) 7) ≡ true =
    and_from (are_groups (groups_of before) && are_last_groups (groups_of after)) _
    (and_from (are_groups (groups_of before)) _ first last) (le-leb _ 7 few) in
    let shortened : is_shortened text ≡ true =
    (λ i. are_groups (left i) && are_last_groups (right i) && nat_le
    (length (pieces_of_all (left i)) + length (pieces_of_all (right i))) 7) ∙ tests in
    ap ip6_of whole
    ∙ cond-true _ _ _ gap
    ∙ cond-true _ _ _ shortened
    ∙ (λ i. Some (joined (filled_pieces (pieces_of_all (left i)) (pieces_of_all (right i)))))

-- the bytes and the numbers of an address
pub bytes_below : (value : ℕ) → AllBelow 256 (ip4_bytes value)
bytes_below value =
    let below = λ (n : ℕ). mod_below n 256 (omega arith) in
    (below (value / 0x100_0000), (below (value / 0x1_0000), (below (value / 0x100), (below value, tt))))

-- each of the eight pieces of an address has 16 bits
pub pieces_below : (value : ℕ) → AllBelow 65536 (ip6_pieces value)
pieces_below value =
    let below = λ (place : ℕ). mod_below (value / 65536 ^ place) 65536 (omega arith) in
    (below 7, (below 6, (below 5, (below 4, (below 3, (below 2, (below 1, (below 0, tt))))))))

-- the text of an IPv4 address has at most 15 bytes
pub length-ip4_spelling-le : (value : ℕ) → length (ip4_spelling value) ≤ 15
length-ip4_spelling-le value =
    let most = joined_digits_fit dot 256 10 2 (ip4_bytes value) (omega arith) (omega arith) (omega arith)
    (bytes_below value) in
    omega (arith, most (omega arith))

-- and that of an IPv6 address at most 39
pub length-ip6_spelling-le : (value : ℕ) → length (ip6_spelling value) ≤ 39
length-ip6_spelling-le value = eight_fit colon (ip6_pieces value) (pieces_below value) refl

-- a byte in decimal is a group
byte_group : (n : ℕ) → n < 256 → is_ip4_group (decimal n) ≡ true
byte_group n small =
    let group = group_spelled 10 2 n (omega arith) (omega arith) (omega arith) (omega arith) in
    let spelled = decimal_spelled n (omega arith) in
    grind (arith, nat_tests)

-- the bytes of an address spell it
bytes_spell : (value : ℕ) → value < 2 ^ 32 → number_of (ip4_bytes value) ≡ value
bytes_spell value small =
    ap (λ last. number_of (value / 0x100_0000 % 256 ∷ value / 0x1_0000 % 256 ∷ value / 0x100 % 256 ∷ last % 256 ∷ []))
    (sym (div-one value))
    ∙ ap (λ n. fold (λ m b. m * 256 + b) n (map (λ place. value / 256 ^ place % 256) (descending 4)))
    (sym (div-eq_of_lt {n = value} {m = 256 ^ 4} small))
    ∙ spell_down 256 value 4 (omega arith)

-- reading what was printed of an IPv4 address
pub ip4_of-ip4_spelling : (value : ℕ) → value < 2 ^ 32 → ip4_of (ip4_spelling value) ≡ Some value
ip4_of-ip4_spelling value small =
    let bytes = ip4_bytes value in
    let below = bytes_below value in
    let parts : parts_of dot (ip4_spelling value) ≡ map decimal bytes =
    parts_of_join dot (map decimal bytes) (omega arith) (all_map (λ n. n < 256) (Lacks dot) decimal
    (λ n few. Lacks-digits 10 dot (decimal n) refl (decimal_spelled n (omega arith)).digits) bytes below) in
    let read : is_ip4 (ip4_spelling value) ≡ true = ap (λ ps. eqb (length ps) 4 && list_all is_ip4_group ps) parts
    ∙ list_all-map is_ip4_group decimal bytes
    ∙ list_all_from (λ n. n < 256) (λ n. is_ip4_group (decimal n)) byte_group bytes below in
    let number = ap (λ ps. number_of (map (place_value 10) ps)) parts
    ∙ ap number_of (map_back (λ n. n < 256) decimal (place_value 10)
    (λ n few. (decimal_spelled n (omega arith)).value) bytes below) ∙ bytes_spell value small in
    cond-true _ _ _ read ∙ ap (λ n. Some n) number

-- a number of 16 bits in hexadecimal is a group of an IPv6 address, has a digit, and has no `:` in it
piece_group : (n : ℕ) → n < 65536 → is_ip6_group (digits 16 false n) ≡ true
piece_group n small = group_spelled 16 3 n (omega arith) (omega arith) small small

-- a piece in hexadecimal has at least one digit and no colon
piece_plain : (n : ℕ) → n < 65536 → (0 < length (digits 16 false n)) × Lacks colon (digits 16 false n)
piece_plain n small =
    let spelled = digits_spelled 16 n (omega arith) (omega arith) (omega arith) in
    (spelled.some, Lacks-digits 16 colon (digits 16 false n) refl spelled.digits)

-- the groups of numbers stand for the numbers
pieces_of_all-map : (numbers : List ℕ) → AllBelow 65536 numbers
    → pieces_of_all (map (digits 16 false) numbers) ≡ numbers
pieces_of_all-map [] all = refl
pieces_of_all-map (n ∷ numbers) all =
    let one : pieces_of (digits 16 false n) ≡ n ∷ [] = pieces_of_group (digits 16 false n) (piece_group n all.0)
    ∙ ap (λ m. m ∷ []) (digits_spelled 16 n (omega arith) (omega arith) (omega (arith, all.0))).value in
    rw (one, pieces_of_all-map numbers all.1) refl

-- the numbers of an address spell it
pieces_spell : (value : ℕ) → value < 2 ^ 128 → joined (ip6_pieces value) ≡ value
pieces_spell value small =
    ap (λ n. fold (λ m x. m * 65536 + x) n (ip6_pieces value)) (sym (div-eq_of_lt {n = value} {m = 65536 ^ 8} small))
    ∙ spell_down 65536 value 8 (omega arith)

-- reading what was printed of an IPv6 address
pub ip6_of-ip6_spelling : (value : ℕ) → value < 2 ^ 128 → ip6_of (ip6_spelling value) ≡ Some value
ip6_of-ip6_spelling value small =
    let numbers = ip6_pieces value in
    let below = pieces_below value in
    let texts = map (digits 16 false) numbers in
    let text = ip6_spelling value in
    let plain : ArePlain texts = all_map (λ n. n < 65536) (λ part. (0 < length part) × Lacks colon part)
    (digits 16 false) piece_plain numbers below in
    let some : 0 < length text =
    omega (arith, length-join_with_byte-take colon texts 1, (piece_plain (value / 65536 ^ 7 % 65536) below.0).0) in
    let none : has_gap text ≡ false =
    le-ltb (gap_place text) (length text)
    (omega (arith, ap gap_place (append-nil text), gap_place-join texts [] (omega arith) plain)) in
    let groups : groups_of text ≡ texts = cond-false _ _ _ (ne_eqb (length text) 0 (λ empty. omega arith))
    ∙ parts_of_join colon texts (omega arith) (all_map (λ n. n < 65536) (Lacks colon) (digits 16 false)
    (λ n few. (piece_plain n few).1) numbers below) in
    let all : are_groups texts ≡ true =
    list_all-map is_ip6_group (digits 16 false) numbers
    ∙ list_all_from (λ n. n < 65536) (λ n. is_ip6_group (digits 16 false n)) piece_group numbers below in
    let last : are_last_groups texts ≡ true =
    and_from (are_groups (take (length texts - 1) texts)) _
    (list_all-take is_ip6_group (length texts - 1) texts all) (groups_are_ends texts all) in
    let read = pieces_of_all-map numbers below in
    let full : is_full text ≡ true = ap (λ gs. are_last_groups gs && eqb (length (pieces_of_all gs)) 8) groups
    ∙ and_from (are_last_groups texts) _ last (ap (λ ns. eqb (length ns) 8) read) in
    let number : joined (pieces_of_all (groups_of text)) ≡ value = ap (λ gs. joined (pieces_of_all gs)) groups
    ∙ ap joined read ∙ pieces_spell value small in
    cond-false _ _ _ none ∙ cond-true _ _ _ full ∙ ap (λ n. Some n) number

-- a byte of an IPv4 address: a decimal digit or a dot
abbrev pub is_ip4_byte : ℕ → Bool
is_ip4_byte c = is_digit c 10 || eqb c dot

-- a byte of an IPv6 address: a hexadecimal digit or a colon
abbrev pub is_ip6_byte : ℕ → Bool
is_ip6_byte c = is_digit c 16 || eqb c colon

-- the bytes of numbers that are written with separators between them
spelling-bytes : (base separator bound : ℕ) (numbers : List ℕ) → 2 ≤ base → base ≤ 16 → bound ≤ 65536 →
    AllBelow bound numbers →
    list_all (λ c. is_digit c base || eqb c separator) (join_with_byte separator (map (digits base false) numbers))
    ≡ true
spelling-bytes base separator bound numbers low high few below =
    let test : ℕ → Bool = λ c. is_digit c base || eqb c separator in
    all-join test separator (map (digits base false) numbers) (or_right _ _ (eq-eqb separator separator refl))
    (all_map (λ n. n < bound) (λ part. list_all test part ≡ true) (digits base false)
    (λ n small. list_all_weaker (λ c. is_digit c base) test (digits base false n)
    (λ c digit. or_left (is_digit c base) _ digit) (digits_spelled base n low high (omega arith)).digits) numbers below)

-- the text of an IPv4 address has no other bytes than decimal digits and dots
pub ip4_spelling-bytes : (value : ℕ) → list_all is_ip4_byte (ip4_spelling value) ≡ true
ip4_spelling-bytes value =
    spelling-bytes 10 dot 256 (ip4_bytes value) (omega arith) (omega arith) (omega arith) (bytes_below value)

-- the text of an IPv6 address has no other bytes than hexadecimal digits and colons
pub ip6_spelling-bytes : (value : ℕ) → list_all is_ip6_byte (ip6_spelling value) ≡ true
ip6_spelling-bytes value =
    spelling-bytes 16 colon 65536 (ip6_pieces value) (omega arith) (omega arith) (omega arith) (pieces_below value)

-- an IPv6 address has a colon
pub ip6_spelling-colon : (value : ℕ) → list_any (λ c. eqb c colon) (ip6_spelling value) ≡ true
ip6_spelling-colon value = any-append (λ c. eqb c colon) (digits 16 false (value / 65536 ^ 7 % 65536)) _ colon refl
