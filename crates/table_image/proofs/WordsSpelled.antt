-- Words that are spelled and sound are read.
use Rattle.std.proofs.Common.{◌≡◌, ℕ, ◌+◌, ◌*◌, ◌≤◌, List, [], ◌∷◌, ◌++◌, length, take, drop, sum}
use Rattle.std.proofs.Common.{sym, ap, ◌∙◌, arith, Bool, true, not, length-append, length-drop, append_assoc, Ok}
use Rattle.std.proofs.Common.{None}
use Rattle.std.specs.List.{list_all, position_from}
use Rattle.std.proofs.lemmas.List.{append-nil, take-append-drop, length-take-le}
use Rattle.std.proofs.lemmas.List.Sums.{sum_by-cons, sum_by-take-drop}
use Rattle.std.proofs.lemmas.Bool.{and_parts}
use Rattle.std.proofs.lemmas.List.Folds.{list_all-append}
use Rattle.std.proofs.lemmas.Grind.{flat_map-append}
use Rattle.flat_table.specs.declared.level.Level.{Level}
use Rattle.flat_table.specs.Table.{levels_from, portions}
use Rattle.flat_table.specs.Sound.{is_sound_word, first_level, words_in, unsound_word}
use Rattle.flat_table.proofs.Offered.{levels-take, levels-drop}
use Rattle.table_image.specs.declared.load_fault.ImageKind.TheVariants.{Unsound}
use Rattle.table_image.specs.Spelling.{long, spelled, all_spelled}
use Rattle.table_image.specs.ImageReading.{numbers_after, words_of_levels, words_of_tries}
use Rattle.list_lemmas.proofs.Rests.{after, part_of}
use Rattle.table_image.proofs.Readings.{both}
use Rattle.table_image.proofs.NumbersRead.{fits, numbers_spelled, length-all_spelled, all_tested}
use Rattle.table_image.proofs.WordsRead.{tries_fault}
use Rattle.list_lemmas.proofs.Options.{both_none}
use Rattle.list_lemmas.proofs.Searches.{none_fails}

-- numbers, and after them others of the same list
pub record InParts (size : ℕ) (bytes : List ℕ) (from : ℕ) (first one other rest : List ℕ) : Type 0 where
  pub here : drop (from + size * length first) bytes ≡ all_spelled size one ++ (all_spelled size other ++ rest)
  pub next : drop (from + size * length (first ++ one)) bytes ≡ all_spelled size other ++ rest

-- a list of numbers is spelled as its first part, and then the other one
pub in_parts : (size : ℕ) (bytes : List ℕ) (from : ℕ) (first one other rest : List ℕ) →
    drop (from + size * length first) bytes ≡ all_spelled size (one ++ other) ++ rest →
    InParts size bytes from first one other rest
in_parts size bytes from first one other rest e =
    let text : drop (from + size * length first) bytes ≡ all_spelled size one ++ (all_spelled size other ++ rest) =
    e ∙ ap (λ xs. xs ++ rest) (flat_map-append (spelled size) one other)
    ∙ append_assoc (all_spelled size one) (all_spelled size other) rest in
    let len : length (first ++ one) ≡ length first + length one = length-append first one in
    let sums : size * (length first + length one) ≡ size * length first + size * length one = omega arith in
    let place : from + size * length (first ++ one) ≡ from + size * length first + length (all_spelled size one) =
    rw (len, length-all_spelled size one) (omega (arith, sums)) in
    record {
      here = text;
      next = ap (λ k. drop k bytes) place
          ∙ after (from + size * length first) bytes (all_spelled size one) (all_spelled size other ++ rest) text;
    }

-- the words of a table from a place on stand in its bytes after the first ones, and the rest stands after them
pub record Spelled (bytes : List ℕ) (from p : ℕ) (first words rest : List ℕ) : Type 0 where
  pub place : p ≡ length first
  pub text : drop (from + long * length first) bytes ≡ all_spelled long words ++ rest
  pub small : list_all (fits long) words ≡ true

-- the first words, and the others after them
pub record Halves (bytes : List ℕ) (from p n : ℕ) (first words rest : List ℕ) : Type 0 where
  pub count_is : length (take n words) ≡ n
  pub here : Spelled bytes from p first (take n words) (all_spelled long (drop n words) ++ rest)
  pub next : Spelled bytes from (p + n) (first ++ take n words) (drop n words) rest

-- words are spelled as the first few of them, and then the others
pub halves : {p : ℕ} {rest : List ℕ} (bytes : List ℕ) (from n : ℕ) (first words : List ℕ) → n ≤ length words →
    Spelled bytes from p first words rest → Halves bytes from p n first words rest
halves {p = p} {rest = rest} bytes from n first words enough s =
    let whole : take n words ++ drop n words ≡ words = take-append-drop n words in
    let parts = in_parts long bytes from first (take n words) (drop n words) rest
    (s.text ∙ ap (λ xs. all_spelled long xs ++ rest) (sym whole)) in
    let fit = and_parts (list_all (fits long) (take n words)) (list_all (fits long) (drop n words))
    (sym (list_all-append (fits long) (take n words) (drop n words)) ∙ ap (list_all (fits long)) whole ∙ s.small) in
    let count : length (take n words) ≡ n = length-take-le n words enough in
    let place : p + n ≡ length (first ++ take n words) = omega (arith, s.place, length-append first (take n words)) in
    record {
      count_is = count;
      here = record { place = s.place; text = parts.here; small = fit.0 };
      next = record { place = place; text = parts.next; small = fit.1 };
    }

-- a list in three parts, of which the second is in two
in_order : (n : ℕ) (first words later : List ℕ) →
    first ++ (words ++ later) ≡ first ++ (take n words ++ (drop n words ++ later))
in_order n first words later =
    ap (λ xs. first ++ (xs ++ later)) (sym (take-append-drop n words))
    ∙ ap (λ xs. first ++ xs) (append_assoc (take n words) (drop n words) later)

-- the words of levels are read
pub words_spelled : {p : ℕ} {first rest : List ℕ} (rows : ℕ) (bytes : List ℕ) (from : ℕ) (lens words later : List ℕ) →
    length words ≡ sum lens → Spelled bytes from p first words rest →
    unsound_word rows (first ++ (words ++ later)) (levels_from p lens) ≡ None →
    words_of_levels rows bytes from (levels_from p lens) first ≡ Ok (first ++ words)
unfolding words_of_levels
words_spelled {first = first} rows bytes from [] [] later count s sound = ap Ok (sym (append-nil first))
words_spelled rows bytes from [] (w ∷ words) later count s sound = absurd (omega arith)
words_spelled {p = p} {first = first} rows bytes from (len ∷ lens) words later count s sound =
    let level : Level = record { from = p; len = len } in
    let levels : List Level = levels_from (p + len) lens in
    let test : ℕ → Bool = is_sound_word rows (first_level levels) in
    let total : sum (len ∷ lens) ≡ len + sum lens = sum_by-cons (λ n. n) len lens in
    let one : List ℕ = take len words in
    let other : List ℕ = drop len words in
    let h = halves bytes from len first words (omega arith) s in
    let order = in_order len first words later in
    let sounds = both_none (position_from (λ word. not (test word)) p (words_in (first ++ (words ++ later)) level))
    (unsound_word rows (first ++ (words ++ later)) levels) sound in
    let part : words_in (first ++ (words ++ later)) level ≡ one =
    ap (λ xs. take len (drop p xs)) order ∙ part_of p len first one (other ++ later) s.place (sym h.count_is) in
    let passes : list_all test one ≡ true =
    none_fails test p one (ap (position_from (λ word. not (test word)) p) (sym part) ∙ sounds.0) in
    let read : numbers_after Unsound long (λ _. test) bytes from len first ≡ Ok (first ++ one) =
    ap (λ n. numbers_after Unsound long (λ _. test) bytes from n first) (sym h.count_is)
    ∙ numbers_spelled Unsound long (λ _. test) bytes from first one _ (omega arith) h.here.text h.here.small
    (all_tested test first one passes) in
    let moved : first ++ (words ++ later) ≡ (first ++ one) ++ (other ++ later) =
    order ∙ sym (append_assoc first one (other ++ later)) in
    let others = words_spelled {p = p + len} {first = first ++ one} rows bytes from lens other later
    (omega (arith, length-drop len words)) h.next
    (ap (λ xs. unsound_word rows xs levels) (sym moved) ∙ sounds.1) in
    both (numbers_after Unsound long (λ _. test) bytes from len first)
    (λ more. words_of_levels rows bytes from levels more) (first ++ one) _ read
    (others ∙ ap Ok (append_assoc first one other ∙ ap (λ xs. first ++ xs) (take-append-drop len words)))

-- so are those of tries
pub tries_words_spelled : {p : ℕ} {first rest : List ℕ} (rows : ℕ) (bytes : List ℕ) (from : ℕ)
    (depths lens words later : List ℕ) → length lens ≡ sum depths → length words ≡ sum lens →
    Spelled bytes from p first words rest →
    tries_fault rows (portions depths (levels_from p lens)) (first ++ (words ++ later)) ≡ None →
    words_of_tries rows bytes from (portions depths (levels_from p lens)) first ≡ Ok (first ++ words)
unfolding words_of_tries
tries_words_spelled {first = first} rows bytes from [] [] [] later count total s sound = ap Ok (sym (append-nil first))
tries_words_spelled rows bytes from [] [] (w ∷ words) later count total s sound = absurd (omega arith)
tries_words_spelled rows bytes from [] (len ∷ lens) words later count total s sound = absurd (omega arith)
tries_words_spelled {p = p} {first = first} rows bytes from (depth ∷ depths) lens words later count total s sound =
    let own : List ℕ = take depth lens in
    let others : List ℕ = drop depth lens in
    let sums : sum own + sum others ≡ sum lens = sum_by-take-drop (λ (x : ℕ). x) lens depth in
    let deep : sum (depth ∷ depths) ≡ depth + sum depths = sum_by-cons (λ n. n) depth depths in
    let one : List ℕ = take (sum own) words in
    let other : List ℕ = drop (sum own) words in
    let h = halves bytes from (sum own) first words (omega arith) s in
    let order = in_order (sum own) first words later in
    let sounds = both_none (unsound_word rows (first ++ (words ++ later)) (take depth (levels_from p lens)))
    (tries_fault rows (portions depths (drop depth (levels_from p lens))) (first ++ (words ++ later))) sound in
    let here : words_of_levels rows bytes from (take depth (levels_from p lens)) first ≡ Ok (first ++ one) =
    ap (λ levels. words_of_levels rows bytes from levels first) (levels-take depth p lens)
    ∙ words_spelled rows bytes from own one (other ++ later) h.count_is h.here
    (ap (λ xs. unsound_word rows xs (levels_from p own)) (sym order)
    ∙ ap (unsound_word rows (first ++ (words ++ later))) (sym (levels-take depth p lens)) ∙ sounds.0) in
    let moved : first ++ (words ++ later) ≡ (first ++ one) ++ (other ++ later) =
    order ∙ sym (append_assoc first one (other ++ later)) in
    let rest_read = tries_words_spelled {p = p + sum own} {first = first ++ one} rows bytes from depths others other
    later (omega (arith, length-drop depth lens, count, deep))
    (omega (arith, length-drop (sum own) words, total, sums)) h.next
    (ap (tries_fault rows (portions depths (levels_from (p + sum own) others))) (sym moved)
    ∙ ap (λ levels. tries_fault rows (portions depths levels) (first ++ (words ++ later)))
    (sym (levels-drop depth p lens))
    ∙ sounds.1) in
    both (words_of_levels rows bytes from (take depth (levels_from p lens)) first)
    (λ more. words_of_tries rows bytes from (portions depths (drop depth (levels_from p lens))) more) (first ++ one) _
    here
    (ap (λ levels. words_of_tries rows bytes from (portions depths levels) (first ++ one)) (levels-drop depth p lens)
    ∙ rest_read ∙ ap Ok (append_assoc first one other ∙ ap (λ xs. first ++ xs) (take-append-drop (sum own) words)))
