-- The words of a table are read exactly where they are spelled and sound.
use Rattle.std.proofs.Common.{◌≡◌, ℕ, ◌+◌, ◌*◌, List, [], ◌∷◌, ◌++◌, length, take, drop, sum, map}
use Rattle.std.proofs.Common.{refl, sym, ap, ◌∙◌, arith, Bool, true, not, length-append, length-drop, append_assoc}
use Rattle.std.proofs.Common.{Ok, Option, None}
use Rattle.std.specs.List.{list_all, position_from}
use Rattle.std.specs.Option.{option_or}
use Rattle.std.proofs.lemmas.List.{append-nil}
use Rattle.std.proofs.lemmas.List.Sums.{sum_by-cons, sum_by-take-drop}
use Rattle.std.proofs.lemmas.Bool.{and_from}
use Rattle.std.proofs.lemmas.List.Folds.{list_all-append}
use Rattle.std.proofs.lemmas.Grind.{flat_map-append}
use Rattle.flat_table.specs.declared.level.Level.{Level}
use Rattle.flat_table.specs.Table.{levels_from, portions}
use Rattle.flat_table.specs.Sound.{is_sound_word, first_level, words_in, unsound_word, first_some}
use Rattle.flat_table.proofs.Offered.{levels-take, levels-drop}
use Rattle.table_image.specs.declared.load_fault.ImageKind.TheVariants.{Unsound}
use Rattle.table_image.specs.Spelling.{long, spelled, all_spelled}
use Rattle.table_image.specs.ImageReading.{numbers_after, words_of_levels, words_of_tries}
use Rattle.table_image.proofs.Fields.{AreBytes}
use Rattle.list_lemmas.proofs.Rests.{joined, part_of}
use Rattle.table_image.proofs.Readings.{of_both}
use Rattle.table_image.proofs.NumbersRead.{fits, numbers_read, tested_all}
use Rattle.list_lemmas.proofs.Searches.{none_found}

-- where two answers are none, they are so together
pub none_both : (one other : Option ℕ) → one ≡ None → other ≡ None → option_or one other ≡ None
none_both one other e f = rw (e, f) refl

-- what was read of words after the first ones: these words, which have no fault, whatever stands after them
pub record WordsAt (bytes : List ℕ) (from words : ℕ) (first all : List ℕ) (fault : List ℕ → Option ℕ) : Type 0 where
  pub more : List ℕ
  pub are : all ≡ first ++ more
  pub count_is : length more ≡ words
  pub text : drop (from + long * length first) bytes
      ≡ all_spelled long more ++ drop (from + long * (length first + words)) bytes
  pub small : list_all (fits long) more ≡ true
  pub sound : (later : List ℕ) → fault (first ++ (more ++ later)) ≡ None

-- words, and after them others
words_joined : {n m : ℕ} {all : List ℕ} {one other both : List ℕ → Option ℕ} (bytes : List ℕ) (from : ℕ)
    (first mid : List ℕ) → WordsAt bytes from n first mid one → WordsAt bytes from m mid all other →
    ((words : List ℕ) → one words ≡ None → other words ≡ None → both words ≡ None) →
    WordsAt bytes from (n + m) first all both
words_joined {n = n} {m = m} {one = one} {other = other} bytes from first mid here rest and =
    let len : length mid ≡ length first + n = ap length here.are ∙ length-append first here.more
    ∙ omega (arith, here.count_is) in
    let text : drop (from + long * (length first + n)) bytes
    ≡ all_spelled long rest.more ++ drop (from + long * (length first + (n + m))) bytes =
    ap (λ k. drop (from + long * k) bytes) (sym len) ∙ rest.text
    ∙ ap (λ k. all_spelled long rest.more ++ drop (from + long * k) bytes) (omega (arith, len)) in
    record {
      more = here.more ++ rest.more;
      are = rest.are ∙ ap (λ xs. xs ++ rest.more) here.are ∙ append_assoc first here.more rest.more;
      count_is = length-append here.more rest.more ∙ omega (arith, here.count_is, rest.count_is);
      text = joined (drop (from + long * length first) bytes) (all_spelled long here.more) (all_spelled long rest.more)
          _ _
          here.text text
          ∙ ap (λ xs. xs ++ drop (from + long * (length first + (n + m))) bytes)
          (sym (flat_map-append (spelled long) here.more rest.more));
      small = list_all-append (fits long) here.more rest.more ∙ and_from _ _ here.small rest.small;
      sound = λ later.
          let whole : first ++ ((here.more ++ rest.more) ++ later) ≡ first ++ (here.more ++ (rest.more ++ later)) =
          ap (λ xs. first ++ xs) (append_assoc here.more rest.more later) in
          let moved : mid ++ (rest.more ++ later) ≡ first ++ ((here.more ++ rest.more) ++ later) =
          ap (λ xs. xs ++ (rest.more ++ later)) here.are ∙ append_assoc first here.more (rest.more ++ later)
          ∙ sym whole in
          and (first ++ ((here.more ++ rest.more) ++ later))
          (ap one whole ∙ here.sound (rest.more ++ later)) (ap other (sym moved) ∙ rest.sound later);
    }

-- the fault of a level's words
abbrev level_fault : ℕ → Level → List Level → List ℕ → Option ℕ
level_fault rows level levels words =
    position_from (λ word. not (is_sound_word rows (first_level levels) word)) level.from (words_in words level)

-- the words of a trie that were read are sound and stand in the bytes
pub words_read : (rows : ℕ) (bytes : List ℕ) (from : ℕ) (lens : List ℕ) (p : ℕ) (first all : List ℕ) → AreBytes bytes →
    p ≡ length first → words_of_levels rows bytes from (levels_from p lens) first ≡ Ok all →
    WordsAt bytes from (sum lens) first all (λ words. unsound_word rows words (levels_from p lens))
unfolding words_of_levels
words_read rows bytes from [] p first all are place e =
    let same : first ≡ all = cc in
    record {
      more = [];
      are = sym same ∙ sym (append-nil first);
      count_is = refl;
      text = ap (λ k. drop (from + long * k) bytes) (omega arith);
      small = refl;
      sound = λ later. refl;
    }
words_read rows bytes from (len ∷ lens) p first all are place e =
    let level : Level = record { from = p; len = len } in
    let levels : List Level = levels_from (p + len) lens in
    let test : ℕ → Bool = is_sound_word rows (first_level levels) in
    let parts = of_both (numbers_after Unsound long (λ _. test) bytes from len first)
    (λ more. words_of_levels rows bytes from levels more) all e in
    let here = numbers_read Unsound long (λ _. test) bytes from len first parts.0 are parts.1 in
    let next : p + len ≡ length parts.0 = omega (
      arith,
      ap length here.are,
      length-append first here.more,
      here.count_is,
    ) in
    let rest = words_read rows bytes from lens (p + len) parts.0 all are next parts.2 in
    let read : WordsAt bytes from len first parts.0 (level_fault rows level levels) = record {
      more = here.more;
      are = here.are;
      count_is = here.count_is;
      text = here.text;
      small = here.small;
      sound = λ later. ap (position_from (λ word. not (test word)) p)
          (part_of p len first here.more later place (sym here.count_is))
          ∙ none_found test p here.more (tested_all test first here.more here.pass);
    } in
    rw (sum_by-cons (λ n. n) len lens)
    (words_joined bytes from first parts.0 read rest
    (λ words. none_both (level_fault rows level levels words) (unsound_word rows words levels)))

-- the fault of the words of tries
abbrev pub tries_fault : ℕ → List (List Level) → List ℕ → Option ℕ
tries_fault rows tries words = first_some (map (unsound_word rows words) tries)

-- and so are the words of all tries
pub tries_words_read : (rows : ℕ) (bytes : List ℕ) (from : ℕ) (depths lens : List ℕ) (p : ℕ) (first all : List ℕ) →
    AreBytes bytes → p ≡ length first → length lens ≡ sum depths →
    words_of_tries rows bytes from (portions depths (levels_from p lens)) first ≡ Ok all →
    WordsAt bytes from (sum lens) first all (tries_fault rows (portions depths (levels_from p lens)))
unfolding words_of_tries
tries_words_read rows bytes from [] [] p first all are place count e =
    let same : first ≡ all = cc in
    record {
      more = [];
      are = sym same ∙ sym (append-nil first);
      count_is = refl;
      text = ap (λ k. drop (from + long * k) bytes) (omega arith);
      small = refl;
      sound = λ later. refl;
    }
tries_words_read rows bytes from [] (len ∷ lens) p first all are place count e = absurd (omega arith)
tries_words_read rows bytes from (depth ∷ depths) lens p first all are place count e =
    let own : List ℕ = take depth lens in
    let others : List ℕ = drop depth lens in
    let sums : sum own + sum others ≡ sum lens = sum_by-take-drop (λ (x : ℕ). x) lens depth in
    let deep : sum (depth ∷ depths) ≡ depth + sum depths = sum_by-cons (λ n. n) depth depths in
    let parts = of_both (words_of_levels rows bytes from (take depth (levels_from p lens)) first)
    (λ more. words_of_tries rows bytes from (portions depths (drop depth (levels_from p lens))) more) all e in
    let here = words_read rows bytes from own p first parts.0 are place
    (ap (λ levels. words_of_levels rows bytes from levels first) (sym (levels-take depth p lens)) ∙ parts.1) in
    let next : p + sum own ≡ length parts.0 = omega (
      arith,
      ap length here.are,
      length-append first here.more,
      here.count_is,
    ) in
    let rest = tries_words_read rows bytes from depths others (p + sum own) parts.0 all are next
    (omega (arith, length-drop depth lens, count, deep))
    (ap (λ levels. words_of_tries rows bytes from (portions depths levels) parts.0) (sym (levels-drop depth p lens))
    ∙ parts.2) in
    rw (← sums)
    (words_joined bytes from first parts.0 here rest
    (λ words one other. none_both (unsound_word rows words (take depth (levels_from p lens)))
    (tries_fault rows (portions depths (drop depth (levels_from p lens))) words)
    (ap (unsound_word rows words) (levels-take depth p lens) ∙ one)
    (ap (λ levels. tries_fault rows (portions depths levels) words) (levels-drop depth p lens) ∙ other)))
