use Rattle.std.proofs.Common.{◌≡◌, ℕ, List, ◌+◌, ◌∙◌, sym, ap, arith, length, refl, get_or, drop, sum}
use Rattle.std.proofs.Math.Path.{subst}
use Rattle.std.proofs.lemmas.Result.{err_from_is_err_and}
use Rattle.std.proofs.lemmas.List.{take_rest, drop_more}
use Rattle.std.proofs.lemmas.List.Sums.{sum_by-cons}
use Rattle.flat_table.specs.declared.level.Level.{Level}
use Rattle.flat_table.specs.Table.{levels_from}
use Rattle.flat_table.specs.Sound.{is_sound_word, first_level}
use Rattle.table_image.specs.declared.load_fault.ImageKind.TheVariants.{Unsound}
use Rattle.table_image.specs.ImageReading.{Reading, numbers_after, words_of_levels}
use Rattle.table_image.specs.Loading.{IsFaultOf}
use Rattle.table_image.proofs.Readings.{both}
use Rattle.table_image.proofs.Loops.{fault_of_both, fault_of_same, level_more, levels_end}
use Rattle.table_image.proofs.words.read_levels.Goals as goal

pub returns-in_err-read_level-clause-fault : goal.returns-in_err-read_level-clause-fault
returns-in_err-read_level-clause-fault c =
    let i : ℕ = c.loop-depth.depth in
    let items : List ℕ = c.loop-depth.words.items in
    let len : ℕ = get_or c.args.lens.now i 0 in
    let rest : List ℕ = drop (i + 1) c.args.lens.now in
    let p : ℕ = length items in
    let read : Level → Reading (List ℕ) = λ next. numbers_after Unsound 8 (λ _. is_sound_word c.args.rows next)
    c.args.bytes.now
    c.args.from len items in
    let next : c.first-next.result ≡ first_level (levels_from (p + len) rest) =
    c.first-next.ensures.level ∙ ap (λ xs. first_level (levels_from (c.len.result + len) xs))
    (take_rest c.args.lens.now (i + 1))
    ∙ ap (λ k. first_level (levels_from k rest)) (omega (arith, c.len.ensures, c.loop-depth.words.ok.0)) in
    let fault = subst (λ n. IsFaultOf (read n) c.in_err-read_level.field-0.0) next c.in_err-read_level.ensures.fault in
    let failed = err_from_is_err_and c.from_residual.result c.from_residual.ensures.1 in
    rw (failed.1, failed.2) (fault_of_same _ _ _
    (c.loop-depth.invariant.rest ∙ level_more c.args.rows c.args.bytes.now c.args.from p i c.args.lens.now items
    (omega arith))
    (fault_of_both (read (first_level (levels_from (p + len) rest)))
    (words_of_levels c.args.rows c.args.bytes.now c.args.from (levels_from (p + len) rest))
    c.in_err-read_level.field-0.0 fault))

pub loop-depth-preserved : goal.loop-depth-preserved
loop-depth-preserved c =
    let i : ℕ = c.loop-depth.depth in
    let items : List ℕ = c.loop-depth.words.items in
    let now : List ℕ = c.read_level.new.words.items in
    let len : ℕ = get_or c.args.lens.now i 0 in
    let rest : List ℕ = drop (i + 1) c.args.lens.now in
    let p : ℕ = length items in
    let read : Level → Reading (List ℕ) = λ next. numbers_after Unsound 8 (λ _. is_sound_word c.args.rows next)
    c.args.bytes.now
    c.args.from len items in
    let next : c.first-next.result ≡ first_level (levels_from (p + len) rest) =
    c.first-next.ensures.level ∙ ap (λ xs. first_level (levels_from (c.len.result + len) xs))
    (take_rest c.args.lens.now (i + 1))
    ∙ ap (λ k. first_level (levels_from k rest)) (omega (arith, c.len.ensures, c.loop-depth.words.ok.0)) in
    let long : length now ≡ p + len = c.in_ok-read_level.ensures.len in
    let total : sum (drop i c.args.lens.now) ≡ len + sum rest =
    ap sum (drop_more c.args.lens.now i 0 (omega arith)) ∙ sum_by-cons (λ n. n) len rest in
    record {
      rest = c.loop-depth.invariant.rest
          ∙ level_more c.args.rows c.args.bytes.now c.args.from p i c.args.lens.now items (omega arith)
          ∙ both (read (first_level (levels_from (p + len) rest)))
          (words_of_levels c.args.rows c.args.bytes.now c.args.from (levels_from (p + len) rest)) now _
          (ap read (sym next) ∙ c.in_ok-read_level.ensures.words) refl
          ∙ ap (λ k. words_of_levels c.args.rows c.args.bytes.now c.args.from (levels_from k rest) now) (sym long);
      len = omega (arith, long, total, c.loop-depth.invariant.len);
      inside = c.in_ok-read_level.ensures.inside;
    }

pub returns-clause-words : goal.returns-clause-words
returns-clause-words c =
    c.loop-depth.invariant.rest
    ∙ levels_end c.args.rows c.args.bytes.now c.args.from (length c.loop-depth.words.items) c.loop-depth.depth
    c.args.lens.now
    c.loop-depth.words.items (omega arith)
