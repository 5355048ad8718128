use Rattle.std.proofs.Common.{◌≡◌, ℕ, List, ◌+◌, ◌*◌, ◌-◌, ◌∙◌, sym, ap, arith, Ok, length, take, ◌==◌}
use Rattle.std.proofs.lemmas.Result.{err_from_is_err_and}
use Rattle.flat_table.specs.Sound.{is_sound_word}
use Rattle.table_image.specs.declared.load_fault.ImageKind.TheVariants.{Unsound, Length}
use Rattle.table_image.specs.ImageReading.{Reading, numbers_after}
use Rattle.table_image.proofs.Loops.{numbers_end}
use Rattle.table_image.proofs.Portions.{portion_read, portion_fault, numbers_cut, of_failed, slots_of, are_fewer, are_all, written_back}
use Rattle.table_image.proofs.Readings.{of_check}
use Rattle.table_image.proofs.words.read_portion.Goals as goal

pub returns-in_err-read_whole-clause-fault : goal.returns-in_err-read_whole-clause-fault
returns-in_err-read_whole-clause-fault c =
    let old : List ℕ = c.args.words.now.items in
    let whole : ℕ = c.min-whole.result in
    let filled : List ℕ = c.deref_mut.result.now in
    let read : ℕ → List ℕ → Reading (List ℕ) =
    numbers_after Unsound 8 (λ _. is_sound_word c.args.rows c.args.next) c.args.bytes.now c.args.from in
    let slots = slots_of old filled c.len-start.result whole (c.deref_mut.ensures.value ∙ c.in_ok-push_copies.ensures)
    (omega (arith, c.len-start.ensures, c.args.words.now.ok.0)) in
    let same : read whole old ≡ read (length filled - c.len-start.result) (take c.len-start.result filled) =
    ap (λ n. read n old) slots.count ∙ ap (read (length filled - c.len-start.result)) slots.before in
    let failed = err_from_is_err_and c.from_residual-in_err-read_whole.result
    c.from_residual-in_err-read_whole.ensures.1 in
    rw (failed.1, failed.2) (portion_fault Unsound 8 (λ _. is_sound_word c.args.rows c.args.next) c.args.bytes.now
    c.args.from
    c.args.count whole old (omega arith) c.in_err-read_whole.field-0.0 (same ∙ c.in_err-read_whole.ensures.fault))

pub returns-in_err-checked-clause-fault : goal.returns-in_err-checked-clause-fault
returns-in_err-checked-clause-fault c =
    let old : List ℕ = c.args.words.now.items in
    let whole : ℕ = c.min-whole.result in
    let filled : List ℕ = c.deref_mut.result.now in
    let all : List ℕ = c.read_whole.new.words in
    let end : ℕ = c.args.from + 8 * c.len-start.result + 8 * whole in
    let start : c.len-start.result ≡ length old = omega (arith, c.len-start.ensures, c.args.words.now.ok.0) in
    let read : ℕ → List ℕ → Reading (List ℕ) =
    numbers_after Unsound 8 (λ _. is_sound_word c.args.rows c.args.next) c.args.bytes.now c.args.from in
    let slots = slots_of old filled c.len-start.result whole (c.deref_mut.ensures.value ∙ c.in_ok-push_copies.ensures)
    start in
    let same : read whole old ≡ read (length filled - c.len-start.result) (take c.len-start.result filled) =
    ap (λ n. read n old) slots.count ∙ ap (read (length filled - c.len-start.result)) slots.before in
    let cut = of_failed (whole == c.args.count) Length end _ c.in_err-checked.field-0.0 (sym c.checked.ensures
    ∙ c.in_err-checked.was) in
    let fewer = are_fewer whole c.args.count (omega arith) cut.0 in
    let failed = err_from_is_err_and c.from_residual-in_err-checked.result c.from_residual-in_err-checked.ensures.1 in
    rw (failed.1, failed.2, sym cut.1) (portion_read Unsound 8 (λ _. is_sound_word c.args.rows c.args.next)
    c.args.bytes.now
    c.args.from c.args.count whole old (omega arith) all (same ∙ c.in_ok-read_whole.ensures.words)
    ∙ numbers_cut Unsound 8 (λ _. is_sound_word c.args.rows c.args.next) c.args.bytes.now c.args.from
    (c.args.count - whole) end all
    (omega (arith, fewer)) (omega (arith, c.in_ok-read_whole.ensures.len, slots.total))
    (omega (arith, fewer, c.min-whole.ensures, c.requires.inside, start)))

pub returns-clause-words : goal.returns-clause-words
returns-clause-words c =
    let old : List ℕ = c.args.words.now.items in
    let whole : ℕ = c.min-whole.result in
    let filled : List ℕ = c.deref_mut.result.now in
    let all : List ℕ = c.read_whole.new.words in
    let read : ℕ → List ℕ → Reading (List ℕ) =
    numbers_after Unsound 8 (λ _. is_sound_word c.args.rows c.args.next) c.args.bytes.now c.args.from in
    let slots = slots_of old filled c.len-start.result whole (c.deref_mut.ensures.value ∙ c.in_ok-push_copies.ensures)
    (omega (arith, c.len-start.ensures, c.args.words.now.ok.0)) in
    let same : read whole old ≡ read (length filled - c.len-start.result) (take c.len-start.result filled) =
    ap (λ n. read n old) slots.count ∙ ap (read (length filled - c.len-start.result)) slots.before in
    let passed = of_check (whole == c.args.count) Length (c.args.from + 8 * c.len-start.result + 8 * whole) _ _
    (sym c.checked.ensures ∙ c.in_ok-checked.was) in
    let len : length all ≡ c.push_copies.new.list.len =
    omega (arith, c.in_ok-read_whole.ensures.len, ap length c.deref_mut.ensures.value, c.push_copies.new.list.ok.0) in
    portion_read Unsound 8 (λ _. is_sound_word c.args.rows c.args.next) c.args.bytes.now
    c.args.from c.args.count whole old (omega arith) all (same ∙ c.in_ok-read_whole.ensures.words)
    ∙ numbers_end Unsound 8 (λ _. is_sound_word c.args.rows c.args.next) c.args.bytes.now c.args.from
    (c.args.count - whole) all
    (are_all whole c.args.count passed.0)
    ∙ ap Ok (sym (written_back c.push_copies.new.list.len all c.push_copies.new.list.items len))
