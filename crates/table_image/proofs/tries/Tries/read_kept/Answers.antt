use Rattle.std.proofs.Common.{◌+◌, ◌*◌, ◌∙◌, ℕ, List, sym, ap, arith, Ok, sum}
use Rattle.std.proofs.lemmas.List.Sums.{sum_by-append}
use Rattle.std.proofs.lemmas.Result.{err_from_is_err_and}
use Rattle.flat_table.specs.Sound.{leads_into, first_level}
use Rattle.flat_table.specs.Table.{levels_from}
use Rattle.table_image.specs.declared.load_fault.ImageKind.TheVariants.{Unsound}
use Rattle.table_image.specs.ImageReading.{TriesView, tested}
use Rattle.table_image.specs.Loading.{tries_of}
use Rattle.table_image.proofs.Loops.{trie_cut, trie_refused, trie_read}
use Rattle.table_image.proofs.tries.Tries.read_kept.Goals as goal

pub returns-in_err-lens-clause-fault : goal.returns-in_err-lens-clause-fault
returns-in_err-lens-clause-fault c =
    let failed = err_from_is_err_and c.from_residual.result c.from_residual.ensures.1 in
    rw (failed.1, failed.2)
    (trie_cut c.args.version c.args.taken c.args.bytes.now (tries_of c.args.self.now) c.args.kept c.args.depth
    c.args.self.now.words c.after_kept-lens_at.result c.requires.words c.after_kept-lens_at.ensures
    c.in_err-lens.field-0.0 c.in_err-lens.ensures.fault)

pub returns-in_err-root-clause-fault : goal.returns-in_err-root-clause-fault
returns-in_err-root-clause-fault c =
    let failed = err_from_is_err_and c.from_residual-in_err-root.result c.from_residual-in_err-root.ensures.1 in
    let at : ℕ = c.after_kept-lens_at.result + 4 * c.args.depth in
    let root = ap (λ (lens : List ℕ).
    tested Unsound 8 (leads_into (first_level (levels_from c.args.self.now.words lens))) c.args.bytes.now at)
    (sym c.deref.ensures.value) ∙ sym c.read_root.ensures.root ∙ c.in_err-root.was in
    rw (failed.1, failed.2)
    (trie_refused c.args.version c.args.taken c.args.bytes.now (tries_of c.args.self.now) c.args.kept c.args.depth
    c.args.self.now.words c.after_kept-lens_at.result c.requires.words c.after_kept-lens_at.ensures
    c.in_ok-lens.lens.items c.in_ok-lens.ensures.lens c.in_err-root.field-0.0 root)

pub returns-clause-trie : goal.returns-clause-trie
returns-clause-trie c =
    let at : ℕ = c.after_kept-lens_at.result + 4 * c.args.depth in
    let root = ap (λ (lens : List ℕ).
    tested Unsound 8 (leads_into (first_level (levels_from c.args.self.now.words lens))) c.args.bytes.now at)
    (sym c.deref.ensures.value) ∙ sym c.read_root.ensures.root ∙ c.in_ok-root.was in
    trie_read c.args.version c.args.taken c.args.bytes.now (tries_of c.args.self.now) c.args.kept c.args.depth
    c.args.self.now.words c.after_kept-lens_at.result c.requires.words c.after_kept-lens_at.ensures
    c.in_ok-lens.lens.items c.in_ok-lens.ensures.lens c.in_ok-root.root root
    ∙ ap Ok (sym (rw c.deref-2.ensures.value at c.in_ok-add.ensures.tries))

pub returns-clause-words : goal.returns-clause-words
returns-clause-words c =
    let more : List ℕ = c.deref-2.result.now in
    c.in_ok-add.ensures.words ∙ ap (λ n. n + sum more) c.requires.words
    ∙ sym (sum_by-append (λ n. n) c.args.self.now.level_lens.items more)
    ∙ sym (ap (λ (tries : TriesView). sum tries.level_lens) c.in_ok-add.ensures.tries)

pub returns-clause-room : goal.returns-clause-room
returns-clause-room c =
    omega (arith, c.in_ok-lens.ensures.sum, c.in_ok-add.ensures.words, ap sum c.deref-2.ensures.value)
