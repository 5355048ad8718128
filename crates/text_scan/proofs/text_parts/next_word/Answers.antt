use Rattle.std.proofs.Common.{length, sym, ap, ◌∙◌, arith}
use Rattle.std.proofs.lemmas.Bool.{eqb-true, eqb-false}
use Rattle.text_scan.specs.Parts.{is_blank, first_word, after_word}
use Rattle.list_lemmas.proofs.Texts.{all_words-first, all_words-none}
use Rattle.text_scan.proofs.text_parts.next_word.Goals as goal

pub returns-then-is_empty-clause-words : goal.returns-then-is_empty-clause-words
returns-then-is_empty-clause-words c =
    let word = c.split_word.ensures.word ∙ ap first_word c.after_blanks.ensures in
    let empty = eqb-true _ _ (sym c.is_empty.ensures ∙ c.if-is_empty.true) in
    all_words-none is_blank c.args.text.now (sym (ap length word) ∙ empty)

pub returns-clause-words : goal.returns-clause-words
returns-clause-words c =
    let text = c.args.text.now in
    let word = c.split_word.ensures.word ∙ ap first_word c.after_blanks.ensures in
    let rest = c.split_word.ensures.rest ∙ ap after_word c.after_blanks.ensures in
    let filled = eqb-false _ _ (sym c.is_empty.ensures ∙ c.if-is_empty.false) in
    rw (word, rest) (all_words-first is_blank text (omega (arith, ap length word, filled)))
