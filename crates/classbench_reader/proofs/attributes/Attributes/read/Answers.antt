use Rattle.std.proofs.Common.{◌≡◌, Ok, Err, sym, ap, ◌∙◌, rules}
use Rattle.text_scan.specs.Parts.{words_of}
use Rattle.classbench_reader.specs.Attributes.{attributes_of, with_words}
use Rattle.classbench_reader.proofs.AttributeWords.{with_words-fault}
use Rattle.classbench_reader.proofs.attributes.Attributes.read.Goals as goal

pub returns-in_err-attributes : goal.returns-in_err-attributes
returns-in_err-attributes c =
    let kind = c.in_err-attributes.field-0.0 in
    let rest = words_of c.in-Some.rest.now in
    let read : attributes_of (words_of c.args.text.now) ≡ Err kind =
    c.loop-word.invariant ∙ ap (λ words. with_words (Ok c.loop-word.attributes) words) c.in-Some.ensures.words
    ∙ ap (λ found. with_words found rest) (sym c.in_err-attributes.ensures)
    ∙ with_words-fault kind rest in
    rw read (search rules)
