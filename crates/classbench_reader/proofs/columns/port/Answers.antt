use Rattle.std.proofs.Common.{Ok, sym, ap, ◌∙◌}
use Rattle.std.proofs.lemmas.List.{take_rest}
use Rattle.classbench_reader.specs.LineReading.{read_of}
use Rattle.classbench_reader.proofs.FoundPorts.{FindsPort-from, port_of-none}
use Rattle.classbench_reader.proofs.columns.port.Goals as goal

pub slice_bounds-result-start : goal.slice_bounds-result-start
slice_bounds-result-start c =
    (FindsPort-from c.args.text.now c.after_blanks-text.result.now c.in-Some.port c.in-Some.end
    c.after_blanks-text.ensures c.in-Some.ensures).within

pub returns-in-Some-clause-port : goal.returns-in-Some-clause-port
returns-in-Some-clause-port c =
    let rest = c.after_blanks-text.result.now in
    (FindsPort-from c.args.text.now rest c.in-Some.port c.in-Some.end c.after_blanks-text.ensures
    c.in-Some.ensures).is
    ∙ ap (λ text. Ok (read_of c.in-Some.port text)) (sym (take_rest rest c.in-Some.end))

pub returns-in-Some-clause-bound : goal.returns-in-Some-clause-bound
returns-in-Some-clause-bound c =
    (FindsPort-from c.args.text.now c.after_blanks-text.result.now c.in-Some.port c.in-Some.end
    c.after_blanks-text.ensures c.in-Some.ensures).small

pub returns-in-None-clause-port : goal.returns-in-None-clause-port
returns-in-None-clause-port c =
    port_of-none c.args.text.now c.after_blanks-text.result.now c.after_blanks-text.ensures c.in-None.ensures
