use Rattle.std.proofs.Common.{◌≡◌, ◌∙◌, Err, Some, ap, refl, subst, sym}
use Rattle.std.proofs.lemmas.Result.{err_from_is_err_and}
use Rattle.command_words.specs.Options.{Given, adds, once, budget_in, categories_in, walk_in, with_option}
use Rattle.command_words.specs.CommandLine.{count_of, words_of}
use Rattle.command_words.proofs.Adding.{first_option, second_option, third_option, no_option, is_added, is_fault}
use Rattle.command_words.proofs.options.Given.add.Goals as goal

pub returns-in_err-once-clause-err : goal.returns-in_err-once-clause-err
returns-in_err-once-clause-err c =
    let inside = c.self.inside in
    let seen : Given = record {
      categories = count_of inside.categories;
      walk = inside.walk;
      max_words = words_of inside.max_words;
      stats = inside.stats;
      marks = inside.marks;
    } in
    let some = c.in-Some.ensures.some in
    let way = first_option c.args.allowed seen c.args.word.now some.0
    ∙ ap (λ value. adds (λ x. record seen { categories = Some x }) (once seen.categories value))
    (ap categories_in (sym some.1) ∙ sym c.categories_in.ensures) in
    let failed = err_from_is_err_and c.from_residual.result c.from_residual.ensures.1 in
    rw (failed.1, failed.2) (subst (λ (given : Given). with_option c.args.allowed given c.args.word.now
    ≡ Err c.in_err-once.field-0.0) c.self.view_is
    (way ∙ is_fault (λ x. x.count) (λ x. record seen { categories = Some x }) inside.categories
    c.categories_in.result c.in_err-once.field-0.0 (sym c.once.ensures ∙ c.in_err-once.was)))

pub returns-in_ok-once-clause-ok : goal.returns-in_ok-once-clause-ok
returns-in_ok-once-clause-ok c =
    let inside = c.self.inside in
    let seen : Given = record {
      categories = count_of inside.categories;
      walk = inside.walk;
      max_words = words_of inside.max_words;
      stats = inside.stats;
      marks = inside.marks;
    } in
    let some = c.in-Some.ensures.some in
    let way = first_option c.args.allowed seen c.args.word.now some.0
    ∙ ap (λ value. adds (λ x. record seen { categories = Some x }) (once seen.categories value))
    (ap categories_in (sym some.1) ∙ sym c.categories_in.ensures) in
    ap (λ (given : Given). with_option c.args.allowed given c.args.word.now) (sym c.self.view_is)
    ∙ way ∙ is_added (λ x. x.count) (λ x. record seen { categories = Some x }) inside.categories
    c.categories_in.result c.in_ok-once.field-0 (sym c.once.ensures ∙ c.in_ok-once.was)

pub returns-in_err-once-2-clause-err : goal.returns-in_err-once-2-clause-err
returns-in_err-once-2-clause-err c =
    let inside = c.self-in-Some-value_of.inside in
    let seen : Given = record {
      categories = count_of inside.categories;
      walk = inside.walk;
      max_words = words_of inside.max_words;
      stats = inside.stats;
      marks = inside.marks;
    } in
    let some = c.in-Some-value_of.ensures.some in
    let way = second_option c.args.allowed seen c.args.word.now (c.in_default.ensures.none refl) some.0
    ∙ ap (λ value. adds (λ x. record seen { walk = Some x }) (once seen.walk value))
    (ap walk_in (sym some.1) ∙ sym c.walk_in.ensures) in
    let failed = err_from_is_err_and c.from_residual-in_err-once-2.result c.from_residual-in_err-once-2.ensures.1 in
    rw (failed.1, failed.2) (subst (λ (given : Given). with_option c.args.allowed given c.args.word.now
    ≡ Err c.in_err-once-2.field-0.0) c.self-in-Some-value_of.view_is
    (way ∙ ap (adds (λ x. record seen { walk = Some x })) (sym c.once-in-Some-value_of.ensures ∙ c.in_err-once-2.was)))

pub returns-in_ok-once-2-clause-ok : goal.returns-in_ok-once-2-clause-ok
returns-in_ok-once-2-clause-ok c =
    let inside = c.self-in-Some-value_of.inside in
    let seen : Given = record {
      categories = count_of inside.categories;
      walk = inside.walk;
      max_words = words_of inside.max_words;
      stats = inside.stats;
      marks = inside.marks;
    } in
    let some = c.in-Some-value_of.ensures.some in
    let way = second_option c.args.allowed seen c.args.word.now (c.in_default.ensures.none refl) some.0
    ∙ ap (λ value. adds (λ x. record seen { walk = Some x }) (once seen.walk value))
    (ap walk_in (sym some.1) ∙ sym c.walk_in.ensures) in
    ap (λ (given : Given). with_option c.args.allowed given c.args.word.now) (sym c.self-in-Some-value_of.view_is)
    ∙ way ∙ ap (adds (λ x. record seen { walk = Some x })) (sym c.once-in-Some-value_of.ensures ∙ c.in_ok-once-2.was)

pub returns-in_err-once-3-clause-err : goal.returns-in_err-once-3-clause-err
returns-in_err-once-3-clause-err c =
    let inside = c.self-in-Some-value_of-2.inside in
    let seen : Given = record {
      categories = count_of inside.categories;
      walk = inside.walk;
      max_words = words_of inside.max_words;
      stats = inside.stats;
      marks = inside.marks;
    } in
    let some = c.in-Some-value_of-2.ensures.some in
    let way = third_option c.args.allowed seen c.args.word.now (c.in_default.ensures.none refl)
    (c.in_default-value_of.ensures.none refl) some.0
    ∙ ap (λ value. adds (λ x. record seen { max_words = Some x }) (once seen.max_words value))
    (ap budget_in (sym some.1) ∙ sym c.budget_in.ensures) in
    let failed = err_from_is_err_and c.from_residual-in_err-once-3.result c.from_residual-in_err-once-3.ensures.1 in
    rw (failed.1, failed.2) (subst (λ (given : Given). with_option c.args.allowed given c.args.word.now
    ≡ Err c.in_err-once-3.field-0.0) c.self-in-Some-value_of-2.view_is
    (way ∙ is_fault (λ x. x.words) (λ x. record seen { max_words = Some x }) inside.max_words
    c.budget_in.result c.in_err-once-3.field-0.0 (sym c.once-in-Some-value_of-2.ensures ∙ c.in_err-once-3.was)))

pub returns-in_ok-once-3-clause-ok : goal.returns-in_ok-once-3-clause-ok
returns-in_ok-once-3-clause-ok c =
    let inside = c.self-in-Some-value_of-2.inside in
    let seen : Given = record {
      categories = count_of inside.categories;
      walk = inside.walk;
      max_words = words_of inside.max_words;
      stats = inside.stats;
      marks = inside.marks;
    } in
    let some = c.in-Some-value_of-2.ensures.some in
    let way = third_option c.args.allowed seen c.args.word.now (c.in_default.ensures.none refl)
    (c.in_default-value_of.ensures.none refl) some.0
    ∙ ap (λ value. adds (λ x. record seen { max_words = Some x }) (once seen.max_words value))
    (ap budget_in (sym some.1) ∙ sym c.budget_in.ensures) in
    ap (λ (given : Given). with_option c.args.allowed given c.args.word.now) (sym c.self-in-Some-value_of-2.view_is)
    ∙ way ∙ is_added (λ x. x.words) (λ x. record seen { max_words = Some x }) inside.max_words
    c.budget_in.result c.in_ok-once-3.field-0 (sym c.once-in-Some-value_of-2.ensures ∙ c.in_ok-once-3.was)

pub returns-in_default-value_of-2-clause-ok : goal.returns-in_default-value_of-2-clause-ok
returns-in_default-value_of-2-clause-ok c =
    rw (no_option c.args.allowed c.args.self.now c.args.word.now (c.in_default.ensures.none refl)
    (c.in_default-value_of.ensures.none refl) (c.in_default-value_of-2.ensures.none refl)) c.add_switch.ensures.ok

pub returns-in_default-value_of-2-clause-err : goal.returns-in_default-value_of-2-clause-err
returns-in_default-value_of-2-clause-err c =
    rw (no_option c.args.allowed c.args.self.now c.args.word.now (c.in_default.ensures.none refl)
    (c.in_default-value_of.ensures.none refl) (c.in_default-value_of-2.ensures.none refl)) c.add_switch.ensures.err
