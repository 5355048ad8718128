use Rattle.std.proofs.Common.{◌≡◌, ◌∙◌, ℕ, Option, sym, ap}
use Rattle.std.specs.Prelude.{nat_le, string_bytes}
use Rattle.std.specs.Option.{ok_or}
use Rattle.command_words.specs.Options.{lawful, number_in}
use Rattle.command_words.proofs.NumberWords.{bad, missing, there}
use Rattle.command_words.proofs.bench_words.number_at.Goals as goal

pub returns-in_default-clause-number : goal.returns-in_default-clause-number
returns-in_default-clause-number c =
    missing string_bytes c.args.words.now c.args.place c.args.greatest c.in_default.ensures.lookup.0

pub returns-in-Some-at_most-clause-number : goal.returns-in-Some-at_most-clause-number
returns-in-Some-at_most-clause-number c =
    let number : c.number_in.result ≡ number_in (string_bytes c.in-Some.text.now) =
    c.number_in.ensures ∙ ap number_in c.as_bytes.ensures.value in
    ap (λ (found : Option ℕ). ok_or found (bad c.args.place)) (sym c.in-Some-at_most.is)
    ∙ there string_bytes c.args.words.now c.args.place c.args.greatest c.in-Some.text.now c.at_most.result
    c.in-Some.ensures.lookup.0 c.in-Some.ensures.lookup.1
    (c.at_most.ensures.number ∙ ap (lawful (λ value. nat_le value c.args.greatest)) number)

pub returns-in-None-clause-number : goal.returns-in-None-clause-number
returns-in-None-clause-number c =
    let number : c.number_in.result ≡ number_in (string_bytes c.in-Some.text.now) =
    c.number_in.ensures ∙ ap number_in c.as_bytes.ensures.value in
    ap (λ (found : Option ℕ). ok_or found (bad c.args.place)) (sym c.in-None.is)
    ∙ there string_bytes c.args.words.now c.args.place c.args.greatest c.in-Some.text.now c.at_most.result
    c.in-Some.ensures.lookup.0 c.in-Some.ensures.lookup.1
    (c.at_most.ensures.number ∙ ap (lawful (λ value. nat_le value c.args.greatest)) number)
