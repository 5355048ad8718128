-- Each call does what the line says.
use Rattle.std.proofs.Common.{ℕ, List, Option, Some, refl, sym, ap, ◌∙◌}
use Rattle.std.proofs.lemmas.Result.{on_ok_weaker}
use Rattle.text_scan.specs.Parts.{words_of}
use Rattle.acl_session.specs.declared.verb.Verb.TheVariants as verbs
use Rattle.acl_session.specs.Command.{command_of, said_to, verb_named}
use Rattle.acl_session.specs.WordReading.{◌>>=◌, Read}
use Rattle.acl_session.proofs.Mirroring.{nothing_said, said_is, unnamed}
use Rattle.acl_session.proofs.made.Made.answer.Goals as goal

pub returns-in_default : goal.returns-in_default
returns-in_default c =
    on_ok_weaker c.push_bad_line.result
    (λ text. nothing_said c.args.self.now c.args.self.now c.args.replies.now.items c.push_bad_line.new.replies.items
    (command_of (words_of c.args.line.now))
    (ap (λ (read : Option (Read (List ℕ))). read >>= λ name. verb_named name.value >>= λ verb. said_to verb name.rest)
    c.in_default.ensures) refl text)
    c.push_bad_line.ensures

pub returns-in_default-verb_named : goal.returns-in_default-verb_named
returns-in_default-verb_named c =
    on_ok_weaker c.push_bad_line-in_default-verb_named.result
    (λ text. nothing_said c.args.self.now c.args.self.now c.args.replies.now.items
    c.push_bad_line-in_default-verb_named.new.replies.items (command_of (words_of c.args.line.now))
    (unnamed (words_of c.args.line.now) c.in-Some.name.now (words_of c.in-Some.words.now) c.in-Some.ensures
    (sym c.verb_named.ensures ∙ c.in_default-verb_named.is)) refl text)
    c.push_bad_line-in_default-verb_named.ensures

pub returns-in-Field : goal.returns-in-Field
returns-in-Field c =
    rw (said_is (words_of c.args.line.now) c.in-Some.name.now (words_of c.in-Some.words.now) verbs.Field
    c.in-Some.ensures (sym c.verb_named.ensures ∙ c.in-Some-verb_named.is ∙ ap Some c.in-Field.is)) c.field.ensures

pub returns-in-Context : goal.returns-in-Context
returns-in-Context c =
    rw (said_is (words_of c.args.line.now) c.in-Some.name.now (words_of c.in-Some.words.now) verbs.Context
    c.in-Some.ensures (sym c.verb_named.ensures ∙ c.in-Some-verb_named.is ∙ ap Some c.in-Context.is)) c.open.ensures

pub returns-in-Rule : goal.returns-in-Rule
returns-in-Rule c =
    rw (said_is (words_of c.args.line.now) c.in-Some.name.now (words_of c.in-Some.words.now) verbs.Rule
    c.in-Some.ensures (sym c.verb_named.ensures ∙ c.in-Some-verb_named.is ∙ ap Some c.in-Rule.is)) c.rule.ensures

pub returns-in-Build : goal.returns-in-Build
returns-in-Build c =
    rw (said_is (words_of c.args.line.now) c.in-Some.name.now (words_of c.in-Some.words.now) verbs.Build
    c.in-Some.ensures (sym c.verb_named.ensures ∙ c.in-Some-verb_named.is ∙ ap Some c.in-Build.is)) c.build.ensures

pub returns-in-ResetRules : goal.returns-in-ResetRules
returns-in-ResetRules c =
    rw (said_is (words_of c.args.line.now) c.in-Some.name.now (words_of c.in-Some.words.now) verbs.ResetRules
    c.in-Some.ensures (sym c.verb_named.ensures ∙ c.in-Some-verb_named.is ∙ ap Some c.in-ResetRules.is))
    c.reset_rules.ensures

pub returns-in-Reset : goal.returns-in-Reset
returns-in-Reset c =
    rw (said_is (words_of c.args.line.now) c.in-Some.name.now (words_of c.in-Some.words.now) verbs.Reset
    c.in-Some.ensures (sym c.verb_named.ensures ∙ c.in-Some-verb_named.is ∙ ap Some c.in-Reset.is)) c.reset.ensures

pub returns-in-Classify : goal.returns-in-Classify
returns-in-Classify c =
    rw (said_is (words_of c.args.line.now) c.in-Some.name.now (words_of c.in-Some.words.now) verbs.Classify
    c.in-Some.ensures (sym c.verb_named.ensures ∙ c.in-Some-verb_named.is ∙ ap Some c.in-Classify.is))
    c.classify.ensures
