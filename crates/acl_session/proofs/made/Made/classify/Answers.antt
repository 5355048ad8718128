use Rattle.std.proofs.Common.{refl, ap}
use Rattle.std.proofs.lemmas.Result.{on_ok_weaker}
use Rattle.text_scan.specs.Parts.{words_of}
use Rattle.acl_session.specs.Command.{Classify, buffer_of}
use Rattle.acl_session.specs.Hex.{bytes_in_hex}
use Rattle.acl_session.specs.Session.{classified}
use Rattle.acl_session.proofs.Mirroring.{asked, called, missing, nothing_said}
use Rattle.acl_session.proofs.made.Made.classify.Goals as goal

pub returns-in_default : goal.returns-in_default
returns-in_default c =
    on_ok_weaker c.push_bad_line.result
    (λ text. nothing_said c.args.self.now c.args.self.now c.args.replies.now.items c.push_bad_line.new.replies.items
    (buffer_of (words_of c.args.words.now)) c.in_default.ensures.buffer refl text)
    c.push_bad_line.ensures

pub returns-in-Some-context : goal.returns-in-Some-context
returns-in-Some-context c =
    let count = c.in-Some.cats.count in
    let buffer = bytes_in_hex c.in-Some.digits.now in
    on_ok_weaker c.classify.result
    (λ says. asked (Classify count buffer) (buffer_of (words_of c.args.words.now)) _ _ _ _ c.in-Some.ensures.buffer
    (called (λ held. classified held count buffer) c.args.self.now c.args.self.now c.in-Some-context.context
    c.in-Some-context.context c.args.replies.now.items c.classify.new.replies.items c.in-Some-context.is
    (ap (λ context. record {
      alloc = c.args.self.now.alloc;
      collected = c.args.self.now.collected;
      context = context;
    }) c.in-Some-context.is)
    (λ held holds. record { held = holds; text = says held holds })))
    c.classify.ensures

pub returns-in-None : goal.returns-in-None
returns-in-None c =
    let count = c.in-Some.cats.count in
    let buffer = bytes_in_hex c.in-Some.digits.now in
    on_ok_weaker c.push_no_context.result
    (λ text. asked (Classify count buffer) (buffer_of (words_of c.args.words.now)) _ _ _ _ c.in-Some.ensures.buffer
    (missing (λ held. classified held count buffer) c.args.self.now c.args.self.now c.args.replies.now.items
    c.push_no_context.new.replies.items c.in-None.is refl text))
    c.push_no_context.ensures
