use Rattle.std.proofs.Common.{◌≡◌, Some, refl, sym, ap, ◌∙◌}
use Rattle.std.specs.Option.{option_map}
use Rattle.std.proofs.lemmas.Bool.{leb-false}
use Rattle.std.proofs.lemmas.Result.{on_ok_weaker}
use Rattle.text_scan.specs.Parts.{words_of}
use Rattle.acl_session.specs.Command.{Field, field_of}
use Rattle.acl_session.proofs.Mirroring.{asked, one_more, too_many}
use Rattle.acl_session.proofs.made.Made.field.Goals as goal

pub returns-then-is_full : goal.returns-then-is_full
returns-then-is_full c =
    let said : option_map Field (field_of (words_of c.args.words.now)) ≡ Some (Field c.in-Some.field) =
    ap (option_map Field) (sym c.read_field.ensures ∙ c.in-Some.is) in
    on_ok_weaker c.push_piece.result
    (λ text. asked (Field c.in-Some.field) (option_map Field (field_of (words_of c.args.words.now))) _ _ _ _ said
    (too_many c.in-Some.field c.args.self.now c.args.self.now c.args.replies.now.items c.push_piece.new.text.items
    (sym c.is_full.ensures ∙ c.if-is_full.true) refl text))
    c.push_piece.ensures

pub push-requires : goal.push-requires
push-requires c = leb-false _ _ (sym c.is_full.ensures ∙ c.if-is_full.false)

pub returns : goal.returns
returns c =
    let said : option_map Field (field_of (words_of c.args.words.now)) ≡ Some (Field c.in-Some.field) =
    ap (option_map Field) (sym c.read_field.ensures ∙ c.in-Some.is) in
    on_ok_weaker c.push_piece-2.result
    (λ text. asked (Field c.in-Some.field) (option_map Field (field_of (words_of c.args.words.now))) _ _ _ _ said
    (one_more c.in-Some.field c.args.self.now
    record { alloc = c.args.self.now.alloc; collected = c.push.new.self; context = c.args.self.now.context }
    c.args.replies.now.items c.push_piece-2.new.text.items (sym c.is_full.ensures ∙ c.if-is_full.false)
    (ap (λ defs. record {
      alloc = c.args.self.now.alloc;
      collected = defs;
      context = c.args.self.now.context;
    }) c.push.ensures) text))
    c.push_piece-2.ensures
