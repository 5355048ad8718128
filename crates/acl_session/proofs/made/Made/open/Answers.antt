use Rattle.std.proofs.Common.{◌≡◌, List, [], Some, None, refl, sym, ap, ◌∙◌}
use Rattle.std.specs.Option.{option_map}
use Rattle.std.proofs.lemmas.Result.{on_ok_weaker}
use Rattle.field_defs.specs.declared.field.FieldDef.{FieldDef}
use Rattle.text_scan.specs.Parts.{words_of}
use Rattle.acl_session.specs.Command.{Context, limit_of}
use Rattle.acl_session.proofs.Mirroring.{asked, nothing_said, opens, refuses}
use Rattle.acl_session.proofs.made.Made.open.Goals as goal

pub returns-in_default : goal.returns-in_default
returns-in_default c =
    on_ok_weaker c.push_bad_line.result
    (λ text. nothing_said c.args.self.now c.args.self.now c.args.replies.now.items c.push_bad_line.new.replies.items
    (option_map Context (limit_of (words_of c.args.words.now)))
    (ap (option_map Context) (sym c.read_limit.ensures.limit ∙ c.in_default.is)) refl text)
    c.push_bad_line.ensures

pub returns-in-Ok : goal.returns-in-Ok
returns-in-Ok c =
    let limit = c.in-Some.limit in
    let made : c.create.result ≡ record {
      set = record { layout = c.args.self.now.collected; rules = [] };
      max_rules = limit;
      table = None;
    } = c.create.ensures ∙ ap (λ (layout : List FieldDef). record {
      set = record { layout = layout; rules = [] };
      max_rules = limit;
      table = None;
    }) c.in-Ok.ensures.layout in
    on_ok_weaker c.push_piece.result
    (λ text. asked (Context limit) (option_map Context (limit_of (words_of c.args.words.now))) _ _ _ _
    (ap (option_map Context) (sym c.read_limit.ensures.limit ∙ c.in-Some.is))
    (opens limit c.args.self.now
    record { alloc = c.args.self.now.alloc; collected = c.new-self.result; context = Some c.create.result }
    c.create.result c.args.replies.now.items c.push_piece.new.text.items (sym c.in-Ok.ensures.fault) c.new-self.ensures
    refl made text))
    c.push_piece.ensures

pub returns-in-Err : goal.returns-in-Err
returns-in-Err c =
    let limit = c.in-Some.limit in
    on_ok_weaker c.push_layout_fault.result
    (λ text. asked (Context limit) (option_map Context (limit_of (words_of c.args.words.now))) _ _ _ _
    (ap (option_map Context) (sym c.read_limit.ensures.limit ∙ c.in-Some.is))
    (refuses limit c.in-Err.fault c.args.self.now
    record { alloc = c.args.self.now.alloc; collected = c.new-self.result; context = c.args.self.now.context }
    c.args.replies.now.items c.push_layout_fault.new.text.items (sym c.in-Err.ensures.fault) c.new-self.ensures refl
    text))
    c.push_layout_fault.ensures
