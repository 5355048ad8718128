-- The lines can be printed, and their text is read as the rules.
use Rattle.std.proofs.Common.{◌≡◌, ◌∙◌, ◌++◌, ℕ, None, Err, List, length, map, nat_lt, sym, ap, subst}
use Rattle.text_scan.specs.Parts.{lines_of}
use Rattle.classbench_reader.specs.Limits.{max_rule_file}
use Rattle.classbench_reader.specs.Print.{fields_of}
use Rattle.printed_lists.specs.Laws.{ReadsBack}
use Rattle.printed_lists.specs.Listed.{Comment, line_views, list_text}
use Rattle.list_tool.specs.Listing.{family_of}
use Rattle.list_tool.specs.Premises.{premises}
use Rattle.list_tool.specs.Printed.{commented, file_lines, first_odd}
use Rattle.list_tool.specs.Requests.{request_of}
use Rattle.list_tool.proofs.Texts.{lines_printable, text_is, text_long, text_read}
use Rattle.list_tool.proofs.printing.text_of_rules.Goals as goal

pub put_list-requires : goal.put_list-requires
put_list-requires c =
    let its = c.family_of-family.result in
    let form = c.args.request.now.form in
    let head = premises (request_of c.args.request.now) c.args.bytes.now in
    let heads = ap (map (λ text. text.now)) c.deref.ensures.value ∙ c.in_ok-head.ensures in
    let texts = map (λ text. text.now) c.deref-2.result.now in
    let by_line = c.all-numbered.result.now in
    let none = ap (first_odd its by_line 0) (sym c.all-rules.ensures.rules) ∙ sym c.in_default.ensures in
    lines_printable its head form texts by_line c.args.set.now (line_views c.deref-3.result.now)
    c.all-rules.ensures.lawful (c.requires ∙ ap fields_of (sym c.family_of-family.ensures)) none
    (ap line_views c.deref-3.ensures.value ∙ c.in_ok-lines.ensures
    ∙ (λ i. map (λ text. Comment text) (heads i) ++ commented form texts by_line 0 (c.all-rules.ensures.rules i)))

pub returns : goal.returns
returns c =
    let form = c.args.request.now.form in
    let head = premises (request_of c.args.request.now) c.args.bytes.now in
    let same = c.family_of-family.ensures in
    let by_line = c.args.by_line.now.rules in
    let rules = c.args.set.now.rules in
    let bytes = c.args.bytes.now in
    let none : first_odd (family_of form) by_line 0 rules ≡ None =
    (λ i. first_odd (sym same i) (sym c.all-numbered.ensures.rules i) 0 (sym c.all-rules.ensures.rules i))
    ∙ sym c.in_default.ensures in
    let heads = ap (map (λ text. text.now)) c.deref.ensures.value ∙ c.in_ok-head.ensures in
    let texts = ap (map (λ text. text.now)) c.deref-2.ensures.value ∙ c.in_ok-texts.ensures in
    let views : line_views c.deref-3.result.now ≡ file_lines head form (lines_of bytes) by_line rules =
    ap line_views c.deref-3.ensures.value ∙ c.in_ok-lines.ensures
    ∙ (λ i. map (λ text. Comment text) (heads i)
    ++ commented form (texts i) (c.all-numbered.ensures.rules i) 0 (c.all-rules.ensures.rules i)) in
    let text = c.put_list.new.text.items in
    let is : text ≡ list_text (family_of form) (file_lines head form (lines_of bytes) by_line rules) =
    c.in_ok-put_list.ensures.text
    ∙ (λ i. c.new-text.ensures.items i ++ list_text (same i) (views i)) in
    let short = ap (λ (bytes : List ℕ). nat_lt max_rule_file (length bytes)) (sym c.deref-4.ensures.value)
    ∙ sym c.is_too_long.ensures ∙ c.if-is_too_long.false in
    record {
      text = text_is head form bytes by_line rules text none is short;
      accepted = text_read head form bytes by_line rules text none is c.all-rules.ensures.lawful.few short
          (subst (ReadsBack (family_of form)) views
          (subst (λ its. ReadsBack its (line_views c.deref-3.result.now)) same c.in_ok-put_list.ensures.reads_back));
      refused = tt;
    }

-- a text above the limit is refused
pub returns-then-is_too_long : goal.returns-then-is_too_long
returns-then-is_too_long c =
    let form = c.args.request.now.form in
    let head = premises (request_of c.args.request.now) c.args.bytes.now in
    let same = c.family_of-family.ensures in
    let by_line = c.args.by_line.now.rules in
    let rules = c.args.set.now.rules in
    let bytes = c.args.bytes.now in
    let none : first_odd (family_of form) by_line 0 rules ≡ None =
    (λ i. first_odd (sym same i) (sym c.all-numbered.ensures.rules i) 0 (sym c.all-rules.ensures.rules i))
    ∙ sym c.in_default.ensures in
    let heads = ap (map (λ text. text.now)) c.deref.ensures.value ∙ c.in_ok-head.ensures in
    let texts = ap (map (λ text. text.now)) c.deref-2.ensures.value ∙ c.in_ok-texts.ensures in
    let views : line_views c.deref-3.result.now ≡ file_lines head form (lines_of bytes) by_line rules =
    ap line_views c.deref-3.ensures.value ∙ c.in_ok-lines.ensures
    ∙ (λ i. map (λ text. Comment text) (heads i)
    ++ commented form (texts i) (c.all-numbered.ensures.rules i) 0 (c.all-rules.ensures.rules i)) in
    let text = c.put_list.new.text.items in
    let is : text ≡ list_text (family_of form) (file_lines head form (lines_of bytes) by_line rules) =
    c.in_ok-put_list.ensures.text
    ∙ (λ i. c.new-text.ensures.items i ++ list_text (same i) (views i)) in
    let long = ap (λ (bytes : List ℕ). nat_lt max_rule_file (length bytes)) (sym c.deref-4.ensures.value)
    ∙ sym c.is_too_long.ensures ∙ c.if-is_too_long.true in
    record {
      text = tt;
      accepted = tt;
      refused = text_long head form bytes by_line rules text none is long ∙ ap Err (sym c.at_no_place.ensures);
    }
