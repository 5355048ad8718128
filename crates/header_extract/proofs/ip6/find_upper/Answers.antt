use Rattle.std.proofs.Common.{slice_index, sym, ap, ◌∙◌}
use Rattle.std.proofs.lemmas.List.{take_rest}
use Rattle.header_extract.specs.declared.class.Class.TheVariants.{Short}
use Rattle.header_extract.specs.Extracted.{or_short}
use Rattle.header_extract.specs.Ip6.{upper_of}
use Rattle.header_extract.proofs.Chains.{upper_of-leads, upper_of-ends, upper_of-fails, upper_of-last}
use Rattle.header_extract.proofs.Chains.{header_step-short, header_step-cut, header_step-leads, header_step-later}
use Rattle.header_extract.proofs.ip6.find_upper.Goals as goal

pub loop-left-preserved : goal.loop-left-preserved
loop-left-preserved c =
    let next = c.loop-left.next in
    let left = c.loop-left.left.now in
    let len = c.extension_len-len.result in
    let leads = header_step-leads next len left (sym c.is_extension.ensures
    ∙ c.loop-left-test.true) c.if-left-lt-WORD.false
    (sym c.is_later_part.ensures ∙ c.if-is_later_part.false) c.extension_len-len.ensures c.if-left-len.false in
    ap (upper_of (slice_index left 0)) (take_rest left len) ∙ sym (upper_of-leads next _ left _ leads)
    ∙ c.loop-left.invariant

pub returns-then-left-lt-WORD : goal.returns-then-left-lt-WORD
returns-then-left-lt-WORD c =
    let next = c.loop-left.next in
    let left = c.loop-left.left.now in
    sym c.loop-left.invariant
    ∙ upper_of-fails next left Short (header_step-short next left (sym c.is_extension.ensures
    ∙ c.loop-left-test.true) c.if-left-lt-WORD.true)

pub returns-then-is_later_part : goal.returns-then-is_later_part
returns-then-is_later_part c =
    let next = c.loop-left.next in
    let left = c.loop-left.left.now in
    sym c.loop-left.invariant
    ∙ upper_of-ends next left _ (header_step-later next left c.if-left-lt-WORD.false (sym c.is_later_part.ensures
    ∙ c.if-is_later_part.true))

pub returns-then-left-len : goal.returns-then-left-len
returns-then-left-len c =
    let next = c.loop-left.next in
    let left = c.loop-left.left.now in
    let len = c.extension_len-len.result in
    sym c.loop-left.invariant
    ∙ upper_of-fails next left Short (header_step-cut next len left (sym c.is_extension.ensures
    ∙ c.loop-left-test.true) c.if-left-lt-WORD.false
    (sym c.is_later_part.ensures ∙ c.if-is_later_part.false) c.extension_len-len.ensures c.if-left-len.true)

pub returns-in-Some : goal.returns-in-Some
returns-in-Some c =
    sym c.loop-left.invariant
    ∙ upper_of-last c.loop-left.next c.loop-left.left.now _ (sym c.is_extension.ensures
    ∙ c.loop-left-test.false) (c.read_ports.ensures ∙ ap or_short c.in-Some.is)

pub returns-in-None : goal.returns-in-None
returns-in-None c =
    sym c.loop-left.invariant
    ∙ upper_of-last c.loop-left.next c.loop-left.left.now _ (sym c.is_extension.ensures
    ∙ c.loop-left-test.false) (c.read_ports.ensures ∙ ap or_short c.in-None.is)
