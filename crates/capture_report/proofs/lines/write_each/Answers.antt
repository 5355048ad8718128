-- Each class has its own answers, and then its line is written.
use Rattle.std.proofs.Common.{◌≡◌, List, length, sym, ap, subst, ◌∙◌, arith}
use Rattle.list_lemmas.proofs.Loops.{left_is}
use Rattle.header_extract.specs.Class.{FrameClass}
use Rattle.acl_report.specs.Counting.{counted}
use Rattle.capture_report.proofs.Writing.{Written, Written-next, answered_ip4, answered_ip6, answered_none}
use Rattle.capture_report.proofs.Writing.{marked_ip4, marked_ip6, marked_none, in_front_ip4, in_front_ip6}
use Rattle.capture_report.proofs.lines.write_each.Goals as goal
use Rattle.capture_report.proofs.lines.write_each.Goals.{in-Ip4, in-Ip6, in-Other}

pub loop-packet-preserved : goal.loop-packet-preserved
loop-packet-preserved g c =
    let form = c.args.form.now in
    let was = c.args.counts.now in
    let l = c.loop-packet in
    let packets = c.args.packets.now in
    let p = c.packet-item.result in
    let size = length c.args.lines.now in
    let first = left_is packets l.packet-index p (omega (arith, c.loop-packet-test.true)) c.packet-item.is in
    let so_far = subst (λ (left : List FrameClass). Written form was l.counts packets left l.ip4.verdicts.now
    l.ip6.verdicts.now l.ip4.dashes.now l.ip6.dashes.now l.line l.at size l.lines) first l.invariant in
    let is_class = c.class-class.ensures in
    let is_now : c.add.new.self ≡ counted p.class l.counts = c.add.ensures
    ∙ ap (λ class. counted class l.counts) is_class in
    let is_count = c.shown_categories-count.ensures.count in
    elim c.match-class.branch [
      | in-Ip4 w ↦
          let own = w.put_own-at.ensures in
          Written-next so_far is_now c.advance.ensures w.at-is w.lines-is own.end own.lines own.len
          (answered_ip4 so_far.answered (sym is_class ∙ w.in-Ip4.is) is_count
          (ap (λ left. left.verdicts.now) w.ip4-is ∙ own.verdicts) (ap (λ left. left.verdicts.now) w.ip6-is))
          (λ asked.
          marked_ip4 (so_far.marked asked) (sym is_class ∙ w.in-Ip4.is) is_count
          (ap (λ left. left.dashes.now) w.ip4-is ∙ own.dashes asked) (ap (λ left. left.dashes.now) w.ip6-is))
      | in-Ip6 w ↦
          let own = w.put_own-at-in-Ip6.ensures in
          Written-next so_far is_now c.advance.ensures w.at-is w.lines-is own.end own.lines own.len
          (answered_ip6 so_far.answered (sym is_class ∙ w.in-Ip6.is) is_count
          (ap (λ left. left.verdicts.now) w.ip4-is) (ap (λ left. left.verdicts.now) w.ip6-is ∙ own.verdicts))
          (λ asked.
          marked_ip6 (so_far.marked asked) (sym is_class ∙ w.in-Ip6.is) is_count
          (ap (λ left. left.dashes.now) w.ip4-is) (ap (λ left. left.dashes.now) w.ip6-is ∙ own.dashes asked))
      | in-Other w ↦
          let line = w.write_line-at.ensures in
          Written-next so_far is_now c.advance.ensures w.at-is w.lines-is line.end line.lines line.len
          (answered_none so_far.answered is_class w.in-Other.is (ap (λ left. left.verdicts.now) w.ip4-is)
          (ap (λ left. left.verdicts.now) w.ip6-is))
          (λ asked.
          marked_none (so_far.marked asked) is_class w.in-Other.is (ap (λ left. left.dashes.now) w.ip4-is)
          (ap (λ left. left.dashes.now) w.ip6-is))
    ]

pub put_own-at-requires-clause-front : goal.put_own-at-requires-clause-front
put_own-at-requires-clause-front g c =
    let l = c.loop-packet in
    let packets = c.args.packets.now in
    let first = left_is packets l.packet-index c.packet-item.result (omega (arith, c.loop-packet-test.true))
    c.packet-item.is in
    let so_far = subst (λ (left : List FrameClass). Written c.args.form.now c.args.counts.now l.counts packets left
    l.ip4.verdicts.now l.ip6.verdicts.now l.ip4.dashes.now l.ip6.dashes.now l.line l.at (length c.args.lines.now)
    l.lines) first l.invariant in
    in_front_ip4 so_far.answered so_far.marked (sym c.class-class.ensures ∙ c.in-Ip4.is)

pub put_own-at-requires-in-Ip6-clause-front : goal.put_own-at-requires-in-Ip6-clause-front
put_own-at-requires-in-Ip6-clause-front g c =
    let l = c.loop-packet in
    let packets = c.args.packets.now in
    let first = left_is packets l.packet-index c.packet-item.result (omega (arith, c.loop-packet-test.true))
    c.packet-item.is in
    let so_far = subst (λ (left : List FrameClass). Written c.args.form.now c.args.counts.now l.counts packets left
    l.ip4.verdicts.now l.ip6.verdicts.now l.ip4.dashes.now l.ip6.dashes.now l.line l.at (length c.args.lines.now)
    l.lines) first l.invariant in
    in_front_ip6 so_far.answered so_far.marked (sym c.class-class.ensures ∙ c.in-Ip6.is)
