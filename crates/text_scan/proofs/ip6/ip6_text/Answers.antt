use Rattle.std.proofs.Common.{◌+◌, arith, ap}
use Rattle.std.proofs.lemmas.Bool.{and_parts}
use Rattle.std.proofs.lemmas.List.{take_rest}
use Rattle.text_scan.proofs.Addresses.{ip6_of_shortened}
use Rattle.text_scan.proofs.ip6.ip6_text.Goals as goal
use Rattle.list_lemmas.proofs.Powers.{moved_to_top, top_and_bottom}
use Rattle.list_lemmas.proofs.Tests.{test_passed}

pub overflow_add-result : goal.overflow_add-result
overflow_add-result c =
    let before = c.in_ok-before.before in
    let after = c.in_ok-after.after in
    let moved = moved_to_top before.value before.count (omega arith) c.in_ok-before.ensures.fits in
    let both = top_and_bottom before.value before.count after.value after.count
    c.if-before-after-gt-MOST_BESIDE_GAP.false c.in_ok-before.ensures.fits c.in_ok-after.ensures.fits in
    omega arith

pub returns : goal.returns
returns c =
    let bytes = c.args.bytes.now in
    let before = c.in_ok-before.before in
    let after = c.in_ok-after.after in
    let found = test_passed _ _ _ c.in-Some.ensures.first in
    let first = rw found.1 at (test_passed _ _ _ c.in_ok-before.ensures.pieces) in
    let last = rw (take_rest bytes (c.in-Some.place + 2), found.1) at
    (test_passed _ _ _ c.in_ok-after.ensures.pieces) in
    ip6_of_shortened bytes before after _ found.0 (and_parts _ _ first.0).0 first.1
    (and_parts _ _ last.0).0 last.1 c.if-before-after-gt-MOST_BESIDE_GAP.false
    (ap (λ n. n + after.value) (moved_to_top before.value before.count (omega arith) c.in_ok-before.ensures.fits))
