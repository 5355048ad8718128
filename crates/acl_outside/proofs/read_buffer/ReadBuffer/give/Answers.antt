use Rattle.std.proofs.Common.{◌≡◌, ℕ, ◌+◌, ◌-◌, ◌≤◌, List, length, take, drop, length-take, sym, ◌∙◌, ap, arith}
use Rattle.std.proofs.lemmas.List.{drop-drop, drop-take}
use Rattle.acl_outside.proofs.read_buffer.ReadBuffer.give.Goals as goal

-- what is held from a later byte on is what was held, without its first bytes
drop-held : (start end count : ℕ) (bytes : List ℕ) → count ≤ end - start →
    take (end - (start + count)) (drop (start + count) bytes) ≡ drop count (take (end - start) (drop start bytes))
drop-held start end count bytes in_held =
    let after = end - (start + count) in
    let parts : count + after ≡ end - start = omega arith in
    ap (take after) (sym (drop-drop count start bytes)) ∙ sym (drop-take count after (drop start bytes)) ∙
    ap (λ len. drop count (take len (drop start bytes))) parts

pub returns-then-into-held-clause-left : goal.returns-then-into-held-clause-left
returns-then-into-held-clause-left c =
    let inside = c.self.inside in
    let count = length c.args.into.now in
    let in_held : count ≤ inside.end - inside.start =
    omega (arith, c.if-into-held.true, length-take (inside.end - inside.start) (drop inside.start inside.bytes)) in
    rw (← c.self.view_is) (drop-held inside.start inside.end count inside.bytes in_held)
