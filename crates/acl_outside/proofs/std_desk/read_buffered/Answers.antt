use Rattle.std.proofs.Common.{ℕ, List, [], take, drop, Option, Some, None, refl, ◌∙◌}
use Rattle.std.specs.Io.KnownBytes.{Consumes, prepend_known}
use Rattle.acl_outside.proofs.HeldLaws.{Consumes-held}
use Rattle.acl_outside.proofs.std_desk.read_buffered.Goals as goal
use Rattle.acl_outside.proofs.std_desk.read_buffered.Goals.{then-is_empty-2+else-into-ge-BUFFER_SIZE+in_ok-refill, else-is_empty-2}

-- what was read into an empty buffer comes first
Consumes-refilled : (n : ℕ) (held : List ℕ) (old new : Option (List ℕ)) → Consumes old new held →
    Consumes (prepend_known [] old) (prepend_known (drop n held) new) (take n held)
Consumes-refilled n held None new read = tt
Consumes-refilled n held (Some old) None read = absurd read
Consumes-refilled n held (Some old) (Some new) read = read ∙ Consumes-held n held (Some new)

pub returns-clause-given : goal.returns-clause-given
returns-clause-given g c =
    let remaining = g.F.Read.remaining in
    rw (c.give.ensures.given, c.give.ensures.left) (elim c.if-is_empty-2.branch [
      | then-is_empty-2+else-into-ge-BUFFER_SIZE+in_ok-refill w ↦
          rw (w.buffer-is, w.file-is, w.if-is_empty-2.ensures.0 refl)
          (Consumes-refilled c.give.result w.refill.new.self (remaining c.args.file.now) (remaining w.refill.new.file)
          w.in_ok-refill.ensures.read)
      | else-is_empty-2 w ↦
          rw (w.buffer-is, w.file-is) (Consumes-held c.give.result c.args.buffer.now (remaining c.args.file.now))
    ])
