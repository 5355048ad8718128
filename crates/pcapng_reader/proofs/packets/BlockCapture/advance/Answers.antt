-- The buffer that was lent is the whole of it.
use Rattle.std.proofs.Common.{ℕ, ◌+◌, ◌≤◌, List, ◌++◌, length, take, drop, sym, subst, ap, ◌∙◌}
use Rattle.std.proofs.lemmas.List.{take_at}
use Rattle.std.specs.Prelude.{IfOk, IfSome}
use Rattle.pcapng_reader.specs.Block.{BlockState}
use Rattle.pcapng_reader.specs.Capture.{Blocks}
use Rattle.pcapng_reader.specs.Packets.{BlocksView, answer_in}
use Rattle.pcapng_reader.specs.Reader.{TakesNext}
use Rattle.pcapng_reader.proofs.packets.BlockCapture.advance.Goals as goal

pub returns-clause-takes : goal.returns-clause-takes
returns-clause-takes g c =
    let inside = c.self.inside in
    let old = g.D.Desk.view c.args.desk.now in
    let new = g.D.Desk.view c.take_packet.new.desk in
    let after = c.take_packet.new.reader in
    let lent = c.take_packet.new.buffer in
    let whole = take_at lent (drop (length lent) inside.buffer.items) inside.buffer.len
    (c.take_packet.auto.buffer ∙ c.deref_mut.ensures.len) in
    let room : List ℕ = take inside.buffer.len (lent ++ drop (length lent) inside.buffer.items) in
    subst (λ (state : BlockState). TakesNext (Blocks state) (Blocks after) old new
    (answer_in room c.take_packet.result))
    (ap (λ (view : BlocksView). view.state) c.self.view_is)
    (subst (λ (bytes : List ℕ). TakesNext (Blocks inside.reader) (Blocks after) old new
    (answer_in bytes c.take_packet.result)) (sym whole) c.take_packet.ensures.takes)

pub returns-clause-within : goal.returns-clause-within
returns-clause-within g c =
    let inside = c.self.inside in
    let lent = c.take_packet.new.buffer in
    let fits = c.take_packet.auto.buffer ∙ c.deref_mut.ensures.len in
    let whole = take_at lent (drop (length lent) inside.buffer.items) inside.buffer.len fits in
    subst (λ (n : ℕ). IfOk c.take_packet.result (λ place. IfSome place (λ p. p.at + p.len ≤ n)))
    (sym (ap length whole)) c.take_packet.ensures.within
