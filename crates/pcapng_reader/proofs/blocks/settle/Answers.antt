-- The block was read after its front, in full or not.
use Rattle.std.proofs.Common.{◌≡◌, ℕ, ◌+◌, ◌≤◌, List, ◌++◌, length, take, drop, Ok, sym, subst, ap, ◌∙◌}
use Rattle.std.proofs.Common.{arith, length-take, length-drop}
use Rattle.std.proofs.lemmas.List.{take-append-drop}
use Rattle.acl_outside.specs.declared.desk.Failed.{Failed}
use Rattle.acl_outside.specs.Desk.{DeskView}
use Rattle.pcap_reader.specs.declared.capture_fault.CaptureFault.TheVariants.{PngCut, PngLength}
use Rattle.pcapng_reader.specs.Block.{BlockState, Fault, front_of, has_other_end, least_len}
use Rattle.pcapng_reader.specs.Block.{said_by}
use Rattle.pcapng_reader.specs.declared.front.Front.{Front}
use Rattle.pcapng_reader.specs.BlockReading.{HasRest, ReadsBlock}
use Rattle.pcapng_reader.proofs.BlockLaws.{HasFront-from}
use Rattle.pcapng_reader.proofs.ShortLaws.{short-cut_head, short-refused, short-cut, other_end, same_end}
use Rattle.pcapng_reader.proofs.ShortLaws.{HasFrontRead, short-other_end, short-whole}
use Rattle.pcapng_reader.proofs.ReadLaws.{answers_fault, answers_read, within_block}
use Rattle.pcapng_reader.proofs.blocks.settle.Goals as goal

-- The front of a block was read, which has as many bytes more as its length says.
record IsCut (state : BlockState) (front : Front) (block before : List ℕ) (old mid : DeskView) : Type 0 where
  of_front : HasFrontRead state front (take 12 block) before (drop 12 block) old mid
  parts : take 12 block ++ drop 12 block ≡ block
  least : least_len front.kind ≤ front.total

cut : (state : BlockState) (front : Front) (block : List ℕ) (count : ℕ) (old new : DeskView) →
    front_of state (take 12 block) ≡ Ok front → length block ≡ front.total →
    (read : HasRest state block count old new) → IsCut state front block read.before old read.mid
cut state front block count old new is total read =
    let facts = HasFront-from state (take 12 block) front is in
    let there : 12 ≤ length block = omega (arith, facts.there, length-take 12 block) in
    record {
      of_front = record {
        is = is;
        whole = omega (arith, there, length-take 12 block);
        fits = omega (arith, there, read.room, length-drop 12 block);
        total = omega (arith, there, total, read.room);
        read = read.front;
      };
      parts = take-append-drop 12 block;
      least = facts.least;
    }

pub returns-then-len-least_len : goal.returns-then-len-least_len
returns-then-len-least_len c before after h =
    let state = c.args.reader.now in
    let block = c.args.block.now in
    let is = cut state c.args.front block c.args.count before after c.requires.front c.requires.total h in
    answers_fault
    (subst (λ n. ReadsBlock state before after (Fault (PngCut (n + 1)))) (sym (ap (λ s. s.count) c.reader.view_is))
    (short-cut_head is.of_front c.args.count h.rest
    (omega (arith, c.if-len-least_len.true, c.least_len.ensures)) is.least))

pub returns-in-Err : goal.returns-in-Err
returns-in-Err c before after h =
    let state = c.args.reader.now in
    let front = c.args.front in
    let block = c.args.block.now in
    let is = cut state front block c.args.count before after c.requires.front c.requires.total h in
    answers_fault
    (short-refused is.of_front c.args.count c.in-Err.fault h.rest
    (omega (arith, c.if-len-least_len.false, c.least_len.ensures))
    (omega (arith, c.requires.within, c.requires.total, is.of_front.total))
    (ap (said_by front.kind state front) is.parts ∙ sym c.said.ensures.said ∙ c.in-Err.is))

pub returns-then-len-block : goal.returns-then-len-block
returns-then-len-block c before after h =
    let state = c.args.reader.now in
    let front = c.args.front in
    let block = c.args.block.now in
    let is = cut state front block c.args.count before after c.requires.front c.requires.total h in
    answers_fault
    (subst (λ n. ReadsBlock state before after (Fault (PngCut (n + 1)))) (sym (ap (λ s. s.count) c.reader.view_is))
    (short-cut is.of_front c.args.count c.in-Ok.said h.rest
    (omega (arith, c.if-len-least_len.false, c.least_len.ensures))
    (omega (arith, c.if-len-block.true, c.requires.total, is.of_front.total))
    (ap (said_by front.kind state front) is.parts ∙ sym c.said.ensures.said ∙ c.in-Ok.is)))

pub returns-then-u32_in-front : goal.returns-then-u32_in-front
returns-then-u32_in-front c before after h =
    let state = c.args.reader.now in
    let front = c.args.front in
    let block = c.args.block.now in
    let is = cut state front block c.args.count before after c.requires.front c.requires.total h in
    let all : c.args.count ≡ length h.before =
    omega (arith, c.if-len-block.false, c.requires.within, c.requires.total, is.of_front.total) in
    answers_fault
    (subst (λ n. ReadsBlock state before after (Fault (PngLength (n + 1)))) (sym (ap (λ s. s.count) c.reader.view_is))
    (short-other_end is.of_front {E = Failed} c.in-Ok.said (rw all at h.rest) (omega (arith, is.least))
    (ap (said_by front.kind state front) is.parts ∙ sym c.said.ensures.said ∙ c.in-Ok.is)
    (ap (has_other_end front) is.parts
    ∙ other_end front block c.u32_in.result c.requires.total c.u32_in.ensures c.if-u32_in-front.true)))

pub returns : goal.returns
returns c before after h =
    let state = c.args.reader.now in
    let front = c.args.front in
    let block = c.args.block.now in
    let is = cut state front block c.args.count before after c.requires.front c.requires.total h in
    let all : c.args.count ≡ length h.before =
    omega (arith, c.if-len-block.false, c.requires.within, c.requires.total, is.of_front.total) in
    answers_read c.in-Ok.said 28 (sym is.parts) c.learn.ensures c.read_of.ensures
    (within_block c.in-Ok.said state front (length block) c.in-Ok.ensures.room (omega (arith, c.requires.total)))
    (short-whole is.of_front {E = Failed} c.in-Ok.said (rw all at h.rest) (omega (arith, is.least))
    (ap (said_by front.kind state front) is.parts ∙ sym c.said.ensures.said ∙ c.in-Ok.is)
    (ap (has_other_end front) is.parts
    ∙ same_end front block c.u32_in.result c.requires.total c.u32_in.ensures c.if-u32_in-front.false))
