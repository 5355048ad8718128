-- The rest of the block was read after its front: it is a whole packet, or is looked at again.
use Rattle.std.proofs.Common.{◌≡◌, ℕ, ◌+◌, ◌-◌, ◌≤◌, List, ◌++◌, length, take, drop, Ok, sym, subst, ap, ◌∙◌}
use Rattle.std.proofs.Common.{arith, length-append, length-take, length-drop}
use Rattle.std.proofs.lemmas.List.{take_at, drop_at}
use borrow.Rule.Slice.PartMut.{put_mid}
use Rattle.acl_outside.specs.Heard.{GoesOn}
use Rattle.acl_outside.specs.declared.desk.Failed.{Failed}
use Rattle.pcapng_reader.specs.Block.{BlockState, front_of, has_other_end, least_len, said_by}
use Rattle.pcapng_reader.specs.declared.front.Front.{Front}
use Rattle.pcapng_reader.specs.declared.said.Said.TheVariants as said
use Rattle.pcap_reader.specs.Fill.{Fills}
use Rattle.pcapng_reader.specs.BlockReading.{HasRead}
use Rattle.pcapng_reader.proofs.BlockLaws.{HasFront-from}
use Rattle.pcapng_reader.proofs.ReadLaws.{answers_fault}
use Rattle.pcapng_reader.proofs.ShortLaws.{HasFrontRead, block-filled, short-broken, short-whole}
use Rattle.pcapng_reader.proofs.blocks.read_short.Goals as goal

-- A block whose front was read has twelve bytes and as many more as its length says.
record IsCut (state : BlockState) (front : Front) (block : List ℕ) : Type 0 where
  first : length (take 12 block) ≡ 12
  rest : length (take (length block - 12) (drop 12 block)) ≡ length block - 12
  total : 12 + length (take (length block - 12) (drop 12 block)) ≡ front.total
  there : 12 ≤ length block
  least : least_len front.kind ≤ front.total

cut : (state : BlockState) (front : Front) (block : List ℕ) → front_of state (take 12 block) ≡ Ok front →
    length block ≡ front.total → IsCut state front block
cut state front block is total =
    let facts = HasFront-from state (take 12 block) front is in
    let there : 12 ≤ length block = omega (arith, facts.there, length-take 12 block) in
    record {
      first = omega (arith, there, length-take 12 block);
      rest = omega (arith, length-take (length block - 12) (drop 12 block), length-drop 12 block);
      total = omega (arith, there, total, length-take (length block - 12) (drop 12 block), length-drop 12 block);
      there = there;
      least = facts.least;
    }

-- The rest was read into its place.
record IsFilled (block rest now : List ℕ) : Type 0 where
  parts : now ≡ take 12 block ++ rest
  first : take 12 now ≡ take 12 block
  rest_is : drop 12 now ≡ rest
  len : length now ≡ length block

is_filled : (block rest : List ℕ) → 12 ≤ length block → length rest ≡ length block - 12 →
    IsFilled block rest (put_mid 12 (length block - 12) block rest)
is_filled block rest there fits =
    let parts = block-filled 12 block rest there fits in
    let first : length (take 12 block) ≡ 12 = omega (arith, there, length-take 12 block) in
    record {
      parts = parts;
      first = ap (take 12) parts ∙ take_at (take 12 block) rest 12 first;
      rest_is = ap (drop 12) parts ∙ drop_at (take 12 block) rest 12 first;
      len = ap length parts ∙ omega (arith, there, fits, first, length-append (take 12 block) rest);
    }

pub returns-in-Err : goal.returns-in-Err
returns-in-Err g c before h =
    let state = c.args.reader.now in
    let block = c.args.block.now in
    let is = cut state c.args.front.now block c.requires.front c.requires.total in
    let of_front : HasFrontRead state c.args.front.now (take 12 block) (take (length block - 12) (drop 12 block))
    c.fill.new.into before (g.D.Desk.view c.args.desk.now) =
    record {
      is = c.requires.front;
      whole = is.first;
      fits = c.fill.auto.into;
      total = is.total;
      read = h;
    } in
    answers_fault (short-broken of_front c.in-Err.field-0 c.in-Err.ensures)

pub packet_at-requires-clause-there : goal.packet_at-requires-clause-there
packet_at-requires-clause-there g c =
    let is = cut c.args.reader.now c.args.front.now c.args.block.now c.requires.front c.requires.total in
    let now = is_filled c.args.block.now c.fill.new.into is.there (c.fill.auto.into ∙ is.rest) in
    omega (arith, is.least, now.len, c.requires.total)

pub packet_at-requires-clause-multiple : goal.packet_at-requires-clause-multiple
packet_at-requires-clause-multiple g c =
    (HasFront-from c.args.reader.now (take 12 c.args.block.now) c.args.front.now c.requires.front).multiple

pub packet_at-requires-clause-total : goal.packet_at-requires-clause-total
packet_at-requires-clause-total g c =
    let is = cut c.args.reader.now c.args.front.now c.args.block.now c.requires.front c.requires.total in
    let now = is_filled c.args.block.now c.fill.new.into is.there (c.fill.auto.into ∙ is.rest) in
    now.len ∙ c.requires.total

pub packet_at-requires-clause-within : goal.packet_at-requires-clause-within
packet_at-requires-clause-within g c =
    let is = cut c.args.reader.now c.args.front.now c.args.block.now c.requires.front c.requires.total in
    let now = is_filled c.args.block.now c.fill.new.into is.there (c.fill.auto.into ∙ is.rest) in
    omega (arith, c.in-Ok.ensures.within, is.rest, now.len, is.there)

pub settle_in_parts-requires-clause-front : goal.settle_in_parts-requires-clause-front
settle_in_parts-requires-clause-front g c =
    let is = cut c.args.reader.now c.args.front.now c.args.block.now c.requires.front c.requires.total in
    let now = is_filled c.args.block.now c.fill.new.into is.there (c.fill.auto.into ∙ is.rest) in
    ap (front_of c.args.reader.now) now.first ∙ c.requires.front

pub settle_in_parts-requires-clause-total : goal.settle_in_parts-requires-clause-total
settle_in_parts-requires-clause-total g c =
    let is = cut c.args.reader.now c.args.front.now c.args.block.now c.requires.front c.requires.total in
    let now = is_filled c.args.block.now c.fill.new.into is.there (c.fill.auto.into ∙ is.rest) in
    now.len ∙ c.requires.total

pub settle_in_parts-requires-clause-within : goal.settle_in_parts-requires-clause-within
settle_in_parts-requires-clause-within g c =
    let is = cut c.args.reader.now c.args.front.now c.args.block.now c.requires.front c.requires.total in
    let now = is_filled c.args.block.now c.fill.new.into is.there (c.fill.auto.into ∙ is.rest) in
    omega (arith, c.in-Ok.ensures.within, is.rest, now.len, is.there)

pub returns-in-Some : goal.returns-in-Some
returns-in-Some g c since h =
    let state = c.args.reader.now in
    let front = c.args.front.now in
    let block = c.args.block.now in
    let place = c.in-Some.place in
    let is = cut state front block c.requires.front c.requires.total in
    let now = is_filled block c.fill.new.into is.there (c.fill.auto.into ∙ is.rest) in
    let kind = c.in-Some.ensures.0 in
    let packet = c.in-Some.ensures.1 in
    let all : c.in-Ok.count ≡ length (take (length block - 12) (drop 12 block)) =
    omega (arith, packet.whole, now.len, is.rest, is.there) in
    let of_front : HasFrontRead state front (take 12 block) (take (length block - 12) (drop 12 block))
    c.fill.new.into since (g.D.Desk.view c.args.desk.now) =
    record {
      is = c.requires.front;
      whole = is.first;
      fits = c.fill.auto.into;
      total = is.total;
      read = h;
    } in
    record {
      block =
          rw (now.parts, c.count_packet.ensures, packet.start)
          (short-whole of_front {E = Failed} (said.Packet place.link place.len)
          (rw all at c.in-Ok.ensures) (omega (arith, is.least))
          (ap (said_by front.kind state front) (sym now.parts)
          ∙ ap (λ k. said_by k state front (put_mid 12 (length block - 12) block c.fill.new.into)) kind ∙ packet.says)
          (ap (has_other_end front) (sym now.parts) ∙ packet.ends));
      within = packet.within;
      stays = tt;
    }

pub returns-in-None : goal.returns-in-None
returns-in-None g c since h =
    let state = c.args.reader.now in
    let block = c.args.block.now in
    let old = g.D.Desk.view c.args.desk.now in
    let new = g.D.Desk.view c.fill.new.desk in
    let is = cut state c.args.front.now block c.requires.front c.requires.total in
    let now = is_filled block c.fill.new.into is.there (c.fill.auto.into ∙ is.rest) in
    c.settle_in_parts.ensures since new
    (record {
      mid = old;
      before = take (length block - 12) (drop 12 block);
      room = omega (arith, is.rest, now.len);
      front = subst (λ l. HasRead state l GoesOn since old) (sym now.first) h;
      rest = subst (λ l. Fills {E = Failed} (take (length block - 12) (drop 12 block)) l old new (Ok c.in-Ok.count))
          (sym now.rest_is) c.in-Ok.ensures;
    })
