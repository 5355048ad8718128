-- What a block comes to that has no room in the buffer, part by part.
use Rattle.std.proofs.Common.{◌≡◌, ◌≢◌, ℕ, ◌+◌, ◌-◌, ◌<◌, ◌≤◌, List, [], ◌++◌, length, take, drop, Ok, Err}
use Rattle.std.proofs.Common.{inl}
use Rattle.std.proofs.Common.{refl, sym, ap, ◌∙◌, append_assoc, length-append, arith}
use Rattle.std.specs.Prelude.{◌==◌, not, nat_lt}
use Rattle.std.proofs.lemmas.Bool.{ne_eqb, eq-eqb}
use Rattle.std.proofs.lemmas.List.{drop_all, drop_at, take_at}
use Rattle.std.proofs.Math.Seq.{drop-append-add}
use Rattle.acl_outside.specs.Desk.{DeskView}
use Rattle.acl_outside.specs.Heard.{GoesOn, Ended}
use Rattle.pcap_reader.specs.declared.capture_fault.CaptureFault.{CaptureFault}
use Rattle.pcap_reader.specs.declared.capture_fault.CaptureFault.TheVariants.{PngCut, PngLength, ReadFault}
use Rattle.pcap_reader.specs.declared.start.Order.{Order}
use Rattle.pcap_reader.specs.declared.start.Order.TheVariants.{Big, Little}
use Rattle.pcap_reader.specs.Headers.{number_in}
use Rattle.pcapng_reader.specs.Block.{BlockState, Passed, Given, Fault, block_said, front_of}
use Rattle.pcap_reader.specs.Capture.{max_captured}
use Rattle.pcapng_reader.specs.Block.{head_len, least_len, said_by, state_said}
use Rattle.pcapng_reader.specs.Block.{max_interfaces, refuse}
use Rattle.pcap_reader.specs.declared.capture_fault.CaptureFault.TheVariants.{PngVersion, PngTooMany}
use Rattle.pcap_reader.specs.declared.link.Link.{Link}
use Rattle.pcapng_reader.specs.declared.kind.Kind.{Kind}
use Rattle.pcapng_reader.specs.declared.kind.Kind.TheVariants.{Section, Interface, Packet, Other}
use Rattle.pcapng_reader.proofs.Steps.{bind_ok}
use Rattle.pcapng_reader.specs.declared.front.Front.{Front}
use Rattle.pcapng_reader.specs.declared.said.Said.{Said}
use Rattle.pcapng_reader.specs.declared.said.Said.TheVariants as said
use Rattle.pcapng_reader.specs.BlockReading.{HasRead, HasBroken, HasRoom, BlockStands, IsHead, ReadsBlock, block_read}
use Rattle.pcapng_reader.specs.BlockReading.{EndIn, captured_by, read_of}
use Rattle.pcapng_reader.proofs.BlockLaws.{HasFront-from, front-append, said-append, said-cut_head}
use Rattle.pcapng_reader.proofs.BlockLaws.{said-fault, said-cut, said-other_end, said-whole, block-said_fault}
use Rattle.pcapng_reader.proofs.BlockLaws.{block-whole}
use Rattle.pcapng_reader.proofs.ReadLaws.{ReadsBlock-is, ReadsBlock-broken, ReadsBlock-plain, said-plain}
use Rattle.pcapng_reader.proofs.BlockEnds.{short-stuck}

-- A block's front isn't refused, and these bytes of it were read, at least the front.
module _ (state : BlockState) (front : Front) (part : List ℕ) (old new : DeskView)
    (is : front_of state part ≡ Ok front) where
  -- the front stays when more bytes are read
  longer : (more : List ℕ) → front_of state (part ++ more) ≡ Ok front
  longer more =
      let facts = HasFront-from state part front is in
      front-append state part more facts.few facts.there ∙ is

  -- a read failed in the block
  pub long-broken : (count : ℕ) → length part + count ≤ front.total →
      HasBroken state part (length part + count) old new → ReadsBlock state old new (Fault ReadFault)
  long-broken count within broken =
      ReadsBlock-broken state part (length part + count) old new broken
      (λ more less. short-stuck state (part ++ more) front.total (omega (arith, less, within))
      (λ other says. omega (arith, ap (λ f. f.total) (same other more says))))
    where
      same : (other : Front) (more : List ℕ) → front_of state (part ++ more) ≡ Ok other → front ≡ other
      same other more says = (let e = sym (longer more) ∙ says in cc)

  -- the end of the file cuts what says what the block is
  pub long-cut_head : (count : ℕ) (more : List ℕ) → length more < count →
      length part + count ≤ least_len front.kind - 4 →
      HasRead state (part ++ more) Ended old new → ReadsBlock state old new (Fault (PngCut (state.count + 1)))
  long-cut_head count more less within read =
      ReadsBlock-is state (part ++ more) Ended old new (Fault (PngCut (state.count + 1))) read
      (block-said_fault state (part ++ more) front _ (longer more)
      (said-cut_head state front (part ++ more) (omega (arith, less, within, length-append part more))))
      refl (λ e. absurd (cc))

  -- what the block says is refused
  pub long-refused : (fault : CaptureFault) → least_len front.kind - 4 ≤ length part →
      said_by front.kind state front part ≡ Err fault → HasRead state part GoesOn old new →
      ReadsBlock state old new (Fault fault)
  long-refused fault there says read =
      ReadsBlock-plain state part GoesOn old new fault read (inl refl)
      (block-said_fault state part front fault is (said-fault state front part fault there says))
      (said-plain front.kind state front part fault says)

  -- the end of the file cuts the block after that
  pub long-cut : (count : ℕ) (x : Said) (more : List ℕ) → length more < count → length part + count ≤ front.total →
      least_len front.kind - 4 ≤ length part → said_by front.kind state front part ≡ Ok x →
      HasRead state (part ++ more) Ended old new → ReadsBlock state old new (Fault (PngCut (state.count + 1)))
  long-cut count x more less within there says read =
      ReadsBlock-is state (part ++ more) Ended old new (Fault (PngCut (state.count + 1))) read
      (block-said_fault state (part ++ more) front _ (longer more)
      (said-cut state front (part ++ more) x (omega (arith, there, length-append part more))
      (said-append front.kind state front part more there ∙ says)
      (omega (arith, less, within, length-append part more)))) refl (λ e. absurd (cc))

-- a number that stands at a place is the first after it
number_at_drop : (order : Order) (bytes : List ℕ) (at : ℕ) →
    number_in order bytes at 4 ≡ number_in order (drop at bytes) 0 4
number_at_drop Big bytes at = refl
number_at_drop Little bytes at = refl

-- the last four bytes of a block are those of its last part
end_of_tail : (front : Front) (part tail : List ℕ) → 4 ≤ length tail → length (part ++ tail) ≡ front.total →
    number_in front.order (part ++ tail) (front.total - 4) 4
    ≡ number_in front.order (drop (length tail - 4) tail) 0 4
end_of_tail front part tail some len =
    let at : front.total - 4 ≡ length part + (length tail - 4) = omega (arith, some, len, length-append part tail) in
    number_at_drop front.order (part ++ tail) (front.total - 4)
    ∙ ap (λ n. number_in front.order (drop n (part ++ tail)) 0 4) at
    ∙ ap (λ (l : List ℕ). number_in front.order l 0 4) (drop-append-add part tail (length tail - 4))

-- only a packet says that it is one
said_kind : (kind : Kind) (state : BlockState) (front : Front) (bytes : List ℕ) (link : Link) (n : ℕ) →
    said_by kind state front bytes ≡ Ok (said.Packet link n) → kind ≡ Packet
said_kind Section state front bytes link n is =
    let one = bind_ok (refuse (not (number_in front.order bytes 12 2 == 1)) (PngVersion (state.count + 1))) _ _ is in
    absurd (let e = one.2 in cc)
said_kind Interface state front bytes link n is =
    let full = not (nat_lt (length state.interfaces) max_interfaces) in
    let room = bind_ok (refuse full (PngTooMany (state.count + 1))) _ _ is in
    absurd (let e = room.2 in cc)
said_kind Packet state front bytes link n is = refl
said_kind Other state front bytes link n is = absurd (cc)

-- All of it was read: what says what the block is, the captured bytes, and the rest.
module _ {state : BlockState} {front : Front} {x : Said} {head_size size end : ℕ} {head tail : List ℕ}
    {old new : DeskView} (captured : List ℕ) (its : IsHead state front x head_size head)
    (rest : EndIn front.order size end tail) (some : 4 ≤ size)
    (total : length head + length captured + size ≡ front.total)
    (read : HasRead state ((head ++ captured) ++ tail) GoesOn old new) where
  -- all bytes of the block
  abbrev all : List ℕ
  all = (head ++ captured) ++ tail

  -- they are the head, and then the captured bytes and the rest
  as_one : all ≡ head ++ (captured ++ tail)
  as_one = append_assoc head captured tail

  -- they are as many as the front says
  len : length all ≡ front.total
  len = omega (arith, total, rest.len, length-append (head ++ captured) tail, length-append head captured)

  -- they begin with the front
  fronted : front_of state all ≡ Ok front
  fronted =
      let facts = HasFront-from state head front its.front_is in
      ap (front_of state) as_one ∙ front-append state head (captured ++ tail) facts.few facts.there ∙ its.front_is

  -- they say what the head says
  says_all : said_by front.kind state front all ≡ Ok x
  says_all =
      ap (said_by front.kind state front) as_one
      ∙ said-append front.kind state front head (captured ++ tail) its.enough ∙ its.says

  -- they are enough for what the kind says
  there_all : least_len front.kind - 4 ≤ length all
  there_all = omega (arith, its.enough, length-append (head ++ captured) tail, length-append head captured)

  -- the length at their end is that of the rest
  end_is : number_in front.order all (front.total - 4) 4 ≡ end
  end_is =
      end_of_tail front (head ++ captured) tail (omega (arith, some, rest.len)) len
      ∙ ap (λ n. number_in front.order (drop (n - 4) tail) 0 4) rest.len ∙ rest.number

  -- the block ends in another number than its length
  pub long-other_end : end ≢ front.total → ReadsBlock state old new (Fault (PngLength (state.count + 1)))
  long-other_end isnt =
      ReadsBlock-plain state all GoesOn old new (PngLength (state.count + 1)) read (inl refl)
      (block-said_fault state all front _ fronted
      (said-other_end state front all x there_all says_all (omega (arith, len))
      (rw (ne_eqb (number_in front.order all (front.total - 4) 4) front.total (λ e. isnt (sym end_is ∙ e))) refl))) tt

  -- or in its length
  pub long-whole : (buffer : List ℕ) → end ≡ front.total → take (captured_by x) buffer ≡ captured →
      length captured ≡ captured_by x →
      ReadsBlock state old new (block_read (state_said state front x) buffer (Ok (read_of x 0)))
  long-whole buffer same holds fits =
      ReadsBlock-is state all GoesOn old new _ read
      (block-whole state all front x fronted
      (said-whole state front all x there_all says_all (omega (arith, len))
      (rw (eq-eqb (number_in front.order all (front.total - 4) 4) front.total (end_is ∙ same)) refl))
      ∙ came_to x its.says holds fits (drop_all front.total all (omega (arith, len))))
      (stood x) (no_fault x)
    where
      came_to : (y : Said) → said_by front.kind state front head ≡ Ok y → take (captured_by y) buffer ≡ captured →
          length captured ≡ captured_by y → drop front.total all ≡ [] →
          block_said state front y all ≡ block_read (state_said state front y) buffer (Ok (read_of y 0))
      came_to said.Section is_said holds fits none = ap (Passed (state_said state front said.Section)) none
      came_to (said.Interface link) is_said holds fits none =
          ap (Passed (state_said state front (said.Interface link))) none
      came_to said.Other is_said holds fits none = ap (Passed (state_said state front said.Other)) none
      came_to (said.Packet link n) is_said holds fits none =
          let now = state_said state front (said.Packet link n) in
          let at_28 : drop 28 all ≡ captured ++ tail =
          ap (drop 28) as_one ∙ drop_at head (captured ++ tail) 28
          (its.len_is ∙ its.packet (said_kind front.kind state front head link n is_said)) in
          let bytes : take n (drop 28 all) ≡ take n buffer =
          ap (take n) at_28 ∙ take_at captured tail n fits ∙ sym holds in
          ap (λ (l : List ℕ). Given (record { link = link; bytes = l }) now (drop front.total all)) bytes
          ∙ ap (Given (record { link = link; bytes = take n buffer }) now) none

      stood : (y : Said) → BlockStands (block_read (state_said state front y) buffer (Ok (read_of y 0))) GoesOn
      stood said.Section = refl
      stood (said.Interface link) = refl
      stood (said.Packet link n) = refl
      stood said.Other = refl

      no_fault : (y : Said) → block_read (state_said state front y) buffer (Ok (read_of y 0)) ≢ Fault ReadFault
      no_fault said.Section e = absurd (cc)
      no_fault (said.Interface link) e = absurd (cc)
      no_fault (said.Packet link n) e = absurd (cc)
      no_fault said.Other e = absurd (cc)

-- where bytes are missing of what says what a block is, they are missing of the shortest such block
pub head_cut : (kind : Kind) (len : ℕ) → len < head_len kind - 12 → 12 + (head_len kind - 12) ≤ least_len kind - 4
head_cut Section len less = omega arith
head_cut Interface len less = omega arith
head_cut Packet len less = omega arith
head_cut Other len less = absurd (omega (arith, less))

-- what says what a block is has all but the last four bytes of the shortest such block
pub head_enough : (kind : Kind) → (12 ≤ head_len kind) × (least_len kind - 4 ≤ head_len kind)
head_enough Section = (omega arith, omega arith)
head_enough Interface = (omega arith, omega arith)
head_enough Packet = (omega arith, omega arith)
head_enough Other = (omega arith, omega arith)

-- and at most 28
pub head_most : (kind : Kind) → head_len kind ≤ 28
head_most Section = omega arith
head_most Interface = omega arith
head_most Packet = omega arith
head_most Other = omega arith

-- a packet's captured bytes begin after it
pub head_packet : (kind : Kind) → kind ≡ Packet → head_len kind ≡ 28
head_packet kind is = ap head_len is

-- there is room for the captured bytes, and for the rest of the block
pub room_left : (x : Said) (state : BlockState) (front : Front) → HasRoom state front x → max_captured < front.total →
    (captured_by x ≤ max_captured) × (captured_by x + 32 ≤ front.total)
room_left said.Section state front room long = (omega arith, omega (arith, long))
room_left (said.Interface link) state front room long = (omega arith, omega (arith, long))
room_left (said.Packet link captured) state front room long = room
room_left said.Other state front room long = (omega arith, omega (arith, long))

-- bytes that say what a block is say so with more bytes after them
pub head-more : (state : BlockState) (front : Front) (x : Said) (len : ℕ) (part more : List ℕ) →
    IsHead state front x len part →
    (front_of state (part ++ more) ≡ Ok front) × (least_len front.kind - 4 ≤ length (part ++ more))
    × (said_by front.kind state front (part ++ more) ≡ Ok x)
head-more state front x len part more head =
    let facts = HasFront-from state part front head.front_is in (
      front-append state part more facts.few facts.there ∙ head.front_is,
      omega (arith, head.enough, length-append part more),
      said-append front.kind state front part more head.enough ∙ head.says,
    )
