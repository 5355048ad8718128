-- What a block comes to that has room in the buffer.
use Rattle.std.proofs.Common.{◌≡◌, ◌≢◌, ℕ, ◌+◌, ◌-◌, ◌<◌, ◌≤◌, List, [], ◌++◌, length, take, drop, true, false, Ok, Err}
use Rattle.std.proofs.Common.{inl}
use Rattle.std.proofs.Common.{refl, sym, ap, ◌∙◌, append_assoc, append-nil, length-append, length-take}
use Rattle.std.proofs.Common.{length-drop, arith}
use Rattle.std.proofs.lemmas.Bool.{ne_eqb, eq-eqb}
use Rattle.pcap_reader.specs.Headers.{number_in}
use Rattle.std.proofs.lemmas.List.{drop_all, take-append-drop}
use borrow.Rule.Slice.PartMut.{put_mid}
use Rattle.acl_outside.specs.Desk.{DeskView}
use Rattle.acl_outside.specs.Heard.{GoesOn, Ended}
use Rattle.pcap_reader.specs.declared.capture_fault.CaptureFault.{CaptureFault}
use Rattle.pcap_reader.specs.declared.capture_fault.CaptureFault.TheVariants.{PngCut, PngLength, ReadFault}
use Rattle.pcap_reader.specs.Fill.{Fills}
use Rattle.pcapng_reader.specs.Block.{BlockState, Passed, Given, Fault, block_said, front_of, front_len}
use Rattle.pcapng_reader.specs.Block.{least_len}
use Rattle.pcapng_reader.specs.Block.{has_other_end, is_last, said_by, state_said}
use Rattle.pcapng_reader.specs.declared.front.Front.{Front}
use Rattle.pcapng_reader.specs.declared.said.Said.{Said}
use Rattle.pcapng_reader.specs.declared.said.Said.TheVariants as said
use Rattle.pcapng_reader.specs.BlockReading.{HasRead, BlockStands, ReadsBlock, block_read, read_of}
use Rattle.pcapng_reader.proofs.BlockLaws.{HasFront-from, front_least, front-append, said-append, said-cut_head}
use Rattle.pcapng_reader.proofs.BlockLaws.{said-fault, said-cut, said-other_end, said-whole, block-said_fault}
use Rattle.pcapng_reader.proofs.BlockLaws.{block-whole}
use Rattle.pcapng_reader.proofs.ReadLaws.{HasRead-full, HasRead-short, HasRead-either, HasBroken-from}
use Rattle.pcapng_reader.proofs.ReadLaws.{ReadsBlock-is, ReadsBlock-broken, ReadsBlock-plain, said-plain}
use Rattle.pcapng_reader.proofs.BlockEnds.{short-stuck}

-- bytes of which the rest was read into its place, after so many
pub block-filled : (n : ℕ) (bytes rest : List ℕ) → n ≤ length bytes → length rest ≡ length bytes - n →
    put_mid n (length bytes - n) bytes rest ≡ take n bytes ++ rest
block-filled n bytes rest there fits =
    let size = length bytes - n in
    ap (λ (l : List ℕ). take n bytes ++ (rest ++ l))
    (drop_all size (drop n bytes) (omega (arith, length-drop n bytes)))
    ∙ ap (λ (l : List ℕ). take n bytes ++ l) (append-nil rest)

-- the last four bytes of a block are a number, and it isn't its length
pub other_end : (front : Front) (block : List ℕ) (n : ℕ) → length block ≡ front.total →
    n ≡ number_in front.order block (length block - 4) 4 → n ≢ front.total → has_other_end front block ≡ true
other_end front block n len is isnt =
    rw (ne_eqb (number_in front.order block (front.total - 4) 4) front.total
    (λ e. isnt ((rw len at is) ∙ e))) refl

-- or it is
pub same_end : (front : Front) (block : List ℕ) (n : ℕ) → length block ≡ front.total →
    n ≡ number_in front.order block (length block - 4) 4 → n ≡ front.total → has_other_end front block ≡ false
same_end front block n len is same =
    rw (eq-eqb (number_in front.order block (front.total - 4) 4) front.total (sym (rw len at is) ∙ same)) refl

-- A front was read that isn't refused, and the rest of the block has as much room as its length says.
pub record HasFrontRead (state : BlockState) (front : Front) (first before rest : List ℕ) (old mid : DeskView) : Type 0
  where
    pub is : front_of state first ≡ Ok front
    pub whole : length first ≡ front_len
    pub fits : length rest ≡ length before
    pub total : front_len + length before ≡ front.total
    pub read : HasRead state first GoesOn old mid

-- And then the rest of the block was read.
module _ {state : BlockState} {front : Front} {first before rest : List ℕ} {old mid : DeskView}
    (its : HasFrontRead state front first before rest old mid) where
  -- one block more may be read
  few : is_last state ≡ false
  few = (HasFront-from state first front its.is).few

  -- the front stays whatever stands after it
  longer : (more : List ℕ) → front_of state (first ++ more) ≡ Ok front
  longer more = front-append state first more few (omega (arith, its.whole)) ∙ its.is

  -- each kind has at least the bytes of a front
  least : front_len ≤ least_len front.kind
  least = front_least front.kind

  -- a read failed in the rest
  pub short-broken : {new : DeskView} {E : Type 0} (fault : E) → Fills before rest mid new (Err fault) →
      ReadsBlock state old new (Fault ReadFault)
  short-broken {new} fault filled =
      ReadsBlock-broken state first (length first + length before) old new
      (HasBroken-from state first before rest fault old mid new its.read filled)
      (λ more less. short-stuck state (first ++ more) front.total (omega (arith, less, its.whole, its.total))
      (λ other says. omega (arith, ap (λ f. f.total) (same other more says))))
    where
      same : (other : Front) (more : List ℕ) → front_of state (first ++ more) ≡ Ok other → front ≡ other
      same other more says = (let e = sym (longer more) ∙ says in cc)

  -- the end of the file cuts what says what the block is
  pub short-cut_head : {new : DeskView} {E : Type 0} (count : ℕ) → Fills {E = E} before rest mid new (Ok count) →
      count + front_len < least_len front.kind - 4 → least_len front.kind ≤ front.total →
      ReadsBlock state old new (Fault (PngCut (state.count + 1)))
  short-cut_head {new} count filled cut room =
      let part : List ℕ = first ++ take count rest in
      let less : count < length before = omega (arith, cut, room, its.total) in
      let len : length part ≡ front_len + count =
      omega (arith, its.whole, its.fits, less, length-append first (take count rest), length-take count rest) in
      ReadsBlock-is state part Ended old new (Fault (PngCut (state.count + 1)))
      (HasRead-short state first before rest count old mid new its.read less filled)
      (block-said_fault state part front _ (longer (take count rest))
      (said-cut_head state front part (omega (arith, len, cut)))) refl (λ e. absurd (cc))

  -- the block is what was read of it and what wasn't
  parts : (count : ℕ) → first ++ rest ≡ (first ++ take count rest) ++ drop count rest
  parts count = ap (λ (l : List ℕ). first ++ l) (sym (take-append-drop count rest))
      ∙ sym (append_assoc first (take count rest) (drop count rest))

  -- what the block says is refused
  pub short-refused : {new : DeskView} {E : Type 0} (count : ℕ) (fault : CaptureFault) →
      Fills {E = E} before rest mid new (Ok count) → least_len front.kind - 4 ≤ front_len + count →
      count ≤ length before →
      said_by front.kind state front (first ++ rest) ≡ Err fault → ReadsBlock state old new (Fault fault)
  short-refused {new} count fault filled there within says =
      let part : List ℕ = first ++ take count rest in
      let len : length part ≡ front_len + count =
      omega (arith, its.whole, its.fits, within, length-append first (take count rest), length-take count rest) in
      let enough : least_len front.kind - 4 ≤ length part = omega (arith, len, there) in
      let alone : said_by front.kind state front part ≡ Err fault =
      sym (said-append front.kind state front part (drop count rest) enough)
      ∙ ap (said_by front.kind state front) (sym (parts count)) ∙ says in
      let either = HasRead-either state first before rest count old mid new its.read its.fits within filled in
      ReadsBlock-plain state part either.0 old new fault either.2 either.1
      (block-said_fault state part front fault (longer (take count rest))
      (said-fault state front part fault enough alone))
      (said-plain front.kind state front part fault alone)

  -- the end of the file cuts the block after that
  pub short-cut : {new : DeskView} {E : Type 0} (count : ℕ) (x : Said) → Fills {E = E} before rest mid new (Ok count) →
      least_len front.kind - 4 ≤ front_len + count → count < length before →
      said_by front.kind state front (first ++ rest) ≡ Ok x →
      ReadsBlock state old new (Fault (PngCut (state.count + 1)))
  short-cut {new} count x filled there less says =
      let part : List ℕ = first ++ take count rest in
      let len : length part ≡ front_len + count =
      omega (arith, its.whole, its.fits, less, length-append first (take count rest), length-take count rest) in
      let enough : least_len front.kind - 4 ≤ length part = omega (arith, len, there) in
      let alone : said_by front.kind state front part ≡ Ok x =
      sym (said-append front.kind state front part (drop count rest) enough)
      ∙ ap (said_by front.kind state front) (sym (parts count)) ∙ says in
      ReadsBlock-is state part Ended old new (Fault (PngCut (state.count + 1)))
      (HasRead-short state first before rest count old mid new its.read less filled)
      (block-said_fault state part front _ (longer (take count rest))
      (said-cut state front part x enough alone (omega (arith, len, less, its.total)))) refl (λ e. absurd (cc))

  -- the block has as many bytes as its front says
  all_len : length (first ++ rest) ≡ front.total
  all_len = omega (arith, its.whole, its.fits, its.total, length-append first rest)

  -- the block ends in another number than its length
  pub short-other_end : {new : DeskView} {E : Type 0} (x : Said) →
      Fills {E = E} before rest mid new (Ok (length before)) →
      least_len front.kind - 4 ≤ front.total → said_by front.kind state front (first ++ rest) ≡ Ok x →
      has_other_end front (first ++ rest) ≡ true → ReadsBlock state old new (Fault (PngLength (state.count + 1)))
  short-other_end {new} x filled there says other =
      ReadsBlock-plain state (first ++ rest) GoesOn old new (PngLength (state.count + 1))
      (HasRead-full state first before rest old mid new its.read its.fits filled) (inl refl)
      (block-said_fault state (first ++ rest) front _ (longer rest)
      (said-other_end state front (first ++ rest) x (omega (arith, all_len, there)) says (omega (arith, all_len))
      other)) tt

  -- or in its length
  pub short-whole : {new : DeskView} {E : Type 0} (x : Said) → Fills {E = E} before rest mid new (Ok (length before)) →
      least_len front.kind - 4 ≤ front.total → said_by front.kind state front (first ++ rest) ≡ Ok x →
      has_other_end front (first ++ rest) ≡ false →
      ReadsBlock state old new (block_read (state_said state front x) (first ++ rest) (Ok (read_of x 28)))
  short-whole {new} x filled there says same =
      ReadsBlock-is state (first ++ rest) GoesOn old new _
      (HasRead-full state first before rest old mid new its.read its.fits filled)
      (block-whole state (first ++ rest) front x (longer rest)
      (said-whole state front (first ++ rest) x (omega (arith, all_len, there)) says (omega (arith, all_len)) same)
      ∙ none_after x (drop_all front.total (first ++ rest) (omega (arith, all_len))))
      (stood x) (no_fault x)
    where
      none_after : (x : Said) → drop front.total (first ++ rest) ≡ [] →
          block_said state front x (first ++ rest)
          ≡ block_read (state_said state front x) (first ++ rest) (Ok (read_of x 28))
      none_after said.Section none = ap (Passed (state_said state front said.Section)) none
      none_after (said.Interface link) none = ap (Passed (state_said state front (said.Interface link))) none
      none_after (said.Packet link captured) none =
          ap (Given (record { link = link; bytes = take captured (drop 28 (first ++ rest)) })
          (state_said state front (said.Packet link captured))) none
      none_after said.Other none = ap (Passed (state_said state front said.Other)) none

      stood : (x : Said) →
          BlockStands (block_read (state_said state front x) (first ++ rest) (Ok (read_of x 28))) GoesOn
      stood said.Section = refl
      stood (said.Interface link) = refl
      stood (said.Packet link captured) = refl
      stood said.Other = refl

      no_fault : (x : Said) →
          block_read (state_said state front x) (first ++ rest) (Ok (read_of x 28)) ≢ Fault ReadFault
      no_fault said.Section e = absurd (cc)
      no_fault (said.Interface link) e = absurd (cc)
      no_fault (said.Packet link captured) e = absurd (cc)
      no_fault said.Other e = absurd (cc)
