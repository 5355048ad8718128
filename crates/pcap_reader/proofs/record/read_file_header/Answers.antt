use Rattle.std.proofs.Common.{◌≡◌, ℕ, ◌-◌, List, ◌++◌, length, take, drop, replicate, refl, Ok, sym, ap, ◌∙◌, arith}
use Rattle.acl_outside.specs.declared.desk.Failed.{Failed}
use Rattle.pcap_reader.specs.Fill.{Fills}
use Rattle.pcap_reader.proofs.StartLaws.{ReadsStart-whole, ReadsStart-cut, ReadsStart-broken, length-rest, header-is}
use Rattle.pcap_reader.proofs.record.read_file_header.Goals as goal

-- the bytes of a header that none were read into
abbrev zeros : List ℕ
zeros = replicate 24 0

-- what the rest of a header was before it was read
abbrev before : ℕ → List ℕ → List ℕ
before n first = take (24 - n) (drop n (first ++ drop n zeros))

pub returns-in-Ok : goal.returns-in-Ok
returns-in-Ok g c =
    let first = c.args.first.now in
    let n = length first in
    let part = c.fill.new.into in
    let copied = c.copy_from_slice.ensures.after in
    let rest = length-rest n c.copy_from_slice.new.self zeros (ap length copied) refl c.requires.few in
    let fits : length part ≡ 24 - n = c.fill.auto.into ∙ rest in
    let filled : Fills {E = Failed} (before n c.copy_from_slice.new.self) part (g.D.Desk.view c.args.desk.now)
    (g.D.Desk.view c.fill.new.desk) (Ok c.in-Ok.len) = c.in-Ok.ensures in
    rw (
      c.read_start.ensures,
      header-is n c.copy_from_slice.new.self zeros part (ap length copied) refl c.requires.few fits
          ∙ ap (λ (l : List ℕ). l ++ part) copied,
    )
    (ReadsStart-whole first (before n c.copy_from_slice.new.self) part c.in-Ok.len (g.D.Desk.view c.args.desk.now)
    (g.D.Desk.view c.fill.new.desk) (omega (arith, c.requires.few, c.if-len-rest.true)) (rest ∙ sym c.if-len-rest.true)
    (fits ∙ sym c.if-len-rest.true) filled)

pub returns-in-Ok-2 : goal.returns-in-Ok-2
returns-in-Ok-2 g c =
    let first = c.args.first.now in
    let n = length first in
    let rest = length-rest n c.copy_from_slice.new.self zeros (ap length c.copy_from_slice.ensures.after) refl
    c.requires.few in
    let filled : Fills {E = Failed} (before n c.copy_from_slice.new.self) c.fill.new.into
    (g.D.Desk.view c.args.desk.now) (g.D.Desk.view c.fill.new.desk) (Ok c.in-Ok.len) = c.in-Ok.ensures in
    ReadsStart-cut first (before n c.copy_from_slice.new.self) c.fill.new.into c.in-Ok.len
    (g.D.Desk.view c.args.desk.now) (g.D.Desk.view c.fill.new.desk) (omega (arith, rest, c.requires.few))
    (omega (arith, rest, filled.within, c.if-len-rest.false)) filled

pub returns-in-Err : goal.returns-in-Err
returns-in-Err g c =
    let first = c.args.first.now in
    let n = length first in
    let rest = length-rest n c.copy_from_slice.new.self zeros (ap length c.copy_from_slice.ensures.after) refl
    c.requires.few in
    ReadsStart-broken _ first (before n c.copy_from_slice.new.self) c.fill.new.into (g.D.Desk.view c.args.desk.now)
    (g.D.Desk.view c.fill.new.desk) (omega (arith, rest, c.requires.few)) c.in-Err.ensures
