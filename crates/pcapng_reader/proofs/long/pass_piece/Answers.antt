-- The piece is as long as is asked.
use Rattle.std.proofs.Common.{◌≡◌, ℕ, ◌≤◌, List, length, take, replicate, refl, ap, ◌∙◌, arith, length-take}
use Rattle.pcapng_reader.proofs.ReadLaws.{ReadsMore-weaker}
use Rattle.pcapng_reader.proofs.long.pass_piece.Goals as goal

-- the bytes of a piece
abbrev zeros : List ℕ
zeros = replicate 1024 0

-- as many of them as there may be
part_of : (bytes : List ℕ) (len : ℕ) → length bytes ≡ 1024 → len ≤ 1024 → length (take len bytes) ≡ len
part_of bytes len room few = omega (arith, room, few, length-take len bytes)

pub returns-clause-more : goal.returns-clause-more
returns-clause-more g c state part before h =
    let len = c.args.len in
    let all = part_of zeros len refl c.requires.few in
    ReadsMore-weaker state part c.args.number before (g.D.Desk.view c.fill_part.new.desk)
    (λ (done : Unit {0}) (more : List ℕ). more ≡ c.fill_part.new.into)
    (λ (done : Unit {0}) (more : List ℕ). length more ≡ len) c.fill_part.result len
    (λ x more is. ap length is ∙ c.fill_part.auto.into ∙ all) (rw all at (c.fill_part.ensures.more state part before h))
