-- The type stands in front, and the rest of the front was read after it.
use Rattle.std.proofs.Common.{◌≡◌, ℕ, ◌+◌, ◌-◌, List, ◌++◌, length, take, drop, Ok, sym, subst, ap, ◌∙◌}
use Rattle.std.proofs.Common.{arith, length-append, length-drop, length-take}
use Rattle.std.proofs.lemmas.List.{take_at}
use borrow.Rule.Slice.PartMut.{put_mid}
use Rattle.acl_outside.specs.declared.desk.Failed.{Failed}
use Rattle.pcapng_reader.specs.BlockReading.{HasBroken, ReadsPart}
use Rattle.pcapng_reader.proofs.ReadLaws.{ReadsPart-ok, ReadsPart-failed}
use Rattle.pcapng_reader.proofs.ShortLaws.{block-filled}
use Rattle.pcapng_reader.proofs.blocks.read_front_after_type.Goals as goal

-- what stands in the front
front : (copied zeros rest : List ℕ) → length copied ≡ 4 → length zeros ≡ 12 →
    length rest ≡ length (take (length (copied ++ drop 4 zeros) - 4) (drop 4 (copied ++ drop 4 zeros))) →
    put_mid 4 (length (copied ++ drop 4 zeros) - 4) (copied ++ drop 4 zeros) rest ≡ copied ++ rest
front copied zeros rest four room fits =
    let bytes : List ℕ = copied ++ drop 4 zeros in
    let len : length bytes ≡ 12 = omega (arith, four, room, length-append copied (drop 4 zeros), length-drop 4 zeros) in
    block-filled 4 bytes rest (omega (arith, len))
    (omega (arith, fits, len, length-take (length bytes - 4) (drop 4 bytes), length-drop 4 bytes))
    ∙ ap (λ (l : List ℕ). l ++ rest) (take_at copied (drop 4 zeros) 4 four)

pub returns-in-Ok : goal.returns-in-Ok
returns-in-Ok g c =
    let copied = c.copy_from_slice.new.self in
    let four : length copied ≡ 4 = ap length c.copy_from_slice.ensures.after in
    subst (λ bytes. ReadsPart {E = Failed} c.args.reader.now bytes (g.D.Desk.view c.args.desk.now)
    (g.D.Desk.view c.fill.new.desk) (Ok (4 + c.in-Ok.len)))
    (sym (front copied c.args.into.now c.fill.new.into four c.requires.room c.fill.auto.into))
    (subst (λ n. ReadsPart {E = Failed} c.args.reader.now (copied ++ c.fill.new.into) (g.D.Desk.view c.args.desk.now)
    (g.D.Desk.view c.fill.new.desk) (Ok (n + c.in-Ok.len))) four
    (ReadsPart-ok {E = Failed} c.args.reader.now copied _ c.fill.new.into c.in-Ok.len (g.D.Desk.view c.args.desk.now)
    (g.D.Desk.view c.fill.new.desk) (c.requires.first ∙ sym c.copy_from_slice.ensures.after) c.fill.auto.into
    c.in-Ok.ensures))

pub returns-in-Err : goal.returns-in-Err
returns-in-Err g c =
    let copied = c.copy_from_slice.new.self in
    let four : length copied ≡ 4 = ap length c.copy_from_slice.ensures.after in
    subst (λ (bytes : List ℕ). HasBroken c.args.reader.now c.args.reader.now.first (length bytes)
    (g.D.Desk.view c.args.desk.now) (g.D.Desk.view c.fill.new.desk))
    (sym (front copied c.args.into.now c.fill.new.into four c.requires.room c.fill.auto.into))
    (ReadsPart-failed c.args.reader.now copied _ c.fill.new.into c.in-Err.field-0 (g.D.Desk.view c.args.desk.now)
    (g.D.Desk.view c.fill.new.desk) (c.requires.first ∙ sym c.copy_from_slice.ensures.after) c.fill.auto.into
    c.in-Err.ensures)
