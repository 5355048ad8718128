-- What the packet says, and where it stands.
use Rattle.std.proofs.Common.{◌≡◌, ◌+◌, ◌≤◌, refl, sym, subst, ap, ◌∙◌, Some, Ok, arith}
use Rattle.std.specs.Prelude.{slice_get}
use Rattle.pcapng_reader.specs.Block.{captured_in, packet_said}
use Rattle.pcapng_reader.specs.declared.said.Said.TheVariants as said
use Rattle.pcapng_reader.proofs.FrontLaws.{packet-says}
use Rattle.pcapng_reader.proofs.ShortLaws.{same_end}
use Rattle.pcapng_reader.proofs.reader.Reader.whole_packet.Goals as goal

pub returns : goal.returns
returns c =
    let state = c.args.self.now in
    let front = c.args.front.now in
    let block = c.args.block.now in
    let captured = c.u32_in-captured.ensures in
    let fits : captured_in front block + 32 ≤ front.total =
    omega (arith, captured, c.if-captured-block.false, c.requires.there, c.requires.total) in
    record {
      whole = omega (arith, c.requires.there, c.if-count-block.false);
      says = subst (λ n. packet_said state front block ≡ Ok (said.Packet c.in-Some-Some.link n)) (sym captured)
          (packet-says state front block c.in-Some-Some.link
          (ap (λ n. slice_get state.interfaces n) (sym c.u32_in.ensures)
          ∙ ap (λ s. slice_get s.interfaces c.u32_in.result) (sym c.self.view_is) ∙ sym c.get.ensures
          ∙ c.in-Some-Some.is ∙ ap Some c.in-Some-Some.field-0-is) fits
          c.requires.multiple c.requires.fits);
      ends = same_end front block c.u32_in-2.result c.requires.total c.u32_in-2.ensures c.if-u32_in-front.false;
      start = refl;
      within = omega (arith, c.if-captured-block.false, c.requires.there);
    }
