-- The key of a packet is of bytes, and as long as its class says.
use Rattle.std.proofs.Common.{◌≡◌, ℕ, ◌<◌, List, ◌++◌, length, drop, take, ap, sym, ◌∙◌}
use Rattle.std.proofs.lemmas.List.Elements.{All-take}
use Rattle.std.proofs.Math.Seq.{take-append_seam}
use Rattle.header_extract.specs.declared.class.Class.{Class}
use Rattle.header_extract.specs.Link.{frame_class}
use Rattle.header_extract.specs.Class.{settled}
use Rattle.header_extract.specs.Extracted.{key_len}
use Rattle.capture_report.proofs.packet.Packet.read.Goals as goal

-- the key stands in front of what was extracted
extracted_len : (old new : List ℕ) (answer : Class) (key : List ℕ) → new ≡ key ++ drop (length key) old →
    length key ≡ key_len answer → length (take (key_len answer) new) ≡ key_len answer
extracted_len old new answer key is len =
    ap length
    (ap (take (key_len answer)) is ∙ ap (λ (n : ℕ). take n (key ++ drop (length key) old)) (sym len)
    ∙ take-append_seam key (drop (length key) old))
    ∙ len

pub returns-clause-key : goal.returns-clause-key
returns-clause-key c = record {
  bytes = All-take (λ byte. byte < 256) (key_len c.extract-self-inside.result) c.extract-self-inside.new.key.bytes
      c.are_bytes.ensures;
  len = extracted_len _ c.extract-self-inside.new.key.bytes c.extract-self-inside.result
      (settled (frame_class c.args.link c.args.frame.now)).key c.extract-self-inside.ensures.key
      c.extract-self-inside.ensures.len;
}
