-- Laws of what a sink gains piece by piece.
use Rattle.std.proofs.Common.{ℕ, ◌+◌, List, [], ◌++◌, take, drop, sym, ◌∙◌, ap, append_assoc, append-nil}
use Rattle.std.proofs.Math.Seq.{take-add}
use Rattle.std.proofs.lemmas.List.{take-append-drop}
use Rattle.acl_outside.specs.Sink.{SinkView, Appends, Gains, GainsPrefix}
use Rattle.acl_outside.proofs.ToldLaws.{Changes-join}

-- bytes at the end, and then more bytes
pub Appends-then : (first second old mid new : List ℕ) → Appends first old mid → Appends second mid new →
    Appends (first ++ second) old new
Appends-then first second old mid new a b = b ∙ ap (λ xs. xs ++ second) a ∙ append_assoc old first second

-- a text, and then another
pub Gains-then : (first second : List ℕ) (old mid new : SinkView) → Gains first old mid → Gains second mid new →
    Gains (first ++ second) old new
Gains-then first second old mid new a b = record {
  taken = Appends-then first second old.taken mid.taken new.taken a.taken b.taken;
  written = Changes-join (Appends first) (Appends second) (Appends (first ++ second)) (Appends-then first second)
      old.written mid.written new.written a.written b.written;
}

-- a prefix of a text is one of a longer text
pub GainsPrefix-more : (text more : List ℕ) (old new : SinkView) → GainsPrefix text old new →
    GainsPrefix (text ++ more) old new
GainsPrefix-more text more old new h = record {
  prefix = h.prefix;
  rest = h.rest ++ more;
  parts = ap (λ xs. xs ++ more) h.parts ∙ append_assoc h.prefix h.rest more;
  gains = h.gains;
}

-- the first n bytes of a piece, and then m bytes more
pub Gains-more : (n m : ℕ) (piece : List ℕ) (old mid new : SinkView) →
    Gains (take n piece) old mid → Gains (take m (drop n piece)) mid new → Gains (take (n + m) piece) old new
Gains-more n m piece old mid new first second =
    rw (take-add n m piece) (Gains-then (take n piece) (take m (drop n piece)) old mid new first second)

-- the first n bytes of a piece, and then nothing more
pub GainsPrefix-failed : (n : ℕ) (piece : List ℕ) (old mid new : SinkView) →
    Gains (take n piece) old mid → Gains [] mid new → GainsPrefix piece old new
GainsPrefix-failed n piece old mid new first nothing = record {
  prefix = take n piece;
  rest = drop n piece;
  parts = sym (take-append-drop n piece);
  gains = rw (append-nil (take n piece)) at (Gains-then (take n piece) [] old mid new first nothing);
}
