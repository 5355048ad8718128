-- What a sink gained that was given nothing.
use Rattle.std.proofs.Common.{ℕ, List, [], Option, Some, None, refl, sym, append-nil}
use Rattle.acl_outside.specs.Told.{Changes}
use Rattle.acl_outside.specs.Sink.{SinkView, Appends, Gains, GainsPrefix}

-- what is written stays so when nothing is added
none_written : (written : Option (List ℕ)) → Changes (Appends []) written written
none_written None = tt
none_written (Some bytes) = sym (append-nil bytes)

-- a sink that was left alone
pub Gains-none : (view : SinkView) → Gains [] view view
Gains-none view = record { taken = sym (append-nil view.taken); written = none_written view.written }

-- a sink that was given nothing gained a prefix of any text
pub GainsPrefix-none : (text : List ℕ) (view : SinkView) → GainsPrefix text view view
GainsPrefix-none text view = record { prefix = []; rest = text; parts = refl; gains = Gains-none view }
