-- All answers of a reader, from its first call of `next` on.
use Rattle.std.specs.Prelude.{ℕ, List, [], ◌∷◌}
use Rattle.pcap_reader.specs.Answers.{GoesBefore}
use Rattle.pcap_reader.specs.State.{Answer}
use Rattle.pcapng_reader.specs.Capture.{AnyState}
use Rattle.pcapng_reader.specs.Reader.{IsNext}

-- Each answer is that of the bytes which were given in its call, from a state of the reader on.
abbrev pub AreAnswersTo : AnyState → List (List ℕ) → List Answer → Type 0
AreAnswersTo state [] [] = Unit {0}
AreAnswersTo state (given ∷ pieces) (answer ∷ later) =
    (now : AnyState) × IsNext state now given [] answer × GoesBefore answer later × AreAnswersTo now
    pieces later
AreAnswersTo state [] (answer ∷ later) = ⊥
AreAnswersTo state (given ∷ pieces) [] = ⊥

-- Each answer is that of the bytes which were left before its call, from a state of the reader on.
abbrev pub AreAnswersOn : AnyState → List ℕ → List Answer → Type 0
AreAnswersOn state left [] = Unit {0}
AreAnswersOn state left (answer ∷ later) =
    (now : AnyState) × (after : List ℕ) × IsNext state now left after answer
    × GoesBefore answer later × AreAnswersOn now after later
