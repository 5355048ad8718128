-- Laws of the meaning of chains: how deep jumps lead, rules of several boxes, and negations.
use Rattle.std.specs.Prelude.{◌≡◌, ℕ, ◌+◌, ◌-◌, ◌<◌, List, [], ◌∷◌, ◌++◌, map, Bool, true, false, not}
use Rattle.std.specs.Prelude.{Option, None, if◌then◌else◌, nat_lt, ◌&&◌}
use Rattle.std.specs.List.{list_any}
use Rattle.std.proofs.Common.{suc}
use Rattle.list_chains.specs.declared.chain.Target.{Target}
use Rattle.list_chains.specs.declared.span.Span.{Span}
use Rattle.list_chains.specs.Spans.{in_span}
use Rattle.list_chains.specs.Chains.{ListRule, at_or, target_answers, rules_answer, chains_answer}
use Rattle.list_chains.specs.Jumps.{shallow}

-- Where jumps come to an end within so many chains, one more changes no answer.
abbrev pub DepthsAnswerAlike : Type 0 → Type 0
DepthsAnswerAlike B =
    (holds : B → Bool) (chains : List (List (ListRule B))) (depth place : ℕ) →
    at_or (shallow depth chains) place false ≡ true →
    at_or (chains_answer holds (suc depth) chains) place None
    ≡ at_or (chains_answer holds depth chains) place None

-- a rule for each of some boxes
abbrev pub each_box : {B : Type 0} → ℕ → List B → List B → Target → List (ListRule B)
each_box userdata boxes but target =
    map (λ box. record { userdata = userdata; inside = box; but = but; target = target }) boxes

-- Rules for some boxes answer as one rule for the packets that are in any of them.
abbrev pub ManyBoxesAreOneRule : Type 0 → Type 0
ManyBoxesAreOneRule B =
    (holds : B → Bool) (chains : List (Option ℕ)) (userdata : ℕ) (boxes but : List B)
    (target : Target) (rules : List (ListRule B)) →
    rules_answer holds chains (each_box userdata boxes but target ++ rules)
    ≡ (
    if list_any holds boxes && not (list_any holds but)
    then target_answers chains userdata target (rules_answer holds chains rules)
    else rules_answer holds chains rules
    )

-- the numbers below a span, if there are some
abbrev pub below : Span → List Span
below span = if nat_lt 0 span.low then record { low = 0; high = span.low - 1 } ∷ [] else []

-- the numbers above it, up to the greatest, if there are some
abbrev pub above : ℕ → Span → List Span
above greatest span =
    if nat_lt span.high greatest then record { low = span.high + 1; high = greatest } ∷ [] else []

-- the numbers up to the greatest that aren't in a span: at most two spans
abbrev pub others : ℕ → Span → List Span
others greatest span = below span ++ above greatest span

-- They are the other numbers.
abbrev pub OthersAreTheOthers : Type 0
OthersAreTheOthers =
    (greatest : ℕ) (span : Span) (x : ℕ) → x < greatest + 1 →
    list_any (λ other. in_span other x) (others greatest span) ≡ not (in_span span x)
