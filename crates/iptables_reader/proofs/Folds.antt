-- Readings that go on after a fault.
use Rattle.std.proofs.Common.{◌≡◌, ℕ, zero, suc, ◌+◌, ◌-◌, ◌≤◌, ◌<◌, List, [], ◌∷◌, drop, length, Result, Ok, Err, refl, ap, sym, ◌∙◌, arith}
use Rattle.std.proofs.Common.{length-drop}
use Rattle.std.proofs.Math.Numerals.{add-one}
use Rattle.std.proofs.lemmas.List.{drop_all}
use Rattle.iptables_reader.specs.declared.fault.LineKind.{LineKind}
use Rattle.iptables_reader.specs.declared.fault.Stop.{Stop}
use Rattle.iptables_reader.specs.declared.fault.Stop.TheVariants as stopped
use Rattle.list_chains.specs.declared.span.Span.{Span}
use Rattle.iptables_reader.specs.Quotes.{after_word, after_words}
use Rattle.iptables_reader.specs.Stops.{◌>>=◌, Refuses}
use Rattle.iptables_reader.specs.Values.{with_parts}

-- parts after one that is no port change nothing
pub with_parts-fault : (kind : LineKind) (parts : List (List ℕ)) → with_parts (Err kind) parts ≡ Err kind
with_parts-fault kind [] = refl
with_parts-fault kind (part ∷ parts) = with_parts-fault kind parts

-- where a first part is refused, the whole is
pub refused_first : {A B : Type 0} (said : Result A LineKind) (next : A → Result B LineKind) (stop : Stop) →
    Refuses said stop → Refuses (said >>= next) stop
refused_first (Ok value) next (stopped.Faulty kind) is = absurd cc
refused_first (Err kind) next (stopped.Faulty other) is = let same : kind ≡ other = cc in ap Err same
refused_first said next stopped.OutOfMemory is = tt

-- where a part of a list is refused, the list is
pub refused_parts : (said : Result (List Span) LineKind) (parts : List (List ℕ)) (stop : Stop) → Refuses said stop →
    Refuses (with_parts said parts) stop
refused_parts said parts (stopped.Faulty kind) is =
    ap (λ found. with_parts found parts) is ∙ with_parts-fault kind parts
refused_parts said parts stopped.OutOfMemory is = tt

-- after a word, one word less is left of so many
pub one_less : (count counter : ℕ) (words : List (List ℕ)) → counter < count →
    after_words (count - counter) words ≡ (after_word words >>= after_words (count - (counter + 1)))
one_less count counter words below =
    let more : count - counter ≡ suc (count - (counter + 1)) = omega (arith, below) in
    ap (λ n. after_words n words) more

-- one element more is left out
drop_suc : {A : Type 0} (k : ℕ) (xs : List A) → drop (suc k) xs ≡ drop 1 (drop k xs)
drop_suc zero xs = refl
drop_suc (suc k) [] = refl
drop_suc (suc k) (x ∷ xs) = drop_suc k xs

-- what is left after the next element
pub drop_next : {A : Type 0} (k : ℕ) (xs : List A) {x : A} {rest : List A} → drop k xs ≡ x ∷ rest →
    drop (k + 1) xs ≡ rest
drop_next k xs is = ap (λ n. drop n xs) (add-one k) ∙ drop_suc k xs ∙ ap (drop 1) is

-- where nothing is left, nothing is left later
pub drop_end : {A : Type 0} (k n : ℕ) (xs : List A) → drop k xs ≡ [] → k ≤ n → drop n xs ≡ []
drop_end k n xs none before =
    let short : length xs ≤ k = omega (arith, sym (length-drop k xs) ∙ ap length none) in
    drop_all n xs (omega (arith, short, before))
