-- Chains with lines that no rule file says change no answer where packets don't come to them.
use Rattle.std.proofs.Common.{◌≡◌, ℕ, zero, suc, List, [], ◌∷◌, map, length, Bool, true, false, Option, Some, None, refl, ap, ◌∙◌, nat_le, if◌then◌else◌}
use Rattle.std.specs.List.{AllZip}
use Rattle.list_chains.specs.declared.chain.Target.{Target}
use Rattle.list_chains.specs.declared.chain.Target.TheVariants.{Decide, Return, Jump, Go}
use Rattle.list_chains.specs.declared.span.Span.{Span}
use Rattle.list_chains.specs.Chains.{ListRule, answer_or, at_or, chains_answer, or_answer, rules_answer, target_answers}
use Rattle.list_chains.specs.Jumps.{led_to}
use Rattle.iptables_reader.specs.declared.fault.LineFault.{LineFault}
use Rattle.iptables_reader.specs.Chains.{ListedChain}
use Rattle.iptables_reader.specs.NoPart.{HasRules, UnsaidLinesHaveNoPart}
use Rattle.iptables_reader.specs.Reached.{chain_unsaid, earlier, earliest, line_led_to, unsaid_within}

-- of two lines the one that is chosen is there
chosen : (first : Bool) (one other : LineFault) → (if first then Some one else Some other) ≡ None →
    (Some one ≡ None) × (Some other ≡ None)
chosen true one other is = absurd cc
chosen false one other is = absurd cc

-- none is there if the earlier isn't
neither : (one other : Option LineFault) → earlier one other ≡ None → (one ≡ None) × (other ≡ None)
neither None other is = (refl, is)
neither (Some one) None is = absurd cc
neither (Some one) (Some other) is = chosen (nat_le one.line other.line) one other is

-- nor is the first if the earliest isn't
none_first : (lines : List (Option LineFault)) (line : Option LineFault) (rules : List (ListRule (List Span))) →
    earliest lines line rules ≡ None → line ≡ None
none_first lines line [] is = is
none_first lines line (rule ∷ rules) is =
    (neither line (line_led_to lines (led_to rule.target))
    (none_first lines (earlier line (line_led_to lines (led_to rule.target))) rules is)).0

module _ (holds : List Span → Bool) where
  -- answers that are alike where no line is
  abbrev AlikeUnless : List (Option LineFault) → List (Option ℕ) → List (Option ℕ) → Type 0
  AlikeUnless lines ones others = (place : ℕ) → at_or lines place None ≡ None →
      at_or ones place None ≡ at_or others place None

  -- a target that leads to a chain without such a line
  target_alike : (lines : List (Option LineFault)) (ones others : List (Option ℕ)) → AlikeUnless lines ones others →
      (userdata : ℕ) (target : Target) (after : Option ℕ) → line_led_to lines (led_to target) ≡ None →
      target_answers ones userdata target after ≡ target_answers others userdata target after
  target_alike lines ones others same userdata Decide after e = refl
  target_alike lines ones others same userdata Return after e = refl
  target_alike lines ones others same userdata (Jump place) after e = ap (λ d. or_answer d after) (same place e)
  target_alike lines ones others same userdata (Go place) after e = same place e

  -- rules that lead to such chains
  rules_alike : (lines : List (Option LineFault)) (ones others : List (Option ℕ)) → AlikeUnless lines ones others →
      (line : Option LineFault) (rules : List (ListRule (List Span))) → earliest lines line rules ≡ None →
      rules_answer holds ones rules ≡ rules_answer holds others rules
  rules_alike lines ones others same line [] is = refl
  rules_alike lines ones others same line (rule ∷ rules) is =
      let led = line_led_to lines (led_to rule.target) in
      let parts = neither line led (none_first lines (earlier line led) rules is) in
      rw (
        rules_alike lines ones others same (earlier line led) rules is,
        target_alike lines ones others same rule.userdata rule.target (rules_answer holds others rules) parts.1,
      ) refl

  -- each chain
  chain_alike : (lines : List (Option LineFault)) (ones others : List (Option ℕ)) → AlikeUnless lines ones others →
      (chains : List ListedChain) (its : List (List (ListRule (List Span)))) → AllZip HasRules chains its →
      (place : ℕ) → at_or (map (chain_unsaid lines) chains) place None ≡ None →
      at_or (map (rules_answer holds ones) (map (λ (chain : ListedChain). chain.rules) chains)) place None
      ≡ at_or (map (rules_answer holds others) its) place None
  chain_alike lines ones others same [] [] all place is = refl
  chain_alike lines ones others same [] (rules ∷ its) all place is = absurd all
  chain_alike lines ones others same (chain ∷ chains) [] all place is = absurd all
  chain_alike lines ones others same (chain ∷ chains) (rules ∷ its) all zero is =
      rules_alike lines ones others same chain.unsaid chain.rules is
      ∙ ap (rules_answer holds others) (all.0 (none_first lines chain.unsaid chain.rules is))
  chain_alike lines ones others same (chain ∷ chains) (rules ∷ its) all (suc place) is =
      chain_alike lines ones others same chains its all.1 place is

  -- each depth
  depth_alike : (chains : List ListedChain) (its : List (List (ListRule (List Span)))) → AllZip HasRules chains its →
      (depth : ℕ) →
      AlikeUnless (unsaid_within depth chains)
      (chains_answer holds depth (map (λ (chain : ListedChain). chain.rules) chains)) (chains_answer holds depth its)
  depth_alike chains its all zero place is = refl
  depth_alike chains its all (suc depth) place is =
      chain_alike (unsaid_within depth chains)
      (chains_answer holds depth (map (λ (chain : ListedChain). chain.rules) chains)) (chains_answer holds depth its)
      (depth_alike chains its all depth) chains its all place is

-- as many chains as there are
pub unsaid_lines_have_no_part : UnsaidLinesHaveNoPart
unsaid_lines_have_no_part holds chains others place policy all is =
    ap (λ answer. answer_or answer policy) (depth_alike holds chains others all (length chains) place is)
