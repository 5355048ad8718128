-- What is said of merged rules, and when it is refused.
use Rattle.std.proofs.Common.{◌≡◌, ℕ, ◌+◌, ◌<◌, ◌≤◌, List, length, Bool, true, false, Result, Ok, Err, inl, inr}
use Rattle.std.proofs.Common.{refl, sym, ap, ◌∙◌, arith}
use Rattle.std.specs.Prelude.{nat_lt, ◌&&◌, if◌then◌else◌}
use Rattle.std.proofs.lemmas.Bool.{false≢true, lt-ltb, ltb-true}
use Rattle.field_defs.specs.declared.field.Family.{Family}
use Rattle.field_defs.specs.declared.field.Family.TheVariants.{Ip4, Ip6}
use Rattle.rule_set.specs.Rule.{RuleSetView}
use Rattle.classbench_reader.specs.RuleFile.{RuleLists}
use Rattle.acl_audit.specs.declared.audit.AuditFault.{AuditFault}
use Rattle.acl_audit.specs.declared.audit.AuditFault.TheVariants as faults
use Rattle.audit_report.specs.Audit.{audit_text}
use Rattle.command_ending.specs.declared.status.Status.{Status}
use Rattle.command_ending.specs.declared.status.Status.TheVariants.{TooLarge}
use Rattle.acl_tool.specs.FamilySet.{set_of}
use Rattle.acl_tool.specs.Texts.{◌>>=◌, Refuses}
use Rattle.acl_tool.specs.AuditMerged.{audit_of, audit_refused, merged_within, merged_words}

-- The rules of a family need more words than the budget, and a status says so.
pub record IsAbove (budget : ℕ) (lists : RuleLists) (status : Status) : Type 0 where
  pub family : Family
  pub says : status ≡ TooLarge family (budget + 1) budget
  pub some : 0 < length (set_of family lists).rules
  pub above : budget < merged_words (set_of family lists)

-- both of two tests that pass together
both_pass : (one two : Bool) → (one && two) ≡ true → (one ≡ true) × (two ≡ true)
both_pass true true is = (refl, refl)
both_pass true false is = absurd (false≢true is)
both_pass false two is = absurd (false≢true is)

-- what is within the budget is given as it is
within : (budget : ℕ) (family : Family) (set other : RuleSetView) → merged_within budget family set ≡ Ok other →
    set ≡ other
within budget family set other is = go (nat_lt 0 (length set.rules) && nat_lt budget (merged_words set)) is
  where
    go : (large : Bool) → (if large then Err (TooLarge family (budget + 1) budget) else Ok set) ≡ Ok other → set ≡ other
    go true e = absurd (cc)
    go false e = cc

-- and what isn't is above it
above : (budget : ℕ) (lists : RuleLists) (family : Family) (status : Status) →
    merged_within budget family (set_of family lists) ≡ Err status → IsAbove budget lists status
above budget lists family status is =
    go (nat_lt 0 (length (set_of family lists).rules) && nat_lt budget (merged_words (set_of family lists))) refl is
  where
    go : (large : Bool) →
        (nat_lt 0 (length (set_of family lists).rules) && nat_lt budget (merged_words (set_of family lists))) ≡ large →
        (if large then Err (TooLarge family (budget + 1) budget) else Ok (set_of family lists)) ≡ Err status →
        IsAbove budget lists status
    go true at e =
        let both = both_pass (nat_lt 0 (length (set_of family lists).rules))
        (nat_lt budget (merged_words (set_of family lists))) at in
        record {
          family = family;
          says = cc;
          some = ltb-true 0 (length (set_of family lists).rules) both.0;
          above = ltb-true budget (merged_words (set_of family lists)) both.1;
        }
    go false at e = absurd (cc)

-- rules that need no more words than the budget are given as they are
pub within_is : (budget : ℕ) (family : Family) (set : RuleSetView) →
    (0 < length set.rules → merged_words set ≤ budget) → merged_within budget family set ≡ Ok set
within_is budget family set fits = go (nat_lt 0 (length set.rules)) (nat_lt budget (merged_words set)) refl refl
  where
    go : (some large : Bool) → nat_lt 0 (length set.rules) ≡ some → nat_lt budget (merged_words set) ≡ large →
        (if some && large then Err (TooLarge family (budget + 1) budget) else Ok set) ≡ Ok set
    go true true at_some at_large =
        absurd (omega (
          arith,
          fits (ltb-true 0 (length set.rules) at_some),
          ltb-true budget (merged_words set) at_large,
        ))
    go true false at_some at_large = refl
    go false large at_some at_large = refl

-- and others are refused, with one word more than the budget
above_is : (budget : ℕ) (family : Family) (set : RuleSetView) (words most : ℕ) → 0 < length set.rules →
    budget < merged_words set → words ≡ budget + 1 → most ≡ budget →
    merged_within budget family set ≡ Err (TooLarge family words most)
above_is budget family set words most some above told is =
    rw (lt-ltb 0 (length set.rules) some, lt-ltb budget (merged_words set) above)
    (λ i. Err (TooLarge family (sym told i) (sym is i)))

-- an audit that is refused is refused as is said
pub refused_is : (budget : ℕ) (family : Family) (set : RuleSetView) (fault : AuditFault) →
    ((words most : ℕ) → fault ≡ faults.TooLarge words most → (0 < length set.rules)
    × (budget < merged_words set) × (words ≡ budget + 1) × (most ≡ budget)) →
    Refuses (merged_within budget family set) (audit_refused family fault)
refused_is budget family set (faults.TooLarge words most) large =
    let its = large words most refl in
    inl (above_is budget family set words most its.0 its.1 its.2 its.3, refl)
refused_is budget family set faults.OutOfMemory large = inr refl

module _ (categories budget : ℕ) (lists : RuleLists) where
  -- the lines of both families, each as it was merged
  abbrev lines_by : Result RuleSetView Status → Result RuleSetView Status → Result (List ℕ) Status
  lines_by one two = one >>= λ ip4. two >>= λ ip6. Ok (audit_text categories ip4 ip6)

  -- the text that is said is that of the rules
  pub said_text : (text : List ℕ) → audit_of categories budget lists ≡ Ok text →
      audit_text categories (set_of Ip4 lists) (set_of Ip6 lists) ≡ text
  said_text text is =
      go (merged_within budget Ip4 (set_of Ip4 lists)) (merged_within budget Ip6 (set_of Ip6 lists)) refl refl is
    where
      go : (one two : Result RuleSetView Status) → merged_within budget Ip4 (set_of Ip4 lists) ≡ one →
          merged_within budget Ip6 (set_of Ip6 lists) ≡ two → lines_by one two ≡ Ok text →
          audit_text categories (set_of Ip4 lists) (set_of Ip6 lists) ≡ text
      go (Ok ip4) (Ok ip6) at_ip4 at_ip6 e =
          ap (λ (s : RuleSetView). audit_text categories s (set_of Ip6 lists))
          (within budget Ip4 (set_of Ip4 lists) ip4 at_ip4)
          ∙ ap (λ (s : RuleSetView). audit_text categories ip4 s) (within budget Ip6 (set_of Ip6 lists) ip6 at_ip6)
          ∙ (let same : audit_text categories ip4 ip6 ≡ text = cc in same)
      go (Ok ip4) (Err status) at_ip4 at_ip6 e = absurd (cc)
      go (Err status) two at_ip4 at_ip6 e = absurd (cc)

  -- and where there is none, a family is above the budget
  pub said_above : (status : Status) → audit_of categories budget lists ≡ Err status → IsAbove budget lists status
  said_above status is =
      go (merged_within budget Ip4 (set_of Ip4 lists)) (merged_within budget Ip6 (set_of Ip6 lists)) refl refl is
    where
      go : (one two : Result RuleSetView Status) → merged_within budget Ip4 (set_of Ip4 lists) ≡ one →
          merged_within budget Ip6 (set_of Ip6 lists) ≡ two → lines_by one two ≡ Err status →
          IsAbove budget lists status
      go (Ok ip4) (Ok ip6) at_ip4 at_ip6 e = absurd (cc)
      go (Ok ip4) (Err fault) at_ip4 at_ip6 e =
          let same : fault ≡ status = cc in above budget lists Ip6 status (at_ip6 ∙ ap Err same)
      go (Err fault) two at_ip4 at_ip6 e =
          let same : fault ≡ status = cc in above budget lists Ip4 status (at_ip4 ∙ ap Err same)

  -- where both are within the budget, the text is that of the rules
  pub said_is : merged_within budget Ip4 (set_of Ip4 lists) ≡ Ok (set_of Ip4 lists) →
      merged_within budget Ip6 (set_of Ip6 lists) ≡ Ok (set_of Ip6 lists) →
      audit_of categories budget lists ≡ Ok (audit_text categories (set_of Ip4 lists) (set_of Ip6 lists))
  said_is one two = λ i. lines_by (one i) (two i)

  -- the first family refuses, or the second one after it
  pub first_refuses : (status : Status) → Refuses (merged_within budget Ip4 (set_of Ip4 lists)) status →
      Refuses (audit_of categories budget lists) status
  first_refuses status (inl (is, refusal)) =
      inl (λ i. lines_by (is i) (merged_within budget Ip6 (set_of Ip6 lists)), refusal)
  first_refuses status (inr full) = inr full

  -- an audit is refused if the second family is and the first isn't
  pub second_refuses : (status : Status) → merged_within budget Ip4 (set_of Ip4 lists) ≡ Ok (set_of Ip4 lists) →
      Refuses (merged_within budget Ip6 (set_of Ip6 lists)) status → Refuses (audit_of categories budget lists) status
  second_refuses status one (inl (is, refusal)) = inl (λ i. lines_by (one i) (is i), refusal)
  second_refuses status one (inr full) = inr full
