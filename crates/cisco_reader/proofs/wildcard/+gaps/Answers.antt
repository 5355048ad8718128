-- The bits that are left have as many gaps as their first one and the others.
use Rattle.std.proofs.Common.{◌+◌, sym, ap, ◌∙◌, arith}
use Rattle.cisco_reader.specs.Wildcard.{gaps}
use Rattle.cisco_reader.proofs.Masks.{gaps_none, gaps_whole, gaps_one, gaps_both}
use Rattle.cisco_reader.proofs.wildcard.+gaps.Goals as goal

pub returns-then-bits-eq0-clause-is : goal.returns-then-bits-eq0-clause-is
returns-then-bits-eq0-clause-is t c =
    sym (ap (λ bits. gaps bits c.args.free) c.if-bits-eq0.true ∙ gaps_none c.args.free)

pub returns-then-is_free-clause-is : goal.returns-then-is_free-clause-is
returns-then-is_free-clause-is t c =
    sym (gaps_whole c.args.bits c.args.free (sym c.is_free.ensures ∙ c.if-is_free.true))

pub returns-then-counts-clause-is : goal.returns-then-counts-clause-is
returns-then-counts-clause-is t c =
    c.gaps-rest.ensures.is
    ∙ sym (gaps_one c.args.bits c.args.free (omega (arith, c.if-bits-eq0.false))
    (sym c.is_free.ensures ∙ c.if-is_free.false) (sym c.counts.ensures ∙ c.if-counts.true))

pub returns-clause-is : goal.returns-clause-is
returns-clause-is t c =
    ap (λ n. n + 1) c.gaps-rest.ensures.is
    ∙ sym (gaps_both c.args.bits c.args.free (omega (arith, c.if-bits-eq0.false))
    (sym c.is_free.ensures ∙ c.if-is_free.false) (sym c.counts.ensures ∙ c.if-counts.false))
