-- The bits that are left.
use Rattle.cisco_reader.proofs.wildcard.+put_spans.Given as goal

-- they get fewer
abbrev pub decreases-put_spans : goal.decreases-put_spans
decreases-put_spans l = l.bits
