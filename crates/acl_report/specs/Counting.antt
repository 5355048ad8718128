-- Counts that grow record by record.
use Rattle.std.specs.Prelude.{◌≡◌, ◌+◌, ◌^◌, ◌<◌}
use Rattle.header_extract.specs.declared.class.Class.{Class}
use Rattle.header_extract.specs.declared.class.Class.TheVariants.{Ip4, Ip6, Other, Short}
use Rattle.acl_report.specs.declared.counts.Counts.{Counts}

-- the counts leave room for one more record
pub record CountsFit (counts : Counts) : Type 0 where
  pub room : counts.packets + 1 < 2 ^ 64
  pub classes : counts.ip4 + counts.ip6 + counts.other + counts.short ≡ counts.packets

-- the counts with one more record of the class
abbrev pub counted : Class → Counts → Counts
counted Ip4 counts = record counts { packets = counts.packets + 1; ip4 = counts.ip4 + 1 }
counted Ip6 counts = record counts { packets = counts.packets + 1; ip6 = counts.ip6 + 1 }
counted Other counts = record counts { packets = counts.packets + 1; other = counts.other + 1 }
counted Short counts = record counts { packets = counts.packets + 1; short = counts.short + 1 }
