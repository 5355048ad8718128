-- The line of the counts: how many records a capture has, and how many of each class.
use Rattle.std.specs.Prelude.{ℕ, List, [], ◌∷◌, length, count_by, Bool, true, false, codes, decimal}
use Rattle.header_extract.specs.declared.class.Class.{Class}
use Rattle.header_extract.specs.declared.class.Class.TheVariants.{Ip4, Ip6, Other, Short}
use Rattle.acl_report.specs.declared.counts.Counts.{Counts}
use Rattle.acl_report.specs.Line.{line_of}

-- two classes are one
abbrev pub same_class : Class → Class → Bool
same_class Ip4 Ip4 = true
same_class Ip6 Ip6 = true
same_class Other Other = true
same_class Short Short = true
same_class first second = false

-- the counts of records of these classes
abbrev pub counts_of : List Class → Counts
counts_of classes = record {
  packets = length classes;
  ip4 = count_by (same_class Ip4) classes;
  ip6 = count_by (same_class Ip6) classes;
  other = count_by (same_class Other) classes;
  short = count_by (same_class Short) classes;
}

-- the line of the counts: all records, and after each class how many are of it
abbrev pub packets_text : Counts → List ℕ
packets_text counts =
    line_of (codes "packets") (decimal counts.packets
    ∷ codes "ip4" ∷ decimal counts.ip4 ∷ codes "ip6" ∷ decimal counts.ip6
    ∷ codes "other" ∷ decimal counts.other ∷ codes "short" ∷ decimal counts.short ∷ [])
