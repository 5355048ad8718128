-- A law of the counts, over their definitions alone.
use Rattle.std.specs.Prelude.{◌≡◌, List, [], ◌∷◌, ◌++◌}
use Rattle.header_extract.specs.declared.class.Class.{Class}
use Rattle.acl_report.specs.Counting.{counted}
use Rattle.acl_report.specs.Counts.{counts_of}

-- The counts of a list of records with one more at its end are those of the list with that one
-- counted.
abbrev pub CountsGrowByOne : Type 0
CountsGrowByOne =
    (classes : List Class) (class : Class) →
    counts_of (classes ++ class ∷ []) ≡ counted class (counts_of classes)
