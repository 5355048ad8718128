-- Examples of counts and of their line, each checked by evaluation.
use Rattle.std.specs.Prelude.{◌≡◌, [], ◌∷◌, ◌++◌, codes, refl}
use Rattle.std.specs.Fmt.{digits}
use Rattle.header_extract.specs.declared.class.Class.TheVariants.{Ip4, Ip6, Other, Short}
use Rattle.acl_report.specs.Line.{line_feed}
use Rattle.acl_report.specs.Counts.{counts_of, packets_text}

no_records : packets_text (counts_of [])
    ≡ codes "packets 0 ip4 0 ip6 0 other 0 short 0" ++ line_feed ∷ []
unfolding digits
no_records = refl

a_frame_and_two_others : packets_text (counts_of (Short ∷ Other ∷ Other ∷ []))
    ≡ codes "packets 3 ip4 0 ip6 0 other 2 short 1" ++ line_feed ∷ []
unfolding digits
a_frame_and_two_others = refl

all_classes : packets_text (counts_of (Ip4 ∷ Ip6 ∷ Ip4 ∷ Short ∷ Ip4 ∷ Other ∷ Ip6 ∷ []))
    ≡ codes "packets 7 ip4 3 ip6 2 other 1 short 1" ++ line_feed ∷ []
unfolding digits
all_classes = refl
