-- Examples of the line of a packet, each checked by evaluation.
use Rattle.std.specs.Prelude.{◌≡◌, ℕ, List, [], ◌∷◌, ◌++◌, replicate, true, false, Some, None}
use Rattle.std.specs.Prelude.{codes, refl}
use Rattle.std.specs.Fmt.{digits}
use Rattle.header_extract.specs.declared.class.Class.TheVariants.{Ip4, Ip6, Other, Short}
use Rattle.acl_report.specs.Line.{line_feed}
use Rattle.acl_report.specs.Packet.{packet_text}
use Rattle.acl_report.specs.Verdicts.{answers}

-- a text and the LF after it
abbrev line : List ℕ → List ℕ
line text = text ++ line_feed ∷ []

one_category : packet_text 1 Ip4 (Some 7 ∷ []) ≡ line (codes "1 ip4 7")
unfolding digits
one_category = refl

-- userdata 0 is printed as the digit
userdata_0 : packet_text 2 Ip4 (Some 0 ∷ []) ≡ line (codes "2 ip4 0")
unfolding digits
userdata_0 = refl

four_categories : packet_text 1 Ip4 (Some 2 ∷ Some 3 ∷ Some 0 ∷ Some 0 ∷ [])
    ≡ line (codes "1 ip4 2 3 0 0")
unfolding digits
four_categories = refl

sixteen_categories : packet_text 9 Ip6 (replicate 16 (Some 1))
    ≡ line (codes "9 ip6 1 1 1 1 1 1 1 1 1 1 1 1 1 1 1 1")
unfolding digits
sixteen_categories = refl

a_dash : packet_text 2 Ip4 (Some 5 ∷ None ∷ []) ≡ line (codes "2 ip4 5 -")
unfolding digits
a_dash = refl

longest : packet_text 1000000000 Ip6 (Some 4294967295 ∷ [])
    ≡ line (codes "1000000000 ip6 4294967295")
unfolding digits
longest = refl

-- a frame without a packet has one dash, however many categories there are
another_frame : packet_text 2 Other (Some 1 ∷ Some 1 ∷ []) ≡ line (codes "2 other -")
unfolding digits
another_frame = refl

short_frame : packet_text 1 Short [] ≡ line (codes "1 short -")
unfolding digits
short_frame = refl

dashes : answers (4 ∷ 0 ∷ 6 ∷ []) (false ∷ true ∷ false ∷ []) ≡ Some 4 ∷ None ∷ Some 6 ∷ []
dashes = refl
