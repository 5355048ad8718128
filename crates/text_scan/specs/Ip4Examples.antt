-- Examples of the texts of IPv4 addresses, each checked by evaluation.
use Rattle.std.specs.Prelude.{◌≡◌, codes, Some, None, refl}
use Rattle.std.specs.Fmt.{digits}
use Rattle.text_scan.specs.Ip4.{ip4_of}
use Rattle.text_scan.specs.Ip4Text.{ip4_spelling}

all_zeros : ip4_of (codes "0.0.0.0") ≡ Some 0
all_zeros = refl

all_ones : ip4_of (codes "255.255.255.255") ≡ Some 0xFFFF_FFFF
all_ones = refl

in_order : ip4_of (codes "1.2.3.4") ≡ Some 0x0102_0304
in_order = refl

three_digits : ip4_of (codes "001.010.000.099") ≡ Some 0x010A_0063
three_digits = refl

above_255 : ip4_of (codes "256.0.0.0") ≡ None
above_255 = refl

last_above_255 : ip4_of (codes "1.2.3.256") ≡ None
last_above_255 = refl

three_groups : ip4_of (codes "1.2.3") ≡ None
three_groups = refl

five_groups : ip4_of (codes "1.2.3.4.5") ≡ None
five_groups = refl

dot_after : ip4_of (codes "1.2.3.4.") ≡ None
dot_after = refl

dot_before : ip4_of (codes ".1.2.3.4") ≡ None
dot_before = refl

empty_group : ip4_of (codes "1..3.4") ≡ None
empty_group = refl

four_digits : ip4_of (codes "0001.2.3.4") ≡ None
four_digits = refl

no_text : ip4_of (codes "") ≡ None
no_text = refl

hexadecimal : ip4_of (codes "0x1.2.3.4") ≡ None
hexadecimal = refl

blank : ip4_of (codes " 1.2.3.4") ≡ None
blank = refl

prefix : ip4_of (codes "1.2.3.4/8") ≡ None
prefix = refl

sign : ip4_of (codes "+1.2.3.4") ≡ None
sign = refl

-- what is printed has no leading zeros
printed : ip4_spelling 0xC0A8_0105 ≡ codes "192.168.1.5"
unfolding digits
printed = refl

printed_zeros : ip4_spelling 0 ≡ codes "0.0.0.0"
unfolding digits
printed_zeros = refl

printed_ones : ip4_spelling 0xFFFF_FFFF ≡ codes "255.255.255.255"
unfolding digits
printed_ones = refl
