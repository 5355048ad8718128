-- Examples of the texts of IPv6 addresses, each checked by evaluation.
use Rattle.std.specs.Prelude.{◌≡◌, codes, Some, None, refl}
use Rattle.std.specs.Fmt.{digits}
use Rattle.text_scan.specs.Ip6.{ip6_of}
use Rattle.text_scan.specs.Ip6Text.{ip6_spelling}

eight_groups : ip6_of (codes "1:2:3:4:5:6:7:8") ≡ Some 0x0001_0002_0003_0004_0005_0006_0007_0008
eight_groups = refl

leading_zeros : ip6_of
    (codes "0001:02:003:4:5:6:7:0000") ≡ Some 0x0001_0002_0003_0004_0005_0006_0007_0000
leading_zeros = refl

upper_case : ip6_of
    (codes "ABCD:EF01:2345:6789:ABCD:EF01:2345:6789")
    ≡ Some 0xABCD_EF01_2345_6789_ABCD_EF01_2345_6789
upper_case = refl

lower_case : ip6_of
    (codes "abcd:ef01:2345:6789:abcd:ef01:2345:6789")
    ≡ Some 0xABCD_EF01_2345_6789_ABCD_EF01_2345_6789
lower_case = refl

seven_groups : ip6_of (codes "1:2:3:4:5:6:7") ≡ None
seven_groups = refl

nine_groups : ip6_of (codes "1:2:3:4:5:6:7:8:9") ≡ None
nine_groups = refl

five_digits : ip6_of (codes "12345::") ≡ None
five_digits = refl

no_hexadecimal : ip6_of (codes "g::") ≡ None
no_hexadecimal = refl

no_text : ip6_of (codes "") ≡ None
no_text = refl

colon_alone : ip6_of (codes ":") ≡ None
colon_alone = refl

colon_before : ip6_of (codes ":1:2:3:4:5:6:7:8") ≡ None
colon_before = refl

colon_after : ip6_of (codes "1:2:3:4:5:6:7:8:") ≡ None
colon_after = refl

colon_before_seven : ip6_of (codes ":2:3:4:5:6:7:8") ≡ None
colon_before_seven = refl

zone : ip6_of (codes "fe80::1%eth0") ≡ None
zone = refl

prefix : ip6_of (codes "::/0") ≡ None
prefix = refl

brackets : ip6_of (codes "[::1]") ≡ None
brackets = refl

-- `::` for one or more groups of zeros
all_zeros : ip6_of (codes "::") ≡ Some 0
all_zeros = refl

loopback : ip6_of (codes "::1") ≡ Some 1
loopback = refl

zeros_after : ip6_of (codes "1::") ≡ Some 0x0001_0000_0000_0000_0000_0000_0000_0000
zeros_after = refl

zeros_between : ip6_of
    (codes "2001:DB8::8:800:200C:417A") ≡ Some 0x2001_0DB8_0000_0000_0008_0800_200C_417A
zeros_between = refl

one_zero_after : ip6_of (codes "1:2:3:4:5:6:7::") ≡ Some 0x0001_0002_0003_0004_0005_0006_0007_0000
one_zero_after = refl

one_zero_before : ip6_of (codes "::2:3:4:5:6:7:8") ≡ Some 0x0002_0003_0004_0005_0006_0007_0008
one_zero_before = refl

one_zero_between : ip6_of (codes "1:2:3::5:6:7:8") ≡ Some 0x0001_0002_0003_0000_0005_0006_0007_0008
one_zero_between = refl

-- for no group, twice, or with a third colon
for_no_group : ip6_of (codes "1:2:3:4:5:6:7:8::") ≡ None
for_no_group = refl

for_no_group_between : ip6_of (codes "1:2:3:4::5:6:7:8") ≡ None
for_no_group_between = refl

twice : ip6_of (codes "1::2::3") ≡ None
twice = refl

twice_alone : ip6_of (codes "::::") ≡ None
twice_alone = refl

twice_at_the_ends : ip6_of (codes "::1::") ≡ None
twice_at_the_ends = refl

three_colons : ip6_of (codes ":::") ≡ None
three_colons = refl

three_colons_between : ip6_of (codes "1:::2") ≡ None
three_colons_between = refl

three_colons_after : ip6_of (codes "1:::") ≡ None
three_colons_after = refl

colon_after_the_gap : ip6_of (codes "::1:") ≡ None
colon_after_the_gap = refl

colon_before_the_gap : ip6_of (codes ":1::") ≡ None
colon_before_the_gap = refl

-- the last two groups as an IPv4 address
ip4_after_six : ip6_of
    (codes "1:2:3:4:5:6:1.2.3.4") ≡ Some 0x0001_0002_0003_0004_0005_0006_0102_0304
ip4_after_six = refl

ip4_alone : ip6_of (codes "::1.2.3.4") ≡ Some 0x0102_0304
ip4_alone = refl

ip4_mapped : ip6_of (codes "::FFFF:129.144.52.38") ≡ Some 0xFFFF_8190_3426
ip4_mapped = refl

ip4_after_the_gap : ip6_of (codes "1::1.2.3.4") ≡ Some 0x0001_0000_0000_0000_0000_0000_0102_0304
ip4_after_the_gap = refl

ip4_after_five : ip6_of
    (codes "1:2:3:4:5::1.2.3.4") ≡ Some 0x0001_0002_0003_0004_0005_0000_0102_0304
ip4_after_five = refl

-- anywhere else, or with another number of groups
ip4_before_the_gap : ip6_of (codes "1.2.3.4::") ≡ None
ip4_before_the_gap = refl

ip4_before_groups : ip6_of (codes "::1.2.3.4:5") ≡ None
ip4_before_groups = refl

ip4_first : ip6_of (codes "1.2.3.4:5:6:7:8:9:a") ≡ None
ip4_first = refl

ip4_twice : ip6_of (codes "::1.2.3.4:1.2.3.4") ≡ None
ip4_twice = refl

ip4_without_gap : ip6_of (codes "1.2.3.4") ≡ None
ip4_without_gap = refl

ip4_after_seven : ip6_of (codes "1:2:3:4:5:6:7:1.2.3.4") ≡ None
ip4_after_seven = refl

ip4_after_five_without_gap : ip6_of (codes "1:2:3:4:5:1.2.3.4") ≡ None
ip4_after_five_without_gap = refl

ip4_and_gap_for_no_group : ip6_of (codes "1:2:3:4:5:6::1.2.3.4") ≡ None
ip4_and_gap_for_no_group = refl

ip4_of_three_groups : ip6_of (codes "::1.2.3") ≡ None
ip4_of_three_groups = refl

ip4_above_255 : ip6_of (codes "::1.2.3.256") ≡ None
ip4_above_255 = refl

-- what is printed has lower-case digits, no leading zeros and no `::`
printed : ip6_spelling 0x2001_0DB8_0000_0000_0008_0800_200C_417A
    ≡ codes "2001:db8:0:0:8:800:200c:417a"
unfolding digits
printed = refl

printed_zeros : ip6_spelling 0 ≡ codes "0:0:0:0:0:0:0:0"
unfolding digits
printed_zeros = refl

printed_ones : ip6_spelling 0xFFFF_FFFF_FFFF_FFFF_FFFF_FFFF_FFFF_FFFF
    ≡ codes "ffff:ffff:ffff:ffff:ffff:ffff:ffff:ffff"
unfolding digits
printed_ones = refl
