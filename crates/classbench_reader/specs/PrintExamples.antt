-- Examples of printed rules, each checked by evaluation.
use Rattle.std.specs.Prelude.{◌≡◌, ◌∷◌, [], ◌++◌, codes, pos, refl}
use Rattle.std.specs.Fmt.{digits}
use Rattle.field_defs.specs.declared.field.Family.TheVariants.{Ip4, Ip6}
use Rattle.field_defs.specs.declared.field.FieldValue.TheVariants.{Mask, Range, Bitmask}
use Rattle.rule_set.specs.declared.rule.RuleTag.{RuleTag}
use Rattle.classbench_reader.specs.Print.{rule_text}

abbrev its_tag : RuleTag
its_tag = record { category_mask = 0xFFFF; priority = pos 5; userdata = 1 }

-- the rule of the DPDK guide
guide : rule_text Ip4 (record {
  tag = its_tag;
  fields = Bitmask 17 255 ∷ Mask 0xC0A80100 24 ∷ Mask 0xC0A8021F 32 ∷ Range 0 65535
      ∷ Range 1234 1234 ∷ [];
})
    ≡ codes "@192.168.1.0/24\t192.168.2.31/32\t0 : 65535\t1234 : 1234\t0x11/0xFF\t"
    ++ codes "pri=5 cat=65535 data=1\n"
unfolding digits
guide = refl

-- an IPv6 rule, whose source has a prefix with bits of both halves
ip6 : rule_text Ip6 (record {
  tag = its_tag;
  fields = Bitmask 6 0xA ∷ Mask 0x20010DB800000000 64 ∷ Mask 1 36 ∷ Mask 0 0 ∷ Mask 0 0 ∷ Range 0 1
      ∷ Range 2 3 ∷ [];
})
    ≡ codes "@2001:db8:0:0:0:0:0:1/100\t0:0:0:0:0:0:0:0/0\t0 : 1\t2 : 3\t0x06/0x0A\t"
    ++ codes "pri=5 cat=65535 data=1\n"
unfolding digits
ip6 = refl
