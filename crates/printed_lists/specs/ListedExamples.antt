-- Examples of lists, each checked by evaluation.
use Rattle.std.specs.Prelude.{◌≡◌, ◌∷◌, [], ◌++◌, codes, pos, refl, Ok}
use Rattle.std.specs.Fmt.{digits}
use Rattle.field_defs.specs.declared.field.Family.TheVariants.{Ip4}
use Rattle.field_defs.specs.declared.field.FieldValue.TheVariants.{Mask, Range, Bitmask}
use Rattle.rule_set.specs.Rule.{RuleView}
use Rattle.classbench_reader.specs.RuleFile.{rule_file_of}
use Rattle.printed_lists.specs.Listed.{Comment, Rule, comment_text, list_text, lists_of, numbered}

-- UDP to port 53 of one host
abbrev names : RuleView
names = record {
  tag = record { category_mask = 0xFFFF; priority = pos 5; userdata = 3 };
  fields = Bitmask 17 255 ∷ Mask 0 0 ∷ Mask 0xC0A80001 32 ∷ Range 0 65535 ∷ Range 53 53 ∷ [];
}

-- the rule after the line that it was made of
list : list_text Ip4 (Comment (codes "-p udp -d 192.168.0.1 --dport 53") ∷ Rule names ∷ [])
    ≡ codes "# -p udp -d 192.168.0.1 --dport 53\n"
    ++ codes "@0.0.0.0/0\t192.168.0.1/32\t0 : 65535\t53 : 53\t0x11/0xFF\t"
    ++ codes "pri=5 cat=65535 data=3\n"
unfolding digits
list = refl

-- it is read as the rule alone
read : rule_file_of
    (list_text Ip4 (Comment (codes "-p udp -d 192.168.0.1 --dport 53") ∷ Rule names ∷ []))
    ≡ Ok (lists_of Ip4 (names ∷ []))
unfolding digits
read = refl

-- the end of a line in a comment ends no line
ends : comment_text (codes "one\r\n@two\t") ≡ codes "# one??@two\t\n"
ends = refl

-- a comment without text
empty : comment_text [] ≡ codes "# \n"
empty = refl

-- a number after it
with_number : comment_text (numbered (codes "handle ") 18) ≡ codes "# handle 18\n"
unfolding digits
with_number = refl
