-- Examples of the lines of the tables, each checked by evaluation.
use Rattle.std.specs.Prelude.{◌≡◌, [], ◌∷◌, ◌++◌, codes, refl}
use Rattle.std.specs.Fmt.{digits}
use Rattle.field_defs.specs.declared.field.Family.TheVariants.{Ip4, Ip6}
use Rattle.acl_report.specs.Line.{line_feed}
use Rattle.acl_report.specs.Tables.{table_text, transitions_text}

one_rule : table_text Ip4 1 1 85 ≡ codes "ip4 rules 1 tries 1 words 85" ++ line_feed ∷ []
unfolding digits
one_rule = refl

no_rules : table_text Ip6 0 0 16 ≡ codes "ip6 rules 0 tries 0 words 16" ++ line_feed ∷ []
unfolding digits
no_rules = refl

largest : table_text Ip4 262144 8 67108864
    ≡ codes "ip4 rules 262144 tries 8 words 67108864" ++ line_feed ∷ []
unfolding digits
largest = refl

none_taken : transitions_text 0 ≡ codes "transitions 0" ++ line_feed ∷ []
unfolding digits
none_taken = refl

some_taken : transitions_text 221 ≡ codes "transitions 221" ++ line_feed ∷ []
unfolding digits
some_taken = refl
