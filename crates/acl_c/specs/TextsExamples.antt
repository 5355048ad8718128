-- The texts of some numbers: the first and the last of kinds that `aclc.h` names, and others.
-- Each is checked by evaluation.
use Rattle.std.specs.Prelude.{◌≡◌, [], ◌∷◌, ◌++◌, codes, refl}
use Rattle.acl_c.specs.Texts.{error_text}

first : error_text 0 ≡ codes "done" ++ 0 ∷ []
first = refl

no_room : error_text 16 ≡ codes "the image has more bytes than there is room for" ++ 0 ∷ []
no_room = refl

offset : error_text 41 ≡ codes "the offset of the field is above 65535" ++ 0 ∷ []
offset = refl

empty_range : error_text 52 ≡ codes "the low end of the range is above the high end" ++ 0 ∷ []
empty_range = refl

kept_groups : error_text 72
    ≡ codes "a trie of the image reads no byte of a key, or one that keys don't have" ++ 0 ∷ []
kept_groups = refl

between : error_text 17 ≡ codes "the number is none of an answer" ++ 0 ∷ []
between = refl

greatest : error_text 4294967295 ≡ codes "the number is none of an answer" ++ 0 ∷ []
greatest = refl
