-- What each answer says, in words, as a string of C: a zero stands after the text.
use Rattle.std.specs.Prelude.{ℕ, ◌==◌, List, [], ◌∷◌, ◌++◌, codes}
use Rattle.std.specs.Prelude.{if◌then◌else◌}

-- the text beside the first of these numbers that is the code, or else the other one
abbrev pub text_among : List (ℕ × List ℕ) → List ℕ → ℕ → List ℕ
text_among [] other code = other
text_among ((number, text) ∷ rest) other code =
    if code == number then text ++ 0 ∷ [] else text_among rest other code

-- answers of any call, as `aclc.h` numbers them
abbrev pub calls : List (ℕ × List ℕ)
calls =
    (0, codes "done")
    ∷ (1, codes "there is no memory for it")
    ∷ (2, codes "a handle that the call is on is empty")
    ∷ (3, codes "a handle that the call fills isn't empty")
    ∷ (4, codes "the lengths of two arguments don't fit together")
    ∷ (5, codes "a context may not be made for so many rules")
    ∷ (6, codes "the budget is more words than a table may have")
    ∷ (7, codes "the number of categories isn't 1, 4, 8, 12 or 16")
    ∷ (8, codes "the number is none of a walk")
    ∷ (9, codes "there are more keys than a call may have")
    ∷ (10, codes "there is room by lanes for fewer keys")
    ∷ (11, codes "the context has no table")
    ∷ (12, codes "with these rules the context would hold more than it may")
    ∷ (13, codes "the table needs more words than the budget")
    ∷ (14, codes "a pointer is null")
    ∷ (15, codes "no image has the tables")
    ∷ (16, codes "the image has more bytes than there is room for")
    ∷ []

-- the text of an answer of any call, or that of a number that is none
abbrev pub call_text : ℕ → List ℕ
call_text code = text_among calls (codes "the number is none of an answer" ++ 0 ∷ []) code

-- faults of field definitions
abbrev pub fields : List (ℕ × List ℕ)
fields =
    (32, codes "there are more field definitions than a layout may have")
    ∷ (33, codes "the number is none of a kind of field")
    ∷ (34, codes "there is no field definition")
    ∷ (35, codes "the field index isn't the place of the definition")
    ∷ (36, codes "the size of the field isn't 1, 2, 4 or 8")
    ∷ (37, codes "the first field isn't one byte long")
    ∷ (38, codes "the input index can't follow the one before")
    ∷ (39, codes "the fields of the group are neither 4 bytes nor one of 8")
    ∷ (40, codes "the field doesn't lie after the one before in its group")
    ∷ (41, codes "the offset of the field is above 65535")
    ∷ []

-- the text of a fault of field definitions, or else one of those
abbrev pub fields_text : ℕ → List ℕ
fields_text code = text_among fields (call_text code) code

-- faults of a rule
abbrev pub rules : List (ℕ × List ℕ)
rules =
    (48, codes "none of the low 16 bits of the category mask is set")
    ∷ (49, codes "the priority is out of range")
    ∷ (50, codes "a number of the value is wider than the field")
    ∷ (51, codes "the mask has more bits than the field")
    ∷ (52, codes "the low end of the range is above the high end")
    ∷ []

-- the text of a fault of a rule, or else one of those
abbrev pub rule_text : ℕ → List ℕ
rule_text code = text_among rules (fields_text code) code

-- faults of an image
abbrev pub images : List (ℕ × List ℕ)
images =
    (64, codes "the image doesn't begin with ACLT")
    ∷ (65, codes "the version of the image is neither 1 nor 2")
    ∷ (66, codes "a table of the image is of another family")
    ∷ (67, codes "the image ends within a field, or before it")
    ∷ (68, codes "the image has more rules, tries or words than a table may have")
    ∷ (69, codes "a root or a word of the image leads to no node and no row")
    ∷ (70, codes "the word of a row of the image names no rule")
    ∷ (71, codes "a byte stands after the last field of the image")
    ∷ (72, codes "a trie of the image reads no byte of a key, or one that keys don't have")
    ∷ []

-- the text of a fault of an image, or else one of those
abbrev pub image_text : ℕ → List ℕ
image_text code = text_among images (rule_text code) code

-- the text of any number
abbrev pub error_text : ℕ → List ℕ
error_text code = image_text code
