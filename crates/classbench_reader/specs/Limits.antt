-- The limits and the marks of rule files, by name.
use Rattle.std.specs.Prelude.{ℕ}
use Rattle.classbench_reader.specs.declared.rule_file.TheConstants.{MAX_RULE_FILE}

-- how many bytes a rule file may have
abbrev pub max_rule_file : ℕ
max_rule_file = MAX_RULE_FILE

-- the greatest port
abbrev pub max_port : ℕ
max_port = 65535

-- the greatest number of a flags word
abbrev pub max_flags : ℕ
max_flags = 65535

-- the greatest protocol number and protocol mask
abbrev pub max_protocol : ℕ
max_protocol = 255

-- the greatest number of `pri`: what a signed number of 32 bits may be
abbrev pub max_written_priority : ℕ
max_written_priority = 2147483647

-- the greatest number of `cat`, a mask of 32 bits
abbrev pub max_category_mask : ℕ
max_category_mask = 4294967295

-- the greatest number of `data`, a userdata of 32 bits
abbrev pub max_userdata : ℕ
max_userdata = 4294967295

-- the mask of all sixteen categories
abbrev pub all_categories : ℕ
all_categories = 0xFFFF

-- `@`, which begins a rule
abbrev pub at_sign : ℕ
at_sign = 64

-- `#`, which begins a comment
abbrev pub number_sign : ℕ
number_sign = 35

-- `=`, which stands after the name of an attribute
abbrev pub equals_sign : ℕ
equals_sign = 61
