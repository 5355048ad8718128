-- The sizes of a table: how many rules it is made of at most, how many words it has at most, and
-- how many its rows and nodes take (after DPDK's `lib/acl`, `acl.h` and `acl_gen.c`; our full node
-- has a word for each byte value). And how many keys are walked at once.
use Rattle.std.specs.Prelude.{ℕ, ◌==◌, nat_le, if◌then◌else◌}

-- how many rules a set has at most, and so the table that is made of it
abbrev pub max_rules : ℕ
max_rules = 262144

-- how many words a table has at most, those of its rows counted
abbrev pub max_words : ℕ
max_words = 67108864

-- how many tries a table has at most, one for each group of rules, as DPDK's `lib/acl`, `acl.h`,
-- has (RTE_ACL_MAX_TRIES)
abbrev pub max_tries : ℕ
max_tries = 8

-- how many keys a batch has at most
abbrev pub max_keys : ℕ
max_keys = 65536

-- how many words a row has: one for each category
abbrev pub row_len : ℕ
row_len = 16

-- how many words a single node has
abbrev pub single_len : ℕ
single_len = 1

-- how many runs of bytes a quad-range node has at most, and a word for each of so many
abbrev pub few_runs : ℕ
few_runs = 5

-- how many words a full node has: one for each byte value
abbrev pub full_len : ℕ
full_len = 256

-- how many words the node of a state with so many runs has
abbrev pub cost_of : ℕ → ℕ
cost_of runs =
    if runs == 1 then single_len else (if nat_le runs few_runs then few_runs else full_len)
