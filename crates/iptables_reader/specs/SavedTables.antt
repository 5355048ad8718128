-- The tables of a save, and the chains of each that packets come to by themselves (iptables(8),
-- "TABLES"). Tables have such chains at the hooks of netfilter, where packets pass all of them.
use Rattle.std.specs.Prelude.{ℕ, ◌==◌, Bool, true, false, not, ◌||◌, is_some, if◌then◌else◌}
use Rattle.std.specs.Prelude.{codes, List, [], ◌∷◌, Option, Some, None, nat_eq}
use Rattle.std.specs.List.{list_any, starts_with}
use Rattle.std.specs.Str.{bytes_eq}
use Rattle.text_scan.specs.Parts.{lines_of, words_of}
use Rattle.list_packets.specs.Names.{named}
use Rattle.iptables_reader.specs.declared.options.Verdict.TheVariants as verdict
use Rattle.iptables_reader.specs.declared.reading.Act.{Act}
use Rattle.iptables_reader.specs.declared.reading.Act.TheVariants as act
use Rattle.iptables_reader.specs.declared.saved_tables.SavedTable.{SavedTable}
use Rattle.iptables_reader.specs.declared.saved_tables.SavedTable.TheVariants as table
use Rattle.iptables_reader.specs.Tables.{owner_in}

-- ---- tables

-- the table that a word names
abbrev pub table_named : List ℕ → Option SavedTable
table_named word = named word (words_of (codes "filter raw mangle nat security"))
    (table.Filter ∷ table.Raw ∷ table.Mangle ∷ table.Nat ∷ table.Security ∷ [])

-- a bit for each table
abbrev pub table_bit : SavedTable → ℕ
table_bit table.Filter = 1
table_bit table.Raw = 2
table_bit table.Mangle = 4
table_bit table.Nat = 8
table_bit table.Security = 16

-- the chains of a table that packets come to by themselves
abbrev pub base_chains : SavedTable → List ℕ
base_chains table.Filter = codes "INPUT FORWARD OUTPUT"
base_chains table.Raw = codes "PREROUTING OUTPUT"
base_chains table.Mangle = codes "PREROUTING INPUT FORWARD OUTPUT POSTROUTING"
base_chains table.Nat = codes "PREROUTING INPUT OUTPUT POSTROUTING"
base_chains table.Security = codes "INPUT FORWARD OUTPUT"

-- a chain of a table is one of them
abbrev pub is_base : SavedTable → List ℕ → Bool
is_base which name = is_some (owner_in name (base_chains which))

-- ---- the way of packets

-- the chains that packets of a chain of `filter` come to in other tables: those of PREROUTING come
-- before INPUT and FORWARD, and those of POSTROUTING after FORWARD and OUTPUT
abbrev pub way_of : List ℕ → List ℕ
way_of name =
    if bytes_eq name (codes "INPUT") then codes "PREROUTING INPUT"
    else (if bytes_eq name (codes "FORWARD") then codes "PREROUTING FORWARD POSTROUTING"
    else (if bytes_eq name (codes "OUTPUT") then codes "OUTPUT POSTROUTING"
    else codes "PREROUTING INPUT FORWARD OUTPUT POSTROUTING"))

-- Packets of a chain of `filter` may come to a chain of another table: it lies on their way, or
-- only rules lead to it.
abbrev pub is_on_way : SavedTable → List ℕ → List ℕ → Bool
is_on_way which name chain = not (is_base which chain) || is_some (owner_in chain (way_of name))

-- a rule of another table drops the packets that it catches
abbrev pub drops : Option Act → Bool
drops (Some (act.Decide verdict.Drop)) = true
drops (Some (act.Decide verdict.Reject)) = true
drops (Some (act.Decide verdict.Accept)) = false
drops (Some (act.Decide verdict.Return)) = false
drops (Some (act.Jump place)) = false
drops (Some (act.Go place)) = false
drops (Some act.Pass) = false
drops None = false

-- so does a chain whose policy has the word
abbrev pub is_drop : List ℕ → Bool
is_drop word = bytes_eq word (codes "DROP")

-- ---- tables that a save doesn't show

-- a word names legacy iptables, which has tables of its own
abbrev pub is_legacy : List ℕ → Bool
is_legacy word =
    bytes_eq word (codes "iptables-legacy") || bytes_eq word (codes "ip6tables-legacy")

-- one of some words does
abbrev pub has_legacy : List (List ℕ) → Bool
has_legacy words = list_any is_legacy words

-- A comment tells that the save lacks tables, or some of their chains; 35 is `#`. iptables-nft-save
-- prints one that begins with "# Table `" where rules or chains of nft stand in a table, and warns
-- of those of legacy iptables on standard error, which may come in the midst of a line. Each table
-- has chains on the way of all packets, so whichever it is may drop them.
abbrev pub hides_tables : List ℕ → Bool
hides_tables [] = false
hides_tables (c ∷ cs) =
    if c == 35 then starts_with nat_eq cs (codes " Table `") || has_legacy (words_of cs) else false

-- ---- what a list has

-- a line begins another table than `filter`; 42 is `*`
abbrev pub begins_other : List ℕ → Bool
begins_other [] = false
begins_other (c ∷ cs) = if c == 42 then not (bytes_eq cs (codes "filter")) else false

-- a line of a list does
abbrev pub has_other_tables : List ℕ → Bool
has_other_tables bytes = list_any begins_other (lines_of bytes)
