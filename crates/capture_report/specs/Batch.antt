-- What the code makes of the packets of a batch: their keys, verdicts and dashes, by family.
use Rattle.std.specs.Prelude.{◌≡◌, ℕ, ◌+◌, ◌*◌, ◌≤◌, List, [], ◌∷◌, ◌++◌, length, map, replicate, take}
use Rattle.std.specs.Prelude.{All, Bool, true, false, not, if◌then◌else◌}
use Rattle.field_defs.specs.declared.field.Family.{Family}
use Rattle.field_defs.specs.declared.field.Family.TheVariants as family
use Rattle.flat_table.specs.Table.{TableView}
use Rattle.flat_table.specs.Walk.{key_transitions}
use Rattle.flat_table.specs.Batch.{key_verdicts}
use Rattle.scalar_walk.specs.Rows.{key_winners}
use Rattle.header_extract.specs.declared.class.Class.{Class}
use Rattle.header_extract.specs.declared.class.Class.TheVariants.{Ip4, Ip6, Other, Short}
use Rattle.header_extract.specs.Class.{FrameClass}
use Rattle.pcapng_reader.specs.Capture.{max_records}
use Rattle.acl_report.specs.declared.counts.Counts.{Counts}
use Rattle.acl_report.specs.declared.packet.TheConstants.{MAX_VERDICTS}
use Rattle.acl_report.specs.Counts.{same_class}
use Rattle.capture_report.specs.Packet.{IsPacket}
use Rattle.capture_report.specs.Classifier.{Tables}
use Rattle.capture_report.specs.ReportForm.{ReportForm}
use Rattle.table_sizes.specs.Groups.{ip4_key_len, ip6_key_len}
use Rattle.table_sizes.specs.Sizes.{max_tries}

-- the table of a family
abbrev pub table_of : Family → Tables → TableView
table_of family.Ip4 tables = tables.ip4
table_of family.Ip6 tables = tables.ip6

-- The keys of the tables are those of their families, the tables have at most eight tries, and so
-- many categories are lawful.
pub record IsFormByTables (tables : Tables) (categories : ℕ) : Type 0 where
  pub ip4_keys : tables.ip4.key_len ≡ ip4_key_len
  pub ip6_keys : tables.ip6.key_len ≡ ip6_key_len
  pub ip4_tries : length tables.ip4.roots ≤ max_tries
  pub ip6_tries : length tables.ip6.roots ≤ max_tries
  pub few : categories ≤ MAX_VERDICTS

-- a frame that holds a packet of the family
abbrev pub is_of : Family → Class → Bool
is_of family.Ip4 class = same_class Ip4 class
is_of family.Ip6 class = same_class Ip6 class

-- the keys of the packets of a family, one after the other
abbrev pub keys_of : Family → List FrameClass → List ℕ
keys_of family [] = []
keys_of family (packet ∷ packets) =
    if is_of family packet.class then packet.key ++ keys_of family packets
    else keys_of family packets

-- the verdicts of the table on them, so many of each
abbrev pub verdicts_of : Family → TableView → ℕ → List FrameClass → List ℕ
verdicts_of family table count [] = []
verdicts_of family table count (packet ∷ packets) =
    if is_of family packet.class
    then key_verdicts table count packet.key ++ verdicts_of family table count packets
    else verdicts_of family table count packets

-- The packets come after those that were counted, and there may be so many.
pub record AreNext (counts : Counts) (packets : List FrameClass) : Type 0 where
  pub classes : counts.ip4 + counts.ip6 + counts.other + counts.short ≡ counts.packets
  pub few : counts.packets + length packets ≤ max_records
  pub own : All IsPacket packets

-- These are the verdicts on the IPv4 packets, and those on the IPv6 packets.
pub record AreAnswered (form : ReportForm) (packets : List FrameClass) (ip4 ip6 : List ℕ)
    : Type 0 where
  pub on_ip4 : ip4 ≡ verdicts_of family.Ip4 form.tables.ip4 form.categories packets
  pub on_ip6 : ip6 ≡ verdicts_of family.Ip6 form.tables.ip6 form.categories packets

-- how many packets there are of the family
abbrev pub number_of : Family → List FrameClass → ℕ
number_of family [] = 0
number_of family (packet ∷ packets) =
    if is_of family packet.class then number_of family packets + 1
    else number_of family packets

-- how many transitions the walks of their keys take
abbrev pub transitions_of_family : Family → TableView → List FrameClass → ℕ
transitions_of_family family table [] = 0
transitions_of_family family table (packet ∷ packets) =
    if is_of family packet.class
    then key_transitions table packet.key + transitions_of_family family table packets
    else transitions_of_family family table packets

-- how many transitions a packet takes at most: one for each trie and byte of the key
abbrev pub max_transitions : ℕ
max_transitions = max_tries * ip6_key_len

-- the verdicts of the tables on the key of a class
abbrev pub verdicts_on : Class → ReportForm → List ℕ → List ℕ
verdicts_on Ip4 form key = key_verdicts form.tables.ip4 form.categories key
verdicts_on Ip6 form key = key_verdicts form.tables.ip6 form.categories key
verdicts_on Other form key = []
verdicts_on Short form key = []

-- for each category whether a dash is shown of the key: where marks are asked for and no rule wins
abbrev pub dashes_of : ReportForm → TableView → List ℕ → List Bool
dashes_of form table key =
    if form.marks then map not (key_winners table form.categories key)
    else replicate form.categories false

-- the same of the key of a class
abbrev pub dashes_on : Class → ReportForm → List ℕ → List Bool
dashes_on Ip4 form key = dashes_of form form.tables.ip4 key
dashes_on Ip6 form key = dashes_of form form.tables.ip6 key
dashes_on Other form key = []
dashes_on Short form key = []

-- the same of the packets of a family, one after the other
abbrev pub dashes_of_family : Family → TableView → ReportForm → List FrameClass → List Bool
dashes_of_family family table form [] = []
dashes_of_family family table form (packet ∷ packets) =
    if is_of family packet.class
    then dashes_of form table packet.key ++ dashes_of_family family table form packets
    else dashes_of_family family table form packets

-- In front of what is left of the answers for a family stand those for this packet of it.
pub record AreInFront (form : ReportForm) (packet : FrameClass) (verdicts : List ℕ)
    (dashes : List Bool) : Type 0 where
  pub few : form.categories ≤ length verdicts
  pub verdicts_are :
      take form.categories verdicts ≡ verdicts_on packet.class form packet.key
  pub marks_fit : form.marks ≡ true → form.categories ≤ length dashes
  pub marks_are : form.marks ≡ true →
      take form.categories dashes ≡ dashes_on packet.class form packet.key
  pub unmarked : form.marks ≡ false →
      dashes_on packet.class form packet.key ≡ replicate form.categories false

-- These are the dashes of the IPv4 packets, and those of the IPv6 packets.
pub record AreMarked (form : ReportForm) (packets : List FrameClass) (ip4 ip6 : List Bool)
    : Type 0 where
  pub on_ip4 : ip4 ≡ dashes_of_family family.Ip4 form.tables.ip4 form packets
  pub on_ip6 : ip6 ≡ dashes_of_family family.Ip6 form.tables.ip6 form packets

-- There is a mark for each verdict on the packets of a family, and where marks are asked for they
-- are the dashes.
pub record HasMarks (family : Family) (form : ReportForm) (packets : List FrameClass)
    (marks : List Bool) : Type 0 where
  pub len : length marks ≡ number_of family packets * form.categories
  pub are : form.marks ≡ true →
      marks ≡ dashes_of_family family (table_of family form.tables) form packets
