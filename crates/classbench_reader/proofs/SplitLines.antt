-- A line that is read, split into its parts.
use Rattle.std.proofs.Common.{◌≡◌, ℕ, true, eqb, List, [], ◌∷◌, Ok, refl, subst, inl, inr}
use Rattle.std.specs.List.{take_while}
use Rattle.std.proofs.lemmas.Bool.{cases_Bool, eqb-true}
use Rattle.field_defs.specs.declared.field.FieldValue.{FieldValue}
use Rattle.text_scan.specs.Parts.{is_blank, after_blanks, words_of}
use Rattle.classbench_reader.specs.declared.network.Network.{Network}
use Rattle.classbench_reader.specs.declared.line.RuleLine.{RuleLine}
use Rattle.classbench_reader.specs.declared.attributes.Attributes.{Attributes}
use Rattle.rule_set.specs.declared.rule.RuleTag.{RuleTag}
use Rattle.classbench_reader.specs.Limits.{at_sign}
use Rattle.classbench_reader.specs.LineReading.{Read}
use Rattle.classbench_reader.specs.Network.{network_of, family_of}
use Rattle.classbench_reader.specs.Columns.{ports_of, protocol_of, after_flags}
use Rattle.classbench_reader.specs.Attributes.{attributes_of, tag_of}
use Rattle.classbench_reader.specs.Line.{after_at_sign, next_network, beside_source, next_protocol, same_family}
use Rattle.classbench_reader.specs.Line.{rule_line_of}
use Rattle.classbench_reader.specs.Joined.{IsJoined, ReadLinesAreJoinedParts}
use Rattle.classbench_reader.proofs.PrintedLines.{made, with_attributes, with_words, with_protocol, with_others}
use Rattle.classbench_reader.proofs.PrintedLines.{with_ports, with_destination, with_another, with_source, with_text}
use Rattle.classbench_reader.proofs.SplitParts.{bound, split_again, WordSplit, word_split, no_network}
use Rattle.classbench_reader.proofs.SplitParts.{no_protocol, PortsSplit, ports_split}
use Rattle.list_lemmas.proofs.Texts.{all-run}

-- the `@` after blanks
sign_split : (text after : List ℕ) → after_at_sign text ≡ Ok after → at_sign ∷ after ≡ text
sign_split [] after is = absurd (cc)
sign_split (c ∷ rest) after is = elim (cases_Bool (eqb c at_sign)) [
  | inl same ↦ let found = rw same at is in let rest_is : rest ≡ after = cc in
      rw (eqb-true c at_sign same, rest_is) refl
  | inr other ↦ absurd (let fault = rw other at is in cc)
]

-- the destination is of the source's family
beside_split : (source : Network) (another to : Read Network) → beside_source source another ≡ Ok to →
    (same_family (family_of source) (family_of another.value) ≡ true) × (another ≡ to)
beside_split source another to is = elim (cases_Bool (same_family (family_of source) (family_of another.value))) [
  | inl one ↦ (one, let found = rw one at is in cc)
  | inr two ↦ absurd (let fault = rw two at is in cc)
]

-- and what is read of it goes on
beside_first : (ordinal : ℕ) (source : Network) (another : Read Network) (line : RuleLine) →
    with_another ordinal source another ≡ Ok line →
    (same_family (family_of source) (family_of another.value) ≡ true)
    × (with_destination ordinal source another ≡ Ok line)
beside_first ordinal source another line is =
    let (to, beside, more) = bound (beside_source source another) (with_destination ordinal source) line is in
    let split = beside_split source another to beside in
    (split.0, rw split.1 more)

-- The networks at the beginning of a line, and what is left to be read.
record NetworkReads (ordinal : ℕ) (text : List ℕ) (line : RuleLine) : Type 0 where
  after : List ℕ
  source : Read Network
  to : Read Network
  sign : at_sign ∷ after ≡ after_blanks text
  source_word : WordSplit network_of after source
  to_word : WordSplit network_of source.rest to
  one_family : same_family (family_of source.value) (family_of to.value) ≡ true
  left : with_destination ordinal source.value to ≡ Ok line

-- a line that was read begins with its two networks
network_reads : (ordinal : ℕ) (text : List ℕ) (line : RuleLine) → rule_line_of ordinal text ≡ Ok line →
    NetworkReads ordinal text line
network_reads ordinal text line is =
    let (after, sign, is1) = bound (after_at_sign (after_blanks text)) (with_text ordinal) line is in
    let (source, source_read, is2) = bound (next_network after) (with_source ordinal) line is1 in
    let (another, another_read, is3) = bound (next_network source.rest) (with_another ordinal source.value) line is2 in
    let beside = beside_first ordinal source.value another line is3 in
    record {
      after = after;
      source = source;
      to = another;
      sign = sign_split (after_blanks text) after sign;
      source_word = word_split network_of after source no_network source_read;
      to_word = word_split network_of source.rest another no_network another_read;
      one_family = beside.0;
      left = beside.1;
    }

-- The columns after them, and what is left.
record ColumnReads (ordinal : ℕ) (from to : Network) (text : List ℕ) (line : RuleLine) : Type 0 where
  ports : Read FieldValue
  others : Read FieldValue
  protocol : Read FieldValue
  ports_read : PortsSplit text ports
  others_read : PortsSplit ports.rest others
  protocol_word : WordSplit protocol_of others.rest protocol
  left : with_protocol ordinal from to ports.value others.value protocol ≡ Ok line

-- after the networks come its columns
column_reads : (ordinal : ℕ) (from : Network) (to : Read Network) (line : RuleLine) →
    with_destination ordinal from to ≡ Ok line → ColumnReads ordinal from to.value to.rest line
column_reads ordinal from to line is =
    let (ports, ports_read, is1) = bound (ports_of to.rest) (with_ports ordinal from to.value) line is in
    let (others, others_read, is2) = bound (ports_of ports.rest) (with_others ordinal from to.value ports.value) line
    is1 in
    let (protocol, protocol_read, is3) = bound (next_protocol others.rest)
    (with_protocol ordinal from to.value ports.value others.value) line is2 in
    record {
      ports = ports;
      others = others;
      protocol = protocol;
      ports_read = ports_split to.rest ports ports_read;
      others_read = ports_split ports.rest others others_read;
      protocol_word = word_split protocol_of others.rest protocol no_protocol protocol_read;
      left = is3;
    }

-- The flags and attributes at its end, and the line that all makes.
record TagReads (ordinal : ℕ) (from to : Network) (ports others protocol : FieldValue) (text : List ℕ)
    (line : RuleLine) : Type 0 where
  words : List (List ℕ)
  attributes : Attributes
  its_tag : RuleTag
  flags : after_flags (words_of text) ≡ Ok words
  attributes_read : attributes_of words ≡ Ok attributes
  tag : tag_of ordinal attributes ≡ Ok its_tag
  is : made from to ports others protocol its_tag ≡ Ok line

-- after the columns come its flags and its attributes
tag_reads : (ordinal : ℕ) (from to : Network) (ports others : FieldValue) (protocol : Read FieldValue)
    (line : RuleLine) → with_protocol ordinal from to ports others protocol ≡ Ok line →
    TagReads ordinal from to ports others protocol.value protocol.rest line
tag_reads ordinal from to ports others protocol line is =
    let (words, flags, is1) = bound (after_flags (words_of protocol.rest))
    (with_words ordinal from to ports others protocol.value) line is in
    let (attributes, attributes_read, is2) = bound (attributes_of words)
    (with_attributes ordinal from to ports others protocol.value) line is1 in
    let (its_tag, tag, is3) = bound (tag_of ordinal attributes) (made from to ports others protocol.value) line is2 in
    record {
      words = words;
      attributes = attributes;
      its_tag = its_tag;
      flags = flags;
      attributes_read = attributes_read;
      tag = tag;
      is = is3;
    }

-- a line whose parts were read is these parts, joined
joined_of_reads : (ordinal : ℕ) (text : List ℕ) (line : RuleLine) (networks : NetworkReads ordinal text line)
    (columns : ColumnReads ordinal networks.source.value networks.to.value networks.to.rest line) →
    TagReads ordinal networks.source.value networks.to.value columns.ports.value columns.others.value
    columns.protocol.value columns.protocol.rest line →
    IsJoined ordinal text line
joined_of_reads ordinal text line networks columns last =
    let from = networks.source_word in
    let to = networks.to_word in
    let ports = columns.ports_read in
    let others = columns.others_read in
    let protocol = columns.protocol_word in
    let said : RuleLine = record {
      source = networks.source.value;
      destination = networks.to.value;
      source_ports = columns.ports.value;
      destination_ports = columns.others.value;
      protocol = columns.protocol.value;
      tag = last.its_tag;
    } in
    let line_is : said ≡ line = let is = last.is in cc in
    subst (IsJoined ordinal text) line_is
    record {
      parts = record {
        indent = take_while is_blank text;
        after_sign = from.gap;
        source = from.word;
        first_gap = to.gap;
        destination = to.word;
        second_gap = ports.gap;
        source_ports = ports.ports;
        third_gap = others.gap;
        destination_ports = others.ports;
        fourth_gap = protocol.gap;
        protocol = protocol.word;
        tail = columns.protocol.rest;
      };
      joined =
          rw (protocol.joined, others.joined, ports.joined, to.joined, from.joined, networks.sign)
          (split_again is_blank text);
      says = record {
        indent = all-run is_blank text;
        after_sign = from.blanks;
        source_word = from.no_blank;
        source = from.reads;
        first_gap = to.spaced from.ends;
        destination_word = to.no_blank;
        destination = to.reads;
        one_family = networks.one_family;
        second_gap = ports.spaced to.ends;
        source_ports = ports.spells;
        third_gap = others.spaced ports.ends;
        destination_ports = others.spells;
        fourth_gap = protocol.spaced others.ends;
        protocol_word = protocol.no_blank;
        protocol = protocol.reads;
        tail = protocol.ends;
        words = last.words;
        flags = last.flags;
        attributes = last.attributes;
        attributes_read = last.attributes_read;
        tag = last.tag;
      };
    }

-- what follows the networks, read to the end
joined_after : (ordinal : ℕ) (text : List ℕ) (line : RuleLine) (networks : NetworkReads ordinal text line) →
    ColumnReads ordinal networks.source.value networks.to.value networks.to.rest line → IsJoined ordinal text line
joined_after ordinal text line networks columns =
    joined_of_reads ordinal text line networks columns
    (tag_reads ordinal networks.source.value networks.to.value columns.ports.value columns.others.value
    columns.protocol line columns.left)

-- and so is a line whose networks were read
joined_from : (ordinal : ℕ) (text : List ℕ) (line : RuleLine) → NetworkReads ordinal text line →
    IsJoined ordinal text line
joined_from ordinal text line networks =
    joined_after ordinal text line networks
    (column_reads ordinal networks.source.value networks.to line networks.left)

-- a line that is read, part by part
pub read_lines_are_joined_parts : ReadLinesAreJoinedParts
read_lines_are_joined_parts ordinal text line is =
    joined_from ordinal text line (network_reads ordinal text line is)
