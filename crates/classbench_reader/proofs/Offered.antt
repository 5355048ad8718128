-- What the proofs of other crates may cite.

-- FitsTag: the categories and the userdata of a tag are numbers of 32 bits
-- rule_line_of-text: the text of a lawful line with such a tag is read as the line, whatever the ordinal
pub use Rattle.classbench_reader.proofs.PrintedLines.{FitsTag, rule_line_of-text}
-- text_of_line: no byte of that text ends a line, and it has at most 296 bytes
pub use Rattle.classbench_reader.proofs.PrintedFiles.{text_of_line}
-- says_rule: the line of a rule that a line can say is lawful, of the rule's family, and says the rule
pub use Rattle.classbench_reader.proofs.PrintedRules.{says_rule}
