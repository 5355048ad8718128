-- What the proofs of other crates may cite.

-- IsWord: a text without blanks
-- EndsWord: what follows a word so that it ends there
-- after_blanks-blank: a blank at the beginning is passed over
-- after_blanks-other: and another byte isn't
-- after_blanks-word: nor is a word
-- first_word-append: a text that begins with a word has it as its first one
-- after_word-append: and what follows the word is left
-- words_of-append: the words of such a text are the word and those of what follows
-- words_of-blank: a blank at the beginning is no part of a word
pub use Rattle.text_scan.proofs.Cuts.{IsWord, EndsWord, after_blanks-blank, after_blanks-other, after_blanks-word}
pub use Rattle.text_scan.proofs.Cuts.{first_word-append, after_word-append, words_of-append, words_of-blank}
-- cut_at-append: a text is cut where its first separator was put
-- ends_no_line: a byte that ends no line
-- lines_of-one: bytes that end no line and LF are one line
pub use Rattle.text_scan.proofs.Cuts.{cut_at-append, ends_no_line, lines_of-one}
-- decimal_spelled: what a number is written as in decimal spells it
-- place_value-lt: digits of a base spell a number below its power of their length
pub use Rattle.text_scan.proofs.Numerals.{decimal_spelled, place_value-lt}
-- EndsNumber: what follows a number in a base so that it ends there
-- Begins: a number stands at the beginning of a text, and ends where the rest begins
-- spelled_begins: digits that spell a number stand so before what ends them
-- whole_number-spelled: and a text of nothing else is that number
-- whole_stands: a text that is a number in either base stands so before what ends it
-- whole_within: and the number is within its bound
pub use Rattle.text_scan.proofs.Numerals.{EndsNumber, Begins, spelled_begins, whole_number-spelled, whole_stands}
pub use Rattle.text_scan.proofs.Numerals.{whole_within}
-- ip4_of-ip4_spelling: a printed IPv4 address is read as the address
-- ip6_of-ip6_spelling: and so is a printed IPv6 address
pub use Rattle.text_scan.proofs.Addresses.{ip4_of-ip4_spelling, ip6_of-ip6_spelling}
-- is_ip4_byte: a byte of a printed IPv4 address
-- is_ip6_byte: and one of an IPv6 address
-- ip4_spelling-bytes: a printed IPv4 address has no other bytes
-- ip6_spelling-bytes: nor has a printed IPv6 address
-- ip6_spelling-colon: which has a colon
pub use Rattle.text_scan.proofs.Addresses.{is_ip4_byte, is_ip6_byte, ip4_spelling-bytes, ip6_spelling-bytes}
pub use Rattle.text_scan.proofs.Addresses.{ip6_spelling-colon}
-- length-ip4_spelling-le: a printed IPv4 address has at most 15 bytes
-- length-ip6_spelling-le: and a printed IPv6 address at most 39
pub use Rattle.text_scan.proofs.Addresses.{length-ip4_spelling-le, length-ip6_spelling-le}
-- numeral_len-within: a number that a text begins with takes no more bytes than there are
pub use Rattle.text_scan.proofs.Numerals.{numeral_len-within}
