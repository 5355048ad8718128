-- Examples of the numbers in text, each checked by evaluation.
use Rattle.std.specs.Prelude.{◌≡◌, ◌-◌, ◌^◌, codes, Some, None, refl}
use Rattle.text_scan.specs.Numeral.{numeral_at, numeral_value, whole_number}

zero_alone : numeral_at (codes "0") 0 65535 ≡ Some (0, 1)
zero_alone = refl

-- leading zeros change nothing, and make no number octal
leading_zeros : numeral_at (codes "007") 0 65535 ≡ Some (7, 3)
leading_zeros = refl

no_octal : numeral_at (codes "010 ") 0 65535 ≡ Some (10, 3)
no_octal = refl

-- `0x` with no digit after it is a zero and a text that begins with `x`
mark_alone : numeral_at (codes "0x") 0 65535 ≡ Some (0, 1)
mark_alone = refl

mark_and_no_digit : numeral_at (codes "0xg") 0 65535 ≡ Some (0, 1)
mark_and_no_digit = refl

upper_case : numeral_at (codes "0x1F") 0 65535 ≡ Some (31, 4)
upper_case = refl

lower_case : numeral_at (codes "0X1f/") 0 65535 ≡ Some (31, 4)
lower_case = refl

each_letter : numeral_at (codes "0xABCDEFabcdef") 0 (2 ^ 64 - 1) ≡ Some (0xABCDEFABCDEF, 14)
each_letter = refl

zeros_after_the_mark : numeral_at (codes "0x0010") 0 65535 ≡ Some (16, 6)
zeros_after_the_mark = refl

-- without the mark a letter ends the number, and none begins with one
letter_after_decimal : numeral_at (codes "12ab") 0 65535 ≡ Some (12, 2)
letter_after_decimal = refl

letter_first : numeral_at (codes "ab") 0 65535 ≡ None
letter_first = refl

no_text : numeral_at (codes "") 0 65535 ≡ None
no_text = refl

a_sign : numeral_at (codes "-1") 0 65535 ≡ None
a_sign = refl

-- at a place within the text, and at its end
port_range : numeral_at (codes "1024 : 65535") 7 65535 ≡ Some (65535, 12)
port_range = refl

blank_at_the_place : numeral_at (codes "1024 : 65535") 4 65535 ≡ None
blank_at_the_place = refl

at_the_end : numeral_at (codes "7") 1 65535 ≡ None
at_the_end = refl

-- a number of 30 digits has its value, and is above any greatest value of 64 bits
thirty_digits : numeral_value
    (codes "123456789012345678901234567890") ≡ 123456789012345678901234567890
thirty_digits = refl

thirty_digits_at_most : numeral_at (codes "123456789012345678901234567890") 0 (2 ^ 64 - 1) ≡ None
thirty_digits_at_most = refl

thirty_zeros : numeral_at (codes "000000000000000000000000000000") 0 0 ≡ Some (0, 30)
thirty_zeros = refl

-- the greatest value itself, and one more
the_greatest : numeral_at (codes "65535") 0 65535 ≡ Some (65535, 5)
the_greatest = refl

one_more : numeral_at (codes "65536") 0 65535 ≡ None
one_more = refl

the_greatest_of_64_bits : numeral_at (codes "18446744073709551615") 0 (2 ^ 64 - 1) ≡ Some
    (2 ^ 64 - 1, 20)
the_greatest_of_64_bits = refl

one_more_than_64_bits : numeral_at (codes "18446744073709551616") 0 (2 ^ 64 - 1) ≡ None
one_more_than_64_bits = refl

-- a whole text is a number, or isn't
a_whole_number : whole_number 255 (codes "0xff") ≡ Some 255
a_whole_number = refl

above_the_greatest : whole_number 254 (codes "0xff") ≡ None
above_the_greatest = refl

something_after : whole_number 255 (codes "32 ") ≡ None
something_after = refl

no_digit_after_the_mark : whole_number 255 (codes "0x") ≡ None
no_digit_after_the_mark = refl

an_empty_text : whole_number 255 (codes "") ≡ None
an_empty_text = refl
