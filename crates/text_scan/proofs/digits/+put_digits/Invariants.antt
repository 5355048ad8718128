use Rattle.text_scan.proofs.digits.+put_digits.Given as goal

-- each call has one digit less to write before its own
abbrev pub decreases-put_digits : goal.decreases-put_digits
decreases-put_digits l = l.value
