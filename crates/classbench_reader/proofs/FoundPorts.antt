-- The port that a text begins with, by the number that is found after its blanks.
use Rattle.std.proofs.Common.{◌≡◌, ℕ, ◌≤◌, cond, nat_le, List, length, drop, Some, None, Result, Ok, Err}
use Rattle.std.proofs.Common.{sym, ap, ◌∙◌, ◌+◌, arith}
use Rattle.std.proofs.lemmas.Bool.{and_parts, cond-true, cond-false, leb-true}
use Rattle.list_lemmas.proofs.Tests.{test_passed, test_failed}
use Rattle.text_scan.specs.Parts.{after_blanks}
use Rattle.text_scan.specs.Numeral.{begins_numeral, digits_of, numeral_at, numeral_len, numeral_value}
use Rattle.text_scan.proofs.Offered.{numeral_len-within}
use Rattle.classbench_reader.specs.declared.rules_fault.LineKind.{LineKind}
use Rattle.classbench_reader.specs.declared.rules_fault.LineKind.TheVariants.{BadPorts}
use Rattle.classbench_reader.specs.Limits.{max_port}
use Rattle.classbench_reader.specs.LineReading.{Read, read_of}
use Rattle.classbench_reader.specs.Columns.{port_of}

-- the port that a text begins with, which has no blanks in front
abbrev port_at : List ℕ → Result (Read ℕ) LineKind
port_at rest =
    cond (begins_numeral max_port rest)
    (Ok (read_of (numeral_value rest) (drop (numeral_len rest) rest))) (Err BadPorts)

-- A number that is a port stands after the blanks of a text, and ends within it.
pub record FindsPort (text rest : List ℕ) (port end : ℕ) : Type 0 where
  pub is : port_of text ≡ Ok (read_of port (drop end rest))
  pub small : port ≤ max_port
  pub within : end ≤ length rest

-- a number that is found after the blanks of a text is a port there
pub FindsPort-from : (text rest : List ℕ) (port end : ℕ) → rest ≡ after_blanks text
    → Some (port, end) ≡ numeral_at rest 0 max_port → FindsPort text rest port end
FindsPort-from text rest port end left found =
    let passed = test_passed (begins_numeral max_port rest) (numeral_value rest, 0 + numeral_len rest) (port, end)
    found in
    let value : port ≡ numeral_value rest = ap (λ (p : ℕ × ℕ). p.0) passed.1 in
    let len : end ≡ numeral_len rest = omega (arith, ap (λ (p : ℕ × ℕ). p.1) passed.1) in
    let small = (and_parts (nat_le 1 (length (digits_of rest))) _ passed.0).1 in
    record {
      is = ap port_at (sym left) ∙ cond-true _ _ _ passed.0
          ∙ (λ i. Ok (read_of (sym value i) (drop (sym len i) rest)));
      small = omega (arith, value, leb-true (numeral_value rest) max_port small);
      within = omega (arith, len, numeral_len-within rest);
    }

-- and where none is found, no port stands there
pub port_of-none : (text rest : List ℕ) → rest ≡ after_blanks text → None ≡ numeral_at rest 0 max_port
    → port_of text ≡ Err BadPorts
port_of-none text rest left none =
    ap port_at (sym left)
    ∙ cond-false _ _ _ (test_failed (begins_numeral max_port rest) (numeral_value rest, 0 + numeral_len rest) none)
