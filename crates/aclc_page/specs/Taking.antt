-- The next record is taken as a row.
use Rattle.std.specs.Prelude.{◌≡◌, ℕ, List, length, Bool, true, false, Some, None, Ok, Err}
use Rattle.acl_outside.specs.Desk.{DeskView}
use Rattle.pcap_reader.specs.State.{Answer}
use Rattle.pcapng_reader.specs.Capture.{AnyState}
use Rattle.pcapng_reader.specs.Reader.{ReadsNext}
use Rattle.aclc_page.specs.Rows.{row_len, row_of}

-- an answer is a record
abbrev pub is_record : Answer → Bool
is_record (Ok None) = false
is_record (Ok (Some captured)) = true
is_record (Err fault) = false

-- a row after an answer: that of the record, and else as it was
abbrev pub row_after : Answer → List ℕ → List ℕ
row_after (Ok None) row = row
row_after (Ok (Some captured)) row = row_of captured
row_after (Err fault) row = row

-- The next record was asked for, its row was written, and it was said whether there is one.
pub record TakesRow (before after : AnyState) (old new : DeskView) (row_old row_new : List ℕ)
    (result : Bool) : Type 0 where
  pub answer : Answer
  pub takes : ReadsNext before after old new answer
  pub row : row_new ≡ row_after answer row_old
  pub size : length row_new ≡ row_len
  pub said : result ≡ is_record answer
