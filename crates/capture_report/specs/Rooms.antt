-- How much room the code has for a batch.
use Rattle.std.specs.Prelude.{◌≡◌, ℕ, List, length, vec_len}
use Rattle.std.specs.declared.vec.Vec.{Vec}
use Rattle.std.specs.declared.alloc.Global.{Global}
use Rattle.capture_report.specs.declared.verdicts.TheConstants.{BATCH_KEYS, BATCH_VERDICTS}
use Rattle.capture_report.specs.declared.room.Answers.{Answers}
use Rattle.capture_report.specs.declared.room.TheConstants.{BATCH_LINES}
use Rattle.capture_report.specs.Taken.{max_batch}

-- There is room for the verdicts on the packets of a family, and for a mark beside each.
pub record HasAnswers (answers : Answers) : Type 0 where
  pub verdicts_fit : vec_len answers.verdicts ≡ BATCH_VERDICTS
  pub dashes_fit : vec_len answers.dashes ≡ BATCH_VERDICTS

-- There is room for the keys, their rows, the answers and the lines of the packets of a batch.
pub record HasRoom (keys : Vec ℕ Global) (rows : List (List ℕ)) (ip4 ip6 : Answers)
    (lines : Vec ℕ Global) : Type 0 where
  pub keys_fit : vec_len keys ≡ BATCH_KEYS
  pub rows_fit : length rows ≡ max_batch
  pub ip4_fits : HasAnswers ip4
  pub ip6_fits : HasAnswers ip6
  pub lines_fit : vec_len lines ≡ BATCH_LINES
