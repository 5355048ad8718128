use Rattle.std.proofs.Common.{◌≢◌, ℕ, ◌<◌, ◌≤◌, length, slice_index}
use Rattle.text_scan.specs.Parts.{colon}
use Rattle.text_scan.proofs.pieces.last_part.Given as goal

-- no `:` stands from the place on
abbrev pub invariant-loop-place : goal.invariant-loop-place
invariant-loop-place l = record {
  within : l.place ≤ length l.text;
  last : (k : ℕ) → l.place ≤ k → k < length l.text → slice_index l.text k ≢ colon;
}

abbrev pub decreases-loop-place : goal.decreases-loop-place
decreases-loop-place l = l.place
