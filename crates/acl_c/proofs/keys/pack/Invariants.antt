-- the bytes of the first keys are written, and are bytes
use Rattle.std.proofs.Common.{ℕ, ◌*◌, ◌<◌, take, All}
use Rattle.acl_c.specs.Keys.{packed}
use Rattle.list_lemmas.proofs.Positions.{WrittenTo}
use Rattle.acl_c.proofs.keys.pack.Given as goal

abbrev pub invariant-loop-place : goal.invariant-loop-place
invariant-loop-place l = record {
  written : WrittenTo l.fn.into (l.place * l.key_len) (packed (take l.place l.keys)) l.into;
  bytes : All (λ (byte : ℕ). byte < 256) (packed (take l.place l.keys));
}
