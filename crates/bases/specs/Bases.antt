-- Where a range may start. Assumes nothing.
use Rattle.std.specs.Prelude.{◌≡◌, ℕ, ◌+◌, ◌%◌, ◌^◌, ◌<◌, ◌≤◌}

-- r is the least multiple of a from v on, or stop where that is not below stop
pub record Up (v a stop r : ℕ) : Type 0 where
  pub within : r ≤ stop
  pub reached : r < stop → v ≤ r
  pub aligned : r < stop → r % a ≡ 0
  pub none_before : (x : ℕ) → v ≤ x → x < r → x % a ≡ 0 → ⊥

-- the bases at which `size` numbers fit below hi are those below r (that hi is a 64-bit number is said here, since a number read through a reference comes without it)
pub record Below (hi size r : ℕ) : Type 0 where
  pub each : (b : ℕ) → b < r → b + size ≤ hi
  pub all : (b : ℕ) → b + size ≤ hi → b < r
  pub fits : hi < 2 ^ 64
