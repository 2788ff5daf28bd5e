-- How many digits a number has: the digits counted and those of the rest are those of the whole, and one more. Assumes nothing.
use Rattle.std.proofs.Common.{◌≡◌, ◌+◌, ◌≤◌, length}
use Rattle.lines.specs.Numbers.{digits}
use Rattle.write_back.proofs.line.digit_count.Given as goal

abbrev pub invariant-loop-rest : goal.invariant-loop-rest
invariant-loop-rest l = record { below : l.rest ≤ l.n; counted : l.count + length (digits l.rest) ≡ length (digits l.n) + 1 }

abbrev pub decreases-loop-rest : goal.decreases-loop-rest
decreases-loop-rest l = l.rest
