-- What is left to pin equals the whole. Assumes nothing.
use Rattle.std.proofs.Common.{◌≡◌, ◌-◌}
use Rattle.flat.specs.Pin.{pin_from}
use Rattle.flat.proofs.pin.pin.Given as goal

abbrev pub invariant-loop-i : goal.invariant-loop-i
invariant-loop-i l = pin_from l.results l.i (l.n - l.i) l.requests ≡ pin_from l.results 0 l.n l.initial.requests
