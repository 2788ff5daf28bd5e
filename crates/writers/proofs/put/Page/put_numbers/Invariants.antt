-- Numbers put into a buffer: those before this one are put. Assumes nothing.
use Rattle.std.proofs.Common.{take}
use Rattle.writers.specs.Put.{Puts}
use Rattle.writers.proofs.PutLaws.{tabbed}
use Rattle.writers.proofs.put.Page.put_numbers.Given as goal

abbrev pub invariant-loop-x : goal.invariant-loop-x
invariant-loop-x l = Puts l.fn.self (tabbed (take l.x-index l.xs)) l.self
