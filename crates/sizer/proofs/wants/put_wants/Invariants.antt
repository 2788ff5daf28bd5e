-- The first i lines are put. Assumes nothing.
use Rattle.writers.specs.Put.{Puts}
use Rattle.sizer.specs.Code.{ask_lines}
use Rattle.sizer.proofs.wants.put_wants.Given as goal

abbrev pub invariant-loop-i : goal.invariant-loop-i
invariant-loop-i l = Puts l.fn.page (ask_lines l.i l.list) l.page
