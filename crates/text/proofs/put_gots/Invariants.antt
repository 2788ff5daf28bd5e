-- The `got` lines of several records: those before this one are put. Assumes nothing.
use Rattle.lines.specs.Output.{got_lines}
use Rattle.writers.specs.Put.{Puts}
use Rattle.text.proofs.put_gots.Given as goal

abbrev pub invariant-loop-i : goal.invariant-loop-i
invariant-loop-i l = Puts l.fn.page (got_lines l.i l.results) l.page
