-- How many bytes a few numbers have: those counted and those from here on are the whole. Assumes nothing.
use Rattle.std.proofs.Common.{◌≡◌, ◌+◌, length, drop}
use Rattle.writers.proofs.PutLaws.{tabbed}
use Rattle.write_back.proofs.line.numbers_length.Given as goal

abbrev pub invariant-loop-x : goal.invariant-loop-x
invariant-loop-x l = l.count + length (tabbed (drop l.x-index l.xs)) ≡ length (tabbed l.xs)
