-- The pinned text put on a page: the bytes done are put. Assumes nothing.
use Rattle.std.proofs.Common.{ℕ, List, length}
use Rattle.writers.specs.Put.{Puts}
use Rattle.write_back.proofs.WalkLaws.{Walked}
use Rattle.write_back.proofs.put_back.Given as goal

abbrev pub invariant-loop-line : goal.invariant-loop-line
invariant-loop-line l = record { done : List ℕ; walked : Walked l.text l.results l.rest l.records done; written : Puts l.fn.page done l.page }

abbrev pub decreases-loop-line : goal.decreases-loop-line
decreases-loop-line l = length l.rest
