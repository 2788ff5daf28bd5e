-- How many bytes the pinned text has: the count is that of the bytes done. Assumes nothing.
use Rattle.std.proofs.Common.{◌≡◌, ℕ, List, length}
use Rattle.write_back.proofs.WalkLaws.{Walked}
use Rattle.write_back.proofs.back_length.Given as goal

abbrev pub invariant-loop-line : goal.invariant-loop-line
invariant-loop-line l = record { done : List ℕ; walked : Walked l.text l.results l.rest l.records done; counted : l.count ≡ length done }

abbrev pub decreases-loop-line : goal.decreases-loop-line
decreases-loop-line l = length l.rest
