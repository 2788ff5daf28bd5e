-- Pool rows passed have no free base, and of the row at hand the bases passed are tried. The inner loop's measure is the count of the turns that are left. Assumes nothing.
use Rattle.std.proofs.Common.{◌≡◌, ℕ, ◌<◌, ◌≤◌, ◌%◌, get_or}
use Rattle.search.specs.Asks.{need_of}
use Rattle.search.specs.Finds.{Barren}
use Rattle.search.specs.Steps.{Tried}
use Rattle.search.specs.Turns.{turns}
use Rattle.search.proofs.FoundLaws.{span_at}
use Rattle.search.proofs.find.Given as goal

abbrev pub invariant-loop-i : goal.invariant-loop-i
invariant-loop-i g l = (k : ℕ) → k < l.i → Barren (span_at l.pools k) (g.T.Owners.row_at l.owners) (g.T.Owners.view l.owners).count (need_of l.need)

abbrev pub invariant-loop-c : goal.invariant-loop-c
invariant-loop-c g l =
    (l.c < l.stop → get_or l.pools.start l.i 0 ≤ l.c) × (l.c < l.stop → l.c % l.need.alignment ≡ 0)
    × Tried (g.T.Owners.row_at l.owners) (g.T.Owners.view l.owners).count (need_of l.need) (get_or l.pools.start l.i 0) l.c

abbrev pub decreases-loop-c : goal.decreases-loop-c
decreases-loop-c g l = turns (g.T.Owners.row_at l.owners) (g.T.Owners.view l.owners).count (need_of l.need) l.stop l.c
