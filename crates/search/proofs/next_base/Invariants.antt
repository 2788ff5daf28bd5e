-- One pass over the owners: what it has passed is tried, and a base that has not moved is free. Assumes nothing.
use Rattle.search.specs.Asks.{need_of}
use Rattle.search.proofs.PassLaws.{Passing}
use Rattle.search.proofs.next_base.Given as goal

abbrev pub invariant-loop-k : goal.invariant-loop-k
invariant-loop-k g l = Passing (g.T.Owners.row_at l.owners) (g.T.Owners.view l.owners).count (need_of l.need) l.c l.stop l.k l.b
