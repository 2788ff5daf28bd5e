-- One pass over the owners: what it has passed is tried, and a base that has not moved is free. Assumes nothing.
use Rattle.std.proofs.Common.{arith}
use Rattle.search.proofs.PassLaws.{pass_on, pass_stop}
use Rattle.search.proofs.next_base.Goals as goal

pub returns-then-stop-b : goal.returns-then-stop-b
returns-then-stop-b g c = pass_stop _ _ _ _ _ _ _ _ (omega arith) c.loop-k.invariant c.past-b.ensures c.if-stop-b.true

pub loop-k-preserved : goal.loop-k-preserved
loop-k-preserved g c = pass_on _ _ _ _ _ _ _ _ (omega arith) c.loop-k.invariant c.past-b.ensures (omega arith)
