-- The bases of a pool row, none where it is of another domain. Assumes nothing.
use Rattle.std.proofs.Common.{arith}
use Rattle.search.proofs.PoolRowLaws.{no_bases_is, some_bases, domain_apart, domain_aside, domain_same}
use Rattle.search.proofs.bases_of.Goals.{else-pools-k-via-then-pools-k+else-pools-k-2, else-pools-k-via-else-pools-k}
use Rattle.search.proofs.bases_of.Goals as goal

pub returns-then-pools-k-2 : goal.returns-then-pools-k-2
returns-then-pools-k-2 c = some_bases _ _ _ (domain_same _ _ _ _ (omega arith) (omega arith)) c.bases_below.ensures

pub returns-else-pools-k : goal.returns-else-pools-k
returns-else-pools-k c = elim c.else-pools-k.branch [
  | else-pools-k-via-then-pools-k+else-pools-k-2 w ↦ no_bases_is _ _ (domain_aside _ _ _ _ (omega arith) w.if-pools-k-2.false)
  | else-pools-k-via-else-pools-k w ↦ no_bases_is _ _ (domain_apart _ _ _ _ w.if-pools-k.false)
]
