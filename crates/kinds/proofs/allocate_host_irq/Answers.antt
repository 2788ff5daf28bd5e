-- The kind's own need. Assumes nothing.
use Rattle.std.proofs.Common.{refl}
use Rattle.definition.specs.Request.{claims}
use Rattle.kinds.proofs.SetLaws.{range_serves}
use Rattle.kinds.proofs.allocate_host_irq.Goals as goal

pub returns : goal.returns
unfolding claims
returns c = range_serves _ _ _ _ _ _ _ refl (λ i. refl) (rw (c.makes_sense-good.ensures, c.needing-need.ensures) at c.range_answer.ensures)
