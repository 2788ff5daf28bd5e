-- The kind's own need. Assumes nothing.
use Rattle.std.proofs.Common.{refl, sym, ◌∙◌}
use Rattle.definition.specs.Request.{claims}
use Rattle.kinds.proofs.SetLaws.{range_serves}
use Rattle.request.proofs.GoodLaws.{request_says, mmio_says}
use Rattle.kinds.proofs.allocate_mmio.Goals as goal

pub range_answer-requires : goal.range_answer-requires
range_answer-requires c = rw c.needing-need.ensures (refl, λ h. let g = mmio_says _ _ _ (request_says _ (sym c.makes_sense-good.ensures ∙ h)) in record { size = g.size; alignment = g.alignment })

pub returns : goal.returns
unfolding claims
returns c = range_serves _ _ _ _ _ _ _ refl (λ i. refl) (rw (c.makes_sense-good.ensures, c.needing-need.ensures) at c.range_answer.ensures)
