-- The request's own ask. Assumes nothing.
use Rattle.std.proofs.Common.{refl}
use Rattle.definition.specs.Request.{claims}
use Rattle.kinds.proofs.SetLaws.{input_serves}
use Rattle.kinds.proofs.allocate_wired.Goals as goal

pub returns : goal.returns
unfolding claims
returns c = input_serves _ _ _ _ _ _ _ (λ i. refl) (rw c.makes_sense-good.ensures at c.input_answer.ensures)
