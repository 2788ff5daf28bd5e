-- The request's own ask. Assumes nothing.
use Rattle.std.proofs.Common.{sym, ◌∙◌}
use Rattle.request.proofs.GoodLaws.{request_says, msi_says}
use Rattle.kinds.proofs.MsiLaws.{msi_serves}
use Rattle.kinds.proofs.allocate_msi.Goals as goal

pub msi_answer-requires : goal.msi_answer-requires
msi_answer-requires c = λ h. msi_says _ _ _ _ _ _ (request_says _ (sym c.makes_sense-good.ensures ∙ h))

pub returns : goal.returns
returns c = msi_serves _ _ _ _ (rw c.makes_sense-good.ensures at c.msi_answer.ensures)
