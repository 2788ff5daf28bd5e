-- What the search found, or that it found nothing. Assumes nothing.
use Rattle.std.proofs.Common.{refl}
use Rattle.choose.proofs.automatic.Goals as goal

pub returns-in_default : goal.returns-in_default
returns-in_default g c = (c.in_default.ensures.is, rw c.namespace.ensures refl)

pub returns : goal.returns
returns g c = (c.in-Some.ensures.is, refl)
