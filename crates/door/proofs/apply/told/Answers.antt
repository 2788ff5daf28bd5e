-- The kind's own floor. Assumes nothing.
use Rattle.door.proofs.apply.told.Goals as goal

pub returns : goal.returns
returns c = rw c.limits_of.ensures at c.range.ensures.tells
