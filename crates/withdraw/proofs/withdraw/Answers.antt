-- What came of it is said. Assumes nothing.
use Rattle.std.proofs.Common.{◌∙◌}
use Rattle.withdraw.proofs.withdraw.Goals as goal

pub returns : goal.returns
returns c = c.say.ensures ∙ c.taken-reply.ensures
