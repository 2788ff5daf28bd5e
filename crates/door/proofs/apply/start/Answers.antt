-- The copies, and then what is said. Assumes nothing.
use Rattle.std.proofs.Common.{◌∙◌, ap}
use Rattle.definition.specs.Base.{silence}
use Rattle.definition.specs.Calls.{saying}
use Rattle.tables.specs.Views.{state_view}
use Rattle.door.proofs.apply.start.Goals as goal

pub returns : goal.returns
returns c = c.say.ensures ∙ ap (λ s. saying silence (state_view s)) c.copied.ensures
