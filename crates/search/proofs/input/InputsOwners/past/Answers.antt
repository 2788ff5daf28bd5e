-- An input that is held is passed by one number. Assumes nothing.
use Rattle.std.proofs.Common.{arith, sym, ◌∙◌}
use Rattle.search.proofs.InputLaws.{input_past, input_stays}
use Rattle.search.proofs.input.InputsOwners.past.Goals as goal

pub returns-then-is_on : goal.returns-then-is_on
returns-then-is_on c = input_past _ _ _ _ _ _ _ _ c.requires.served (sym c.is_on.ensures ∙ c.if-is_on.true) (omega arith)

pub returns-else-is_on : goal.returns-else-is_on
returns-else-is_on c = input_stays _ _ _ _ _ _ _ _ c.requires.served (sym c.is_on.ensures ∙ c.if-is_on.false)
