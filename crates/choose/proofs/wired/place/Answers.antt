-- Automatic or fixed. Assumes nothing.
use Rattle.choose.proofs.PlaceLaws.{input_found}
use Rattle.choose.proofs.wired.place.Goals as goal

pub returns-in-Auto : goal.returns-in-Auto
returns-in-Auto c = rw c.in-Auto.is (input_found _ _ _ _ _ (rw c.one_input.ensures at c.automatic.ensures))

pub returns-in-Fixed : goal.returns-in-Fixed
returns-in-Fixed c = rw c.in-Fixed.is (c.fixed.ensures _)
