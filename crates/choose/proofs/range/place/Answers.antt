-- Automatic or fixed. Assumes nothing.
use Rattle.choose.proofs.PlaceLaws.{range_found}
use Rattle.choose.proofs.range.place.Goals as goal

pub returns-in-Auto : goal.returns-in-Auto
returns-in-Auto c = rw c.in-Auto.is (range_found _ _ _ _ _ c.automatic.ensures)

pub returns-in-Fixed : goal.returns-in-Fixed
returns-in-Fixed c = rw c.in-Fixed.is (c.fixed.ensures _)
