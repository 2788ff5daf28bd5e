-- One row is on the input by its number and its controller. Assumes nothing.
use Rattle.search.proofs.MeetLaws.{by_controller, by_number}
use Rattle.search.proofs.input.is_on.Goals as goal

pub returns-then-owners-k : goal.returns-then-owners-k
returns-then-owners-k c = by_controller _ _ _ _ 0 0 0 _ _ _ c.if-owners-k.true

pub returns-else-owners-k : goal.returns-else-owners-k
returns-else-owners-k c = by_number _ _ _ _ 0 0 0 _ _ _ c.if-owners-k.false
