-- A number of 32 bits that is not 0 is a requester's. Assumes nothing.
use Rattle.std.proofs.Common.{rules}
use Rattle.withdraw.proofs.AnswerLaws.{requester_is}
use Rattle.withdraw.proofs.requester.Goals as goal

pub returns : goal.returns
returns c = requester_is c.args.number c.try_from.result _ _ c.try_from.ensures (λ x b t. search rules) (rw c.ok.ensures.value at c.filter.ensures)
