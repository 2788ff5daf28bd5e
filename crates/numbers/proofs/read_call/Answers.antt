-- A request of the numbers behind the first: there are twelve. Assumes nothing.
use Rattle.numbers.proofs.CallLaws.{room_to_ask}
use Rattle.numbers.proofs.read_call.Goals as goal

pub request_at-requires : goal.request_at-requires
request_at-requires c = room_to_ask c.args.numbers.now _ _ _ c.call_size.ensures c.in-4-first.is c.if-numbers-call_size.false
