-- After i turns what is left of the plan is the rest of its requests. Assumes nothing.
use Rattle.std.proofs.Common.{map}
use Rattle.tables.specs.Views.{state_view}
use Rattle.request.specs.Asked.{request_of}
use Rattle.plan.specs.Nobody.{nobody}
use Rattle.plan.proofs.InPlaceLaws.{Left}
use Rattle.plan.proofs.list.run_in.Given as goal

abbrev pub invariant-loop-i : goal.invariant-loop-i
invariant-loop-i l = Left (map request_of l.requests) (request_of nobody) (state_view l.fn.state) l.fn.results l.n l.turns l.i (state_view l.state) l.results
