-- After i turns what is left of the plan is the rest of its requests. Assumes nothing.
use Rattle.tables.specs.Views.{state_view}
use Rattle.flat.specs.Flat.{bad, requests_from}
use Rattle.plan.proofs.InPlaceLaws.{Left}
use Rattle.plan.proofs.numbers.run_in.Given as goal

abbrev pub invariant-loop-i : goal.invariant-loop-i
invariant-loop-i l = Left (requests_from l.requests 0 l.n) bad (state_view l.fn.state) l.fn.results l.n l.turns l.i (state_view l.state) l.results
