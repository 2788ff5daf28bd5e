-- A request is allocated; what stops another call is said. Assumes nothing.
use Rattle.std.proofs.Common.{rules, sym, ◌∙◌, ap}
use Rattle.door.specs.Served.{serve_of}
use Rattle.request.specs.Calls.{call_of}
use Rattle.tables.specs.Views.{state_view}
use Rattle.door.proofs.ServeLaws.{served_stop}
use Rattle.door.proofs.serve.Goals as goal

pub returns-else-is_ok : goal.returns-else-is_ok
returns-else-is_ok c = served_stop c.args.c _ _ _ c.given.ensures c.in_default.not-Want (search rules) (rw c.stop-stopped.ensures at c.say.ensures)

pub returns-in-Want : goal.returns-in-Want
returns-in-Want c = c.allocate.ensures ∙ ap (λ x. serve_of (call_of x) (state_view c.args.s.now)) (sym c.in-Want.is)
